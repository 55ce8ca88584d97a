use Rattle.acl_normal.proofs.Common.{ace, AceRef, ap, arith, mask_numbers, masks_left, principal_of, ◌∙◌}
use Rattle.acl_normal.proofs.rows.BitsTaken.{key_of_left, place_of_left}
use Rattle.acl_normal.proofs.rows.remaining.Remaining.ace_at.Goals as goal

pub index-requires : goal.index-requires
index-requires c =
    let s = c.self.inside in
    omega (
      arith,
      s.aces.ok,
      place_of_left s.aces.items (masks_left (mask_numbers s.masks.items) s.rows.items (mask_numbers s.left.items))
          c.args.place _ c.self.view_is c.requires,
    )

pub returns : goal.returns
returns c =
    let s = c.self.inside in
    ap (λ (v : AceRef). (principal_of (ace v), v.kind)) c.index.ensures
    ∙ key_of_left _ (masks_left (mask_numbers s.masks.items) s.rows.items (mask_numbers s.left.items)) _
    c.self.view_is c.requires
