use Rattle.std.proofs.Common.{◌≡◌, slice_index_or}
use Rattle.acl_normal.proofs.Common.{ap, arith, mask_numbers, IsRowOf, masks_left, principal, slice_set, subst, sym, take_out, with_masks, without, ◌∙◌}
use Rattle.acl_normal.proofs.emit.InRemaining.{row_of_named, taken_right, taken_view}
use Rattle.acl_normal.proofs.unique.Bits.{difference_is}
use Rattle.acl_normal.proofs.rows.remaining.Remaining.take_out.Goals as goal
use Rattle.acl_normal.proofs.rows.MaskNumbers.{bits_at, bits_set}

pub index-requires : goal.index-requires
index-requires c =
    let s = c.self.inside in
    let at_row = subst (IsRowOf c.args.row (principal c.args.p)) (sym c.self.view_is) c.requires in
    omega (arith, row_of_named s c.args.row (principal c.args.p) c.self.invariant at_row, s.left.ok)

pub index_mut-requires : goal.index_mut-requires
index_mut-requires c =
    let s = c.self.inside in
    let at_row = subst (IsRowOf c.args.row (principal c.args.p)) (sym c.self.view_is) c.requires in
    omega (arith, row_of_named s c.args.row (principal c.args.p) c.self.invariant at_row, s.left.ok)

-- what is left of the row is without the rights
taken : (c : goal.After-self-1) → c.difference.result.bits
    ≡ without (slice_index_or (mask_numbers c.self.inside.left.items) c.args.row 0) c.args.mask.bits
taken c =
    let s = c.self.inside in
    let at_row = subst (IsRowOf c.args.row (principal c.args.p)) (sym c.self.view_is) c.requires in
    let below = row_of_named s c.args.row (principal c.args.p) c.self.invariant at_row in
    difference_is _ _ c.difference.ensures.meaning
    ∙ ap (λ v. without v c.args.mask.bits) (sym (bits_at s.left.items c.args.row 0 _ below c.index.ensures))

pub invariant_of-self : goal.invariant_of-self
invariant_of-self c =
    let s = c.self.inside in
    let at_row = subst (IsRowOf c.args.row (principal c.args.p)) (sym c.self.view_is) c.requires in
    taken_right s c.args.row c.args.mask.bits c.difference.result (principal c.args.p) c.self.invariant at_row (taken c)

pub returns : goal.returns
returns c =
    let s = c.self.inside in
    let at_row = subst (IsRowOf c.args.row (principal c.args.p)) (sym c.self.view_is) c.requires in
    ap (λ v. with_masks s.aces.items (masks_left (mask_numbers s.masks.items) s.rows.items v))
    (bits_set s.left.items c.args.row c.difference.result
    ∙ ap (slice_set (mask_numbers s.left.items) c.args.row) (taken c))
    ∙ taken_view s c.args.row c.args.mask.bits (principal c.args.p) c.self.invariant at_row
    ∙ ap (take_out (principal c.args.p) c.args.mask.bits) c.self.view_is
