use Rattle.std.proofs.Common.{◌≡◌, ◌<◌, bit_and, length, slice_index_or}
use Rattle.acl_normal.proofs.Common.{ap, arith, mask_numbers, mask_here, remaining_of, subst, sym, ◌∙◌}
use Rattle.acl_normal.proofs.emit.Few.{remainder_of}
use Rattle.acl_normal.proofs.emit.InRemaining.{length_remaining, mask_remaining, row_of_place, row_there}
use Rattle.acl_normal.proofs.rows.remaining.Remaining.mask_at.Goals as goal
use Rattle.acl_normal.proofs.rows.MaskNumbers.{bits_at}

pub index-requires : goal.index-requires
index-requires c =
    let s = c.self.inside in
    let within : c.args.place < length (remaining_of s) =
    subst (λ v. c.args.place < length v) (sym c.self.view_is) c.requires in
    omega (arith, within, length_remaining s c.self.invariant, c.self.invariant.masks)

pub index-requires-3 : goal.index-requires-3
index-requires-3 c =
    let s = c.self.inside in
    let within : c.args.place < length (remaining_of s) =
    subst (λ v. c.args.place < length v) (sym c.self.view_is) c.requires in
    let row = c.index-2.ensures ∙ row_there s _ _ c.self.invariant within in
    omega (arith, row, row_of_place s c.args.place c.self.invariant within, s.left.ok)

pub returns-clause-mask : goal.returns-clause-mask
returns-clause-mask c =
    let s = c.self.inside in
    let within : c.args.place < length (remaining_of s) =
    subst (λ v. c.args.place < length v) (sym c.self.view_is) c.requires in
    let row = c.index-2.ensures ∙ row_there s _ _ c.self.invariant within in
    let mask : slice_index_or (mask_numbers s.masks.items) c.args.place 0 ≡ c.index.result.now.bits =
    bits_at s.masks.items c.args.place 0 _
    (omega (arith, within, length_remaining s c.self.invariant, c.self.invariant.masks, s.masks.ok)) c.index.ensures in
    let left_below : c.index-2.result.now < length s.left.items =
    omega (arith, row, row_of_place s c.args.place c.self.invariant within) in
    let left : slice_index_or (mask_numbers s.left.items) (slice_index_or s.rows.items c.args.place 0) 0
    ≡ c.index-3.result.now.bits =
    ap (λ v. slice_index_or (mask_numbers s.left.items) v 0) (sym row)
    ∙ bits_at s.left.items c.index-2.result.now 0 _ left_below c.index-3.ensures in
    c.intersection.ensures.value
    ∙ ap (λ v. bit_and v c.index-3.result.now.bits) (sym mask)
    ∙ ap (bit_and (slice_index_or (mask_numbers s.masks.items) c.args.place 0)) (sym left)
    ∙ sym (mask_remaining s c.args.place c.self.invariant within)
    ∙ ap (λ v. mask_here v c.args.place) c.self.view_is

pub returns-clause-list : goal.returns-clause-list
returns-clause-list c = remainder_of c.self.inside c.args.self.now c.self.invariant c.self.view_is
