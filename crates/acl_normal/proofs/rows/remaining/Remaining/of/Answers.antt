use Rattle.std.proofs.Common.{◌≡◌, length, slice_index_or}
use Rattle.acl_normal.proofs.Common.{ap, arith, mask_numbers, get_or-replicate, masks_left, with_masks, ◌∙◌}
use Rattle.acl_normal.proofs.emit.InRemaining.{all_remains, begins_right}
use Rattle.acl_normal.proofs.rows.remaining.Remaining.of.Goals as goal
use Rattle.acl_normal.proofs.rows.MaskNumbers.{bits_all, bits_length}

-- all is left of the masks
all : (c : goal.In_ok-left)
    → masks_left (mask_numbers c.args.reduced.masks.items) c.args.reduced.numbers.rows.items
    (mask_numbers c.in_ok-left.left.items) ≡ mask_numbers c.args.reduced.masks.items
all c =
    let r = c.args.reduced in
    let count : length c.in_ok-left.left.items ≡ length r.aces.items =
    omega (arith, c.in_ok-left.ensures.len, c.in_ok-left.left.ok, c.len.ensures, r.aces.ok) in
    let kept : length (mask_numbers c.in_ok-left.left.items) ≡ length r.aces.items =
    bits_length c.in_ok-left.left.items ∙ count in
    all_remains r.aces.items r.masks.items r.numbers.rows.items (mask_numbers c.in_ok-left.left.items)
    (omega (arith, c.requires.places, r.masks.ok, r.aces.ok)) kept c.requires.reduced.rows
    (λ i l. ap (λ v. slice_index_or v i 0)
    (ap mask_numbers (c.in_ok-left.ensures.items_if_clones_equal (λ y e. e)) ∙ bits_all _ _)
    ∙ get_or-replicate _ i _ 0 (omega (arith, l, kept, c.len.ensures, r.aces.ok)))

pub invariant_of-result : goal.invariant_of-result
invariant_of-result c =
    begins_right _ (omega (arith, c.requires.few, c.args.reduced.aces.ok))
    (omega (arith, c.requires.places, c.args.reduced.aces.ok))
    (omega (arith, c.in_ok-left.ensures.len, c.len.ensures, c.args.reduced.aces.ok))
    c.requires.reduced (all c)

pub returns : goal.returns
returns c = ap (with_masks c.args.reduced.aces.items) (all c)
