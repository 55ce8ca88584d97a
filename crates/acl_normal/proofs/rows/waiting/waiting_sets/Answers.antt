use Rattle.acl_normal.proofs.Common.{ap, arith, is_user, is_users, length, mask_numbers, subst, take_all, with_masks, ◌∙◌, ◌≡◌}
use Rattle.acl_normal.specs.internal.rows.Waiting.{HoldWaiting}
use Rattle.acl_normal.proofs.rows.WaitingPlaces.{holds_next}
use Rattle.acl_normal.proofs.unique.Outline.{length_shown}
use Rattle.acl_normal.proofs.rows.waiting.waiting_sets.Goals as goal
use Rattle.acl_normal.proofs.rows.MaskNumbers.{bits_at, bits_length}

pub loop-place-preserved : goal.loop-place-preserved
loop-place-preserved c =
    let place = c.loop-place.place in
    let masks = mask_numbers c.args.masks.now in
    let count : length masks ≡ length c.args.aces.now = bits_length c.args.masks.now ∙ c.requires.places in
    let at = bits_at c.args.masks.now place 0 _ (omega (arith, c.loop-place-test.true, c.requires.places))
    c.index-masks-place.is in
    holds_next c.args.aces.now masks place _ c.index-aces-place.result
    (is_users c.of-class.result) c.loop-place.sets.items
    c.put.new.sets.items c.requires.quiet count c.loop-place-test.true c.index-aces-place.is at
    (c.of-class.ensures ∙ ap is_user c.principal.ensures) c.in_ok-put.ensures c.loop-place.invariant

pub returns : goal.returns
returns c =
    let masks = mask_numbers c.args.masks.now in
    let xs = with_masks c.args.aces.now masks in
    let count = length_shown c.args.aces.now masks (bits_length c.args.masks.now ∙ c.requires.places) in
    subst (λ v. HoldWaiting v c.loop-place.sets.items)
    (take_all c.loop-place.place xs (omega (arith, count, c.loop-place-test.false))) c.loop-place.invariant
