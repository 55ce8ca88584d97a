use Rattle.acl_normal.proofs.Common.{aces_with, arith, mask_numbers, HasRisen, refl, subst, sym, with_masks, ◌+◌, ◌∙◌}
use Rattle.acl_normal.proofs.emit.Risen.{all_risen, has_row, mask_of, number_there, risen_more, risen_past}
use Rattle.acl_normal.proofs.unique.Outline.{masked_count}
use Rattle.acl_normal.proofs.emit.rising.rises.Goals as goal
use Rattle.acl_normal.proofs.emit.rising.rises.Goals.{then-mask-ne0+else-number-bound, else-mask-ne0}

pub bounds-rows-place : goal.bounds-rows-place
bounds-rows-place c =
    let row = has_row c.args.aces.now c.args.masks.now c.args.rows.now c.loop-place.place c.requires.masks
    c.requires.rows c.loop-place-test.true in
    omega (arith, row.there)

pub key_number-number-requires : goal.key_number-number-requires
key_number-number-requires c =
    let row = has_row c.args.aces.now c.args.masks.now c.args.rows.now c.loop-place.place c.requires.masks
    c.requires.rows c.loop-place-test.true in
    omega (arith, row.few, c.requires.few)

pub loop-place-preserved : goal.loop-place-preserved
loop-place-preserved c =
    let masks = mask_numbers c.args.masks.now in
    let xs = with_masks c.args.aces.now masks in
    let place = c.loop-place.place in
    let count = masked_count c.args.aces.now c.args.masks.now c.requires.masks in
    let mask = mask_of c.args.aces.now c.args.masks.now place c.index-masks-place.result c.requires.masks
    c.loop-place-test.true c.index-masks-place.is in
    elim c.if-mask-ne0.branch [
      | then-mask-ne0+else-number-bound w ↦
          subst (λ v. HasRisen xs (place + 1) v) (sym w.bound-is)
          (risen_more xs place c.loop-place.bound _
          (w.key_number-number.ensures.value
          ∙ number_there c.args.aces.now masks c.args.rows.now place c.index-aces-place.result _ c.requires.rows
          (omega (arith, count, c.loop-place-test.true)) c.index-aces-place.is refl)
          (omega (arith, w.if-number-bound)) c.loop-place.invariant)
      | else-mask-ne0 w ↦
          subst (λ v. HasRisen xs (place + 1) v) (sym w.bound-is)
          (risen_past xs place c.loop-place.bound (omega (arith, mask, w.if-mask-ne0)) c.loop-place.invariant)
    ]

pub returns : goal.returns
returns c _ =
    all_risen (aces_with c.args.aces.now c.args.masks.now) c.loop-place.place c.loop-place.bound
    (omega (arith, masked_count _ _ c.requires.masks, c.loop-place-test.false)) c.loop-place.invariant
