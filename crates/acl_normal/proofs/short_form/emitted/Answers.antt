use Rattle.std.proofs.lemmas.List.Elements.{All-push}
use Rattle.acl_normal.proofs.Common.{[], ◌++◌, ◌∷◌, Emitted, emitted_ace, IfOk-weaker, IsNormalFormOf, IsOnce, aces_in, aces_with, ap, arith, column, emitted_aces, map-append, mask_numbers, refl, slice_index_or, subst, sym, ◌∙◌, ◌≡◌, ℕ}
use Rattle.acl_normal.specs.internal.emit.Short.{AreLeftOf, IsLeftOf}
use Rattle.acl_normal.proofs.emit.Risen.{all_places, cleared_more, cleared_past, rising_form_of, shown_end, shown_here}
use Rattle.acl_normal.proofs.emit.RisingKeys.{columns_left}
use Rattle.acl_normal.proofs.emit.ShortTurns.{left_cleared, left_named, short_formed}
use Rattle.acl_normal.proofs.rows.ByPlace.{length_of}
use Rattle.acl_normal.proofs.rows.MaskNumbers.{bits_length}
use Rattle.acl_normal.proofs.rows.RowsAlike.{rows_alike}
use Rattle.acl_normal.proofs.unique.Outline.{outline_shown}
use Rattle.acl_normal.proofs.short_form.emitted.Goals as goal
use Rattle.acl_normal.proofs.short_form.emitted.Goals.{then-mask-ne0+in_ok-push, else-mask-ne0}

pub loop-place-preserved : goal.loop-place-preserved
loop-place-preserved c =
    let aces = c.args.aces.now in
    let masks = c.args.masks.now in
    let place = c.loop-place.place in
    let x = c.index-aces-place.result in
    let m = c.index-masks-place.result in
    let whole = aces_in aces in
    let here = shown_here aces masks c.requires.masks c.loop-place-test.true c.index-aces-place.is
    c.index-masks-place.is in
    elim c.if-mask-ne0.branch [
      | then-mask-ne0+in_ok-push w ↦
          let e : Emitted = record { key = w.key.result; mask = m; row = slice_index_or c.args.rows.now place 0 } in
          let own = left_named aces c.args.rows.now place x e c.requires.rows c.loop-place-test.true
          c.index-aces-place.is w.key.ensures.principal refl in
          rw w.left-is (record {
            list = cleared_more (aces_with aces masks) here.within here.item w.if-mask-ne0.true
                c.loop-place.invariant.list
                (ap emitted_aces w.in_ok-push.ensures.items
                ∙ map-append emitted_ace c.loop-place.left.items (e ∷ [])
                ∙ ap (λ a. emitted_aces c.loop-place.left.items ++ a ∷ [])
                (left_cleared x m e w.key.ensures.principal w.key.ensures.kind refl));
            rows = subst (AreLeftOf whole) (sym w.in_ok-push.ensures.items)
                (All-push (IsLeftOf whole) c.loop-place.left.items e c.loop-place.invariant.rows own);
          })
      | else-mask-ne0 w ↦ rw w.left-is (record {
        list = cleared_past (aces_with aces masks) here.within (omega (arith, here.mask, w.if-mask-ne0))
            c.loop-place.invariant.list;
        rows = c.loop-place.invariant.rows;
      })
    ]

pub rises-requires-clause-few : goal.rises-requires-clause-few
rises-requires-clause-few c = omega (arith, length_of c.args.aces.now, c.requires.reduced.accepted.count)

pub rises-requires-clause-rows : goal.rises-requires-clause-rows
rises-requires-clause-rows c =
    rows_alike (aces_in c.args.aces.now) (aces_with c.args.aces.now c.args.masks.now) c.args.rows.now
    (sym (outline_shown c.args.aces.now (mask_numbers c.args.masks.now)
    (bits_length c.args.masks.now ∙ c.requires.masks))) c.requires.rows

pub returns-then-rises : goal.returns-then-rises
returns-then-rises c =
    let list = aces_in c.args.aces.now in
    subst (IsNormalFormOf list) (sym (all_places (aces_with c.args.aces.now c.args.masks.now)
    (shown_end c.args.aces.now c.args.masks.now c.loop-place.place c.requires.masks c.loop-place-test.false)
    c.loop-place.invariant.list))
    (rising_form_of list (aces_with c.args.aces.now c.args.masks.now) c.requires.reduced
    (c.rises.ensures c.if-rises.true))

pub drain_short-requires-clause-once : goal.drain_short-requires-clause-once
drain_short-requires-clause-once c = λ b.
    subst IsOnce (sym (ap (λ v. column (emitted_aces v) b) c.deref_mut.ensures.value
    ∙ ap (λ v. column v b) (all_places (aces_with c.args.aces.now c.args.masks.now)
    (shown_end c.args.aces.now c.args.masks.now c.loop-place.place c.requires.masks c.loop-place-test.false)
    c.loop-place.invariant.list)
    ∙ columns_left b (aces_with c.args.aces.now c.args.masks.now) c.requires.reduced.thinned.tidy.quiet))
    (c.requires.reduced.thinned.tidy.once b)

pub drain_short-requires-clause-rows : goal.drain_short-requires-clause-rows
drain_short-requires-clause-rows c = (
  aces_in c.args.aces.now,
  subst (AreLeftOf (aces_in c.args.aces.now)) (sym c.deref_mut.ensures.value) c.loop-place.invariant.rows,
)

pub returns : goal.returns
returns c =
    let list = aces_in c.args.aces.now in
    let columns : (b : ℕ) → column (emitted_aces c.deref_mut.result.now) b
    ≡ column (aces_with c.args.aces.now c.args.masks.now) b =
    λ b. ap (λ v. column (emitted_aces v) b) c.deref_mut.ensures.value ∙ ap (λ v. column v b) (all_places
    (aces_with c.args.aces.now c.args.masks.now)
    (shown_end c.args.aces.now c.args.masks.now c.loop-place.place c.requires.masks c.loop-place-test.false)
    c.loop-place.invariant.list)
    ∙ columns_left b (aces_with c.args.aces.now c.args.masks.now) c.requires.reduced.thinned.tidy.quiet in
    IfOk-weaker c.drain_short.result _ (λ form. IsNormalFormOf list (emitted_aces form.items))
    (λ form is. short_formed list (aces_with c.args.aces.now c.args.masks.now) (emitted_aces c.deref_mut.result.now)
    (emitted_aces form.items) c.requires.reduced columns is) c.drain_short.ensures
