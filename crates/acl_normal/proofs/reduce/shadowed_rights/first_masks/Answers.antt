use Rattle.acl_normal.proofs.Common.{ace, ap, arith, Bool, counts, false, no_bit, sym, true, ℕ, ◌&&◌, ◌≡◌, mask_numbers, has_bit, IsDifference, refl, subst, ◌||◌, ◌∙◌}
use Rattle.acl_normal.proofs.reduce.FirstMasks.{reaches_more, reaches_none, reaches_thinned, row_seen}
use Rattle.acl_normal.proofs.reduce.shadowed_rights.first_masks.Goals as goal
use Rattle.acl_normal.proofs.reduce.shadowed_rights.first_masks.Goals.{then-takes_part, else-takes_part}
use Rattle.acl_normal.proofs.rows.MaskNumbers.{bits_all, bits_length}

-- an ACE that takes part counts with its rights
counted : {x y : Bool} → y ≡ true → x ≡ (x && y)
counted {x} {y} e = grind (arith, e)

-- another one does not count
uncounted : (x : Bool) {y : Bool} → y ≡ false → false ≡ (x && y)
uncounted x {y} e = grind (arith, e)

pub loop-place-init : goal.loop-place-init
loop-place-init c = record {
  within = refl;
  reaches =
      reaches_none c.args.aces.now _ _ (ap mask_numbers c.in_ok-masks.ensures.items)
      (ap mask_numbers (c.in_ok-seen.ensures.items_if_clones_equal (λ y e. e)) ∙ bits_all _ _);
}

pub index_mut-here-requires : goal.index_mut-here-requires
index_mut-here-requires c =
    let row = row_seen _ c.args.rows.now c.loop-place.seen.items c.requires.rows c.loop-place-test.true
    c.index-aces-place.is c.loop-place.invariant.reaches.holds in
    omega (arith, c.loop-place.seen.ok, row)

pub loop-place-preserved : goal.loop-place-preserved
loop-place-preserved c =
    let part : (b : ℕ) → has_bit c.if-takes_part.active.0 b ≡ counts b (ace c.index-aces-place.result) =
    λ b. elim c.if-takes_part.branch [
      | then-takes_part w ↦ rw w.active-is (counted (sym c.takes_part.ensures ∙ w.if-takes_part.true))
      | else-takes_part w ↦ rw w.active-is (no_bit b ∙ uncounted (has_bit c.index-aces-place.result.mask.bits b)
          (sym c.takes_part.ensures ∙ w.if-takes_part.false))
    ] in record {
      within = c.union-everyone.result.within;
      reaches =
          rw c.in_ok-push.ensures.items
          (reaches_more c.args.aces.now c.args.rows.now c.loop-place.place c.loop-place.masks.items
          c.loop-place.seen.items _ _ c.index-aces-place.result c.index_mut-here.result.now
          c.union-in-loop-place.result c.difference-fresh.result c.loop-place.invariant.reaches (record {
            numbers = c.requires.rows;
            below = c.loop-place-test.true;
            is = c.index-aces-place.is;
            in_row = c.index_mut-here.ensures.value;
            active = c.if-takes_part.active.0;
            takes_part = part;
            new =
                subst (λ v. IsDifference c.if-takes_part.active.0 v c.difference-fresh.result.bits)
                c.union.ensures.value
                c.difference-fresh.ensures.meaning;
            together = c.union-in-loop-place.ensures.value;
          }) (λ b. c.union-everyone.ensures.meaning b
          ∙ ap (λ t. has_bit c.loop-place.everyone.0 b || t) (c.of_everyone.ensures b)));
    }

pub returns-clause-places : goal.returns-clause-places
returns-clause-places c =
    let count = c.loop-place.invariant.reaches.count in
    let masks = bits_length c.loop-place.masks.items in
    omega (arith, count, masks, c.loop-place.masks.ok, c.loop-place-test.false, c.loop-place.auto.place-end)

pub returns-clause-thinned : goal.returns-clause-thinned
returns-clause-thinned c =
    reaches_thinned c.args.aces.now c.loop-place.place c.requires.accepted c.loop-place.invariant.reaches
    c.loop-place-test.false
