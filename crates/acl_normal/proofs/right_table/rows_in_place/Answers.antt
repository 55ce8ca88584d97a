use Rattle.acl_normal.proofs.Common.{ap, has_bit, map, of_borrowed, sym, ◌∙◌}
use Rattle.acl_normal.proofs.InPlace.{no_row_in_place, row_in_place, rows_in_place}
use Rattle.acl_normal.proofs.emit.Risen.{shown_end, shown_here}
use Rattle.acl_normal.proofs.right_table.rows_in_place.Goals as goal
use Rattle.acl_normal.proofs.right_table.rows_in_place.Goals.{then-is_in+in_ok-push, else-is_in}

pub loop-place-preserved : goal.loop-place-preserved
loop-place-preserved c =
    let b = c.args.right.bit in
    let here = shown_here c.args.aces.now c.args.masks.now c.requires.masks c.loop-place-test.true
    c.index-aces-place.is c.index-masks-place.is in
    elim c.if-is_in.branch [
      | then-is_in+in_ok-push w ↦ rw w.rows-is (row_in_place b c.loop-place.rows.items w.row_at.result
          here.within here.item (sym c.is_in.ensures ∙ w.if-is_in.true) c.requires.tidy w.row_at.ensures.kind
          w.row_at.ensures.who w.row_at.ensures.group w.row_at.ensures.source w.in_ok-push.ensures.items
          c.loop-place.invariant)
      | else-is_in w ↦ rw w.rows-is (no_row_in_place b _ _ (map of_borrowed c.loop-place.rows.items) here.within
          (ap (λ m. has_bit m b) here.mask ∙ sym c.is_in.ensures ∙ w.if-is_in.false) c.loop-place.invariant)
    ]

pub returns : goal.returns
returns c =
    rows_in_place c.args.right.bit _ _ (map of_borrowed c.loop-place.rows.items)
    (shown_end c.args.aces.now c.args.masks.now _ c.requires.masks c.loop-place-test.false) c.loop-place.invariant
