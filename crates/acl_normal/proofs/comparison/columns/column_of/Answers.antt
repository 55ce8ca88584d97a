use Rattle.acl_normal.proofs.Common.{sym, ◌∙◌}
use Rattle.acl_normal.proofs.comparison.ColumnLemmas.{column_done, column_more, column_same, whoms_done, whoms_more, whoms_same}
use Rattle.acl_normal.proofs.comparison.columns.column_of.Goals as goal
use Rattle.acl_normal.proofs.comparison.columns.column_of.Goals.{then-is_in+in_ok-push+in_ok-push-2, else-is_in}

pub loop-place-preserved : goal.loop-place-preserved
loop-place-preserved c = elim c.if-is_in.branch [
  | then-is_in+in_ok-push+in_ok-push-2 w ↦ record {
    aces = rw w.aces-is (column_more c.args.list.now c.loop-place-test.true c.index-list-place.is
        (sym c.is_in.ensures ∙ w.if-is_in.true) w.in_ok-push.ensures.items c.loop-place.invariant.aces);
    named = rw w.named-is (whoms_more c.args.list.now c.args.whoms.now c.loop-place-test.true c.requires.whoms
        c.index-list-place.is (sym c.is_in.ensures ∙ w.if-is_in.true) w.renumbered.ensures
        w.in_ok-push-2.ensures.items c.loop-place.invariant.named);
  }
  | else-is_in w ↦ record {
    aces = rw w.aces-is (column_same c.args.list.now c.loop-place-test.true c.index-list-place.is
        (sym c.is_in.ensures ∙ w.if-is_in.false) c.loop-place.invariant.aces);
    named = rw w.named-is (whoms_same c.args.list.now c.args.whoms.now c.loop-place-test.true c.requires.whoms
        c.index-list-place.is (sym c.is_in.ensures ∙ w.if-is_in.false) c.loop-place.invariant.named);
  }
]

pub returns-clause-aces : goal.returns-clause-aces
returns-clause-aces c = column_done c.args.list.now c.loop-place-test.false c.loop-place.invariant.aces

pub returns-clause-whoms : goal.returns-clause-whoms
returns-clause-whoms c =
    whoms_done c.args.list.now c.args.whoms.now c.loop-place-test.false c.loop-place.invariant.named
