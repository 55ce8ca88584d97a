use Rattle.acl_normal.proofs.comparison.ColumnLemmas.{AreWhomsSoFar, IsColumnSoFar}
use Rattle.acl_normal.proofs.comparison.columns.column_of.Given as goal

abbrev pub invariant-loop-place : goal.invariant-loop-place
invariant-loop-place l = record {
  aces : IsColumnSoFar l.right.bit l.place l.list l.aces.items;
  named : AreWhomsSoFar l.places l.right.bit l.place l.list l.whoms l.named.items;
}
