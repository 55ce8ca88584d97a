use Rattle.acl_normal.proofs.comparison.columns.numbers_with.Given as goal
use Rattle.acl_normal.specs.internal.comparison.Columns.{AreNumbersOf}

abbrev pub invariant-loop-number : goal.invariant-loop-number
invariant-loop-number l = AreNumbersOf l.rights l.right.bit l.number l.numbers.items l.places.items
