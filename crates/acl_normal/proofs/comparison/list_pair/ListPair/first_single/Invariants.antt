use Rattle.acl_normal.proofs.Common.{ℕ, ◌<◌}
use Rattle.acl_normal.proofs.comparison.list_pair.ListPair.first_single.Given as goal
use Rattle.acl_normal.specs.internal.comparison.FirstPlaces.{OnAll}
use Rattle.acl_normal.specs.internal.comparison.TwoLists.{AlikeToOne}

abbrev pub invariant-loop-number : goal.invariant-loop-number
invariant-loop-number l = (k : ℕ) → k < l.number → OnAll (AlikeToOne l.self) k
