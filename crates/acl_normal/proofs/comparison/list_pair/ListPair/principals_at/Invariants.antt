use Rattle.acl_normal.proofs.Common.{map, principals, take, ◌≡◌}
use Rattle.acl_normal.proofs.comparison.list_pair.ListPair.principals_at.Given as goal
use Rattle.acl_normal.specs.internal.comparison.TwoLists.{principal_at}

abbrev pub invariant-loop-number : goal.invariant-loop-number
invariant-loop-number l = principals l.found.items ≡ map (principal_at l.self) (take l.number-index l.numbers)
