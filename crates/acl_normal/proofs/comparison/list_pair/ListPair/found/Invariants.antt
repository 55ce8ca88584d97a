use Rattle.acl_normal.proofs.comparison.FoundSoFar.{IsFoundBelow}
use Rattle.acl_normal.proofs.comparison.list_pair.ListPair.found.Given as goal

abbrev pub invariant-loop-bit : goal.invariant-loop-bit
invariant-loop-bit l = IsFoundBelow l.self l.bit l.found
