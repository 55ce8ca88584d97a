use Rattle.acl_normal.proofs.comparison.evaluation.granted.Given as goal
use Rattle.acl_normal.proofs.comparison.SetEvaluation.{DecidesAll}
use Rattle.acl_normal.proofs.Common.{IsMask, set_of}

abbrev pub invariant-loop-item : goal.invariant-loop-item
invariant-loop-item l = record {
  decides : DecidesAll l.list (set_of l.set) l.item-index l.granted.0 l.decided.0;
  granted : IsMask l.granted.0;
  decided : IsMask l.decided.0;
}
