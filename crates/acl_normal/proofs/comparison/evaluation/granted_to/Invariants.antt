use Rattle.acl_normal.proofs.Common.{aces_in, AreWhoms, IsMask, List, Principal}
use Rattle.acl_normal.proofs.comparison.evaluation.granted_to.Given as goal
use Rattle.acl_normal.proofs.comparison.SetEvaluation.{DecidesAll}
use Rattle.acl_normal.specs.internal.comparison.Members.{AreNumbered, members_of}

abbrev pub invariant-loop-place : goal.invariant-loop-place
invariant-loop-place l = record {
  decides : (whole : List Principal) → AreWhoms whole (aces_in l.list) l.whoms → AreNumbered whole l.set
      → DecidesAll l.list (members_of whole l.set) l.place l.granted.0 l.decided.0;
  granted : IsMask l.granted.0;
  decided : IsMask l.decided.0;
}
