use Rattle.acl_normal.proofs.Common.{aces_in, AreFirstFrom, principals}
use Rattle.acl_normal.proofs.comparison.placing.firsts.Given as goal

abbrev pub invariant-loop-place : goal.invariant-loop-place
invariant-loop-place l = AreFirstFrom (principals l.whole) (aces_in l.list) l.right.bit l.place l.out.items
