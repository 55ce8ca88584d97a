use Rattle.acl_normal.proofs.Common.{aces_in, AreWhoms, principals, take}
use Rattle.acl_normal.proofs.comparison.mentioned_principals.whoms.Given as goal

abbrev pub invariant-loop-place : goal.invariant-loop-place
invariant-loop-place l =
    AreWhoms (principals l.numbers.whole.items) (aces_in (take l.place l.aces)) l.whoms.items
