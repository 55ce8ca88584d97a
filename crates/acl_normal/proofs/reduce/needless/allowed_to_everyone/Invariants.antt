use Rattle.acl_normal.proofs.Common.{aces_with, IsMask}
use Rattle.acl_normal.proofs.reduce.LaterBits.{AllowsTo}
use Rattle.acl_normal.proofs.reduce.needless.allowed_to_everyone.Given as goal

abbrev pub invariant-loop-place : goal.invariant-loop-place
invariant-loop-place l = record {
  within : IsMask l.allowed.0;
  allows : AllowsTo (aces_with l.aces l.masks) l.place l.allowed.0;
}
