use Rattle.acl_normal.proofs.Common.{Ace, List, principal}
use Rattle.acl_normal.specs.internal.emit.Short.{AreLeftOf}
use Rattle.acl_normal.proofs.emit.ShortTurns.{HasTaken}
use Rattle.acl_normal.proofs.emit.short.take_from.Given as goal

-- the rights were taken from what is before the place
abbrev pub invariant-loop-place : goal.invariant-loop-place
invariant-loop-place l = record {
  taken : HasTaken (principal l.gone.key.principal) l.gone.mask.bits l.fn.left l.left l.place;
  rows : (xs : List Ace) → AreLeftOf xs l.fn.left → AreLeftOf xs l.left;
}
