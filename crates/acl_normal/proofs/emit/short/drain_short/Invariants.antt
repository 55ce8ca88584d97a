use Rattle.acl_normal.proofs.Common.{Ace, count_left, emitted_aces, HasOnceColumns, List}
use Rattle.acl_normal.specs.internal.emit.Short.{AreLeftOf}
use Rattle.acl_normal.proofs.emit.SoFar.{Completes}
use Rattle.acl_normal.proofs.emit.short.drain_short.Given as goal

-- what was emitted, before what is emitted from the rest, is emitted from the whole
abbrev pub invariant-emitted : goal.invariant-emitted
invariant-emitted l = record {
  once : HasOnceColumns (emitted_aces l.left);
  completes : Completes (emitted_aces l.fn.left) l.out.items (emitted_aces l.left);
  rows : (xs : List Ace) → AreLeftOf xs l.fn.left → AreLeftOf xs l.left;
}

-- fewer keys are left each time
abbrev pub decreases-emitted : goal.decreases-emitted
decreases-emitted l = count_left 21 (emitted_aces l.left)
