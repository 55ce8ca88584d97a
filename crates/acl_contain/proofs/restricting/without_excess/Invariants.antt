use Rattle.acl_normal.specs.Common.{aces_in}
use Rattle.acl_contain.specs.internal.Kept.{HaveKept}
use Rattle.acl_contain.specs.internal.Limits.{bound_of}
use Rattle.acl_contain.proofs.restricting.without_excess.Given as goal

-- the ACEs have kept what stays of the bits below
abbrev pub invariant-loop-bit : goal.invariant-loop-bit
invariant-loop-bit l = HaveKept (aces_in l.aces) (bound_of l.named) l.bit 0 (aces_in l.kept.items)
