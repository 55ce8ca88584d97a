use Rattle.acl_normal.specs.Common.{aces_in}
use Rattle.acl_contain.specs.internal.Kept.{HaveKept}
use Rattle.acl_contain.specs.internal.Limits.{bound_of}
use Rattle.acl_contain.proofs.restricting.take_excess.Given as goal

-- the ACEs before the place have kept what stays of the right
abbrev pub invariant-loop-place : goal.invariant-loop-place
invariant-loop-place l = HaveKept (aces_in l.aces) (bound_of l.named) l.right.bit l.place (aces_in l.kept.items)
