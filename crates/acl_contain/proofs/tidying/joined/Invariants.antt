use Rattle.acl_normal.specs.Common.{aces_in}
use Rattle.acl_contain.proofs.tidying.joined.Given as goal
use Rattle.acl_contain.specs.internal.Joining.{IsPass}

-- the ACEs before the place are joined
abbrev pub invariant-loop-place : goal.invariant-loop-place
invariant-loop-place l = IsPass (aces_in l.aces) l.numbered l.place l.pass
