use Rattle.acl_contain.proofs.tidying.joining.is_barred.Given as goal
use Rattle.acl_contain.specs.internal.Joining.{IsFreeBelow}

-- no right below the bit is barred
abbrev pub invariant-loop-bit : goal.invariant-loop-bit
invariant-loop-bit l = IsFreeBelow l.bit l.rights l.mask.bits l.kind l.users l.end
