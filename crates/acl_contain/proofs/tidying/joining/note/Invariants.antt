use Rattle.acl_contain.proofs.tidying.joining.note.Given as goal
use Rattle.acl_contain.specs.internal.Joining.{AreEndsNoted}

-- the end is noted for the rights below the bit
abbrev pub invariant-loop-bit : goal.invariant-loop-bit
invariant-loop-bit l = AreEndsNoted l.bit l.initial.rights.items l.mask.bits l.kind l.users l.end l.rights.items
