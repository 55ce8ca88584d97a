use Rattle.acl_posix.proofs.edits.class_union.Goals as goal

pub invariant_of-union : goal.invariant_of-union
invariant_of-union c = record { within = c.loop-entry.invariant.within }

pub invariant_of-union-2 : goal.invariant_of-union-2
invariant_of-union-2 c = record { within = c.loop-entry.invariant.within }
