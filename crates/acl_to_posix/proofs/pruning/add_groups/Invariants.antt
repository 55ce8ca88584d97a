use Rattle.std.proofs.Common.{take}
use Rattle.acl_to_posix.specs.internal.PruningBody.{AreJudgedFor}
use Rattle.acl_to_posix.specs.internal.ShapeBody.{users_of, entry_shape_of}
use Rattle.acl_to_posix.proofs.pruning.add_groups.Given as goal

-- the groups so far have their entries, as all users have
abbrev pub invariant-loop-group : goal.invariant-loop-group
invariant-loop-group l =
    AreJudgedFor l.columns (entry_shape_of l.shape) (users_of (entry_shape_of l.shape)) l.fn.left.items
    → AreJudgedFor l.columns (entry_shape_of l.shape)
    (record { users = (entry_shape_of l.shape).users; groups = take l.group-index (entry_shape_of l.shape).groups })
    l.left.items
