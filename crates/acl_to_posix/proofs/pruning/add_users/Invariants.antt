use Rattle.std.proofs.Common.{[], take}
use Rattle.acl_to_posix.specs.internal.PruningBody.{AreJudgedFor}
use Rattle.acl_to_posix.specs.internal.ShapeBody.{empty_shape, entry_shape_of}
use Rattle.acl_to_posix.proofs.pruning.add_users.Given as goal

-- the users so far have their entries
abbrev pub invariant-loop-user : goal.invariant-loop-user
invariant-loop-user l = AreJudgedFor l.columns (entry_shape_of l.shape) empty_shape l.fn.left.items
    → AreJudgedFor l.columns (entry_shape_of l.shape)
    (record { users = take l.user-index (entry_shape_of l.shape).users; groups = [] }) l.left.items
