use Rattle.std.proofs.Common.{List, [], take}
use Rattle.acl_nfs4.specs.Ace.{Ace}
use Rattle.acl_to_posix.specs.internal.ShapeBody.{AreColumns, IsEntryPut, empty_shape, entry_shape_of}
use Rattle.acl_to_posix.proofs.posix_shape.add_users.Given as goal

-- the users so far have their entries
abbrev pub invariant-loop-user : goal.invariant-loop-user
invariant-loop-user l = (list : List Ace) → AreColumns list l.columns
    → IsEntryPut list (entry_shape_of l.shape) empty_shape l.fn.acl
    → IsEntryPut list (entry_shape_of l.shape)
    (record { users = take l.user-index (entry_shape_of l.shape).users; groups = [] }) l.acl
