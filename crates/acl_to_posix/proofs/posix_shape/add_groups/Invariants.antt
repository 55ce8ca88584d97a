use Rattle.std.proofs.Common.{List, take}
use Rattle.acl_nfs4.specs.Ace.{Ace}
use Rattle.acl_to_posix.specs.internal.ShapeBody.{AreColumns, IsEntryPut, users_of, entry_shape_of}
use Rattle.acl_to_posix.proofs.posix_shape.add_groups.Given as goal

-- the groups so far have their entries
abbrev pub invariant-loop-group : goal.invariant-loop-group
invariant-loop-group l = (list : List Ace) → AreColumns list l.columns
    → IsEntryPut list (entry_shape_of l.shape) (users_of (entry_shape_of l.shape)) l.fn.acl
    → IsEntryPut list (entry_shape_of l.shape)
    (record { users = (entry_shape_of l.shape).users; groups = take l.group-index (entry_shape_of l.shape).groups })
    l.acl
