use Rattle.std.proofs.Common.{◌≤◌, List, length}
use Rattle.acl_nfs4.specs.Ace.{Ace}
use Rattle.acl_to_posix.specs.Pruning.{Prunes}
use Rattle.acl_to_posix.specs.ToPosix.{EntryShape, size_of}
use Rattle.acl_to_posix.specs.internal.PruningBody.{AreJudged, shape_left}
use Rattle.acl_to_posix.specs.internal.ShapeBody.{AreColumns}
use Rattle.acl_to_posix.specs.declared.tag_column.TagColumns.{TagColumns}
use Rattle.acl_to_posix.proofs.pruning.prune.Given as goal

-- what is known of the entries that are left, and the steps so far come before all that follow
abbrev pub invariant-loop-name : goal.invariant-loop-name
invariant-loop-name l = (size_of (shape_left l.left.items) ≤ size_of (shape_left l.fn.left.items))
    × ((list : List Ace) (columns : TagColumns) → AreColumns list columns → AreJudged columns l.fn.left.items
    → AreJudged columns l.left.items × ((two : EntryShape) → Prunes list (shape_left l.left.items) two
    → Prunes list (shape_left l.fn.left.items) two))

abbrev pub decreases-loop-name : goal.decreases-loop-name
decreases-loop-name l = length l.left.items
