use Rattle.std.proofs.Common.{◌≡◌, ◌≤◌, Bool, drop, false, length}
use Rattle.acl_posix.specs.Tag.{Tag}
use Rattle.acl_to_posix.specs.internal.ShapeBody.{AreFirst, column_decided_by, keys_of, tagged_column}
use Rattle.acl_to_posix.proofs.tag_column.column.Given as goal

-- the keys so far, and then the ACEs that are left, decide as all ACEs do; no tag is there twice
abbrev pub invariant-loop-ace : goal.invariant-loop-ace
invariant-loop-ace l =
    ((test : Tag → Bool) → column_decided_by test (keys_of l.keys.items)
    (column_decided_by test (tagged_column (drop l.ace-index l.aces) l.right.bit) false)
    ≡ column_decided_by test (tagged_column l.aces l.right.bit) false) ×
    AreFirst (keys_of l.keys.items) ×
    (length l.keys.items ≤ l.ace-index)
