use Rattle.std.proofs.Common.{◌≡◌, drop}
use Rattle.acl_posix.specs.Tag.{tag_of}
use Rattle.acl_to_posix.specs.internal.ShapeBody.{has_tag, keys_of}
use Rattle.acl_to_posix.proofs.tag_column.has_tag.Given as goal

-- the keys that are left have the tag if and only if all have it
abbrev pub invariant-loop-key : goal.invariant-loop-key
invariant-loop-key l =
    has_tag (tag_of l.whom) (keys_of (drop l.key-index l.keys)) ≡ has_tag (tag_of l.whom) (keys_of l.keys)
