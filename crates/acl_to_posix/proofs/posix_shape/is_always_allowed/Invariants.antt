use Rattle.std.proofs.Common.{◌≡◌, drop}
use Rattle.acl_posix.specs.Tag.{tag_of}
use Rattle.acl_to_posix.specs.internal.ShapeBody.{always, is_certain, may_match, keys_of, entry_shape_of}
use Rattle.acl_to_posix.proofs.posix_shape.is_always_allowed.Given as goal

-- the keys that are left answer as all keys do
abbrev pub invariant-loop-key : goal.invariant-loop-key
invariant-loop-key l =
    always (is_certain (tag_of l.entry)) (may_match (entry_shape_of l.shape) (tag_of l.entry))
    (keys_of (drop l.key-index l.keys))
    ≡ always (is_certain (tag_of l.entry)) (may_match (entry_shape_of l.shape) (tag_of l.entry)) (keys_of l.keys)
