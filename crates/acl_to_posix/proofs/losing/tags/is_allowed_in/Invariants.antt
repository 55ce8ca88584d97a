use Rattle.std.proofs.Common.{◌≡◌, drop, false}
use Rattle.acl_posix.specs.Tag.{tag_of}
use Rattle.acl_to_posix.specs.internal.ShapeBody.{column_decided_by, is_certain, keys_of}
use Rattle.acl_to_posix.proofs.losing.tags.is_allowed_in.Given as goal

-- the keys that are left decide as all keys do
abbrev pub invariant-loop-key : goal.invariant-loop-key
invariant-loop-key l =
    column_decided_by (is_certain (tag_of l.whom)) (keys_of (drop l.key-index l.keys)) false
    ≡ column_decided_by (is_certain (tag_of l.whom)) (keys_of l.keys) false
