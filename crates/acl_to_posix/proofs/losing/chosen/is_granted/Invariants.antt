use Rattle.std.proofs.Common.{◌≡◌, drop, false}
use Rattle.acl_to_posix.specs.internal.LossBody.{is_met}
use Rattle.acl_to_posix.specs.internal.ShapeBody.{column_decided_by, keys_of}
use Rattle.acl_to_posix.proofs.losing.chosen.is_granted.Given as goal

-- the keys that are left decide as all keys do
abbrev pub invariant-loop-key : goal.invariant-loop-key
invariant-loop-key l =
    column_decided_by (is_met l.chosen) (keys_of (drop l.key-index l.keys)) false
    ≡ column_decided_by (is_met l.chosen) (keys_of l.keys) false
