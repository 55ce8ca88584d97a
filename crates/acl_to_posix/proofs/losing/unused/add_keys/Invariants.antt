use Rattle.std.proofs.Common.{◌≡◌, ◌++◌, drop}
use Rattle.acl_posix.specs.Check.{ids}
use Rattle.acl_to_posix.specs.internal.LossBody.{key_numbers}
use Rattle.acl_to_posix.specs.internal.ShapeBody.{keys_of}
use Rattle.acl_to_posix.proofs.losing.unused.add_keys.Given as goal

-- the ids so far and those of the keys that are left are all
abbrev pub invariant-loop-key : goal.invariant-loop-key
invariant-loop-key l =
    ids l.used.items ++ key_numbers (keys_of (drop l.key-index l.keys))
    ≡ ids l.fn.used.items ++ key_numbers (keys_of l.keys)
