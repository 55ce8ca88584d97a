use Rattle.std.proofs.Common.{◌≡◌, ◌++◌, drop}
use Rattle.std.specs.List.{AllByRecursion}
use Rattle.std.specs.Prelude.{map}
use Rattle.acl_posix.specs.Tag.{tag_of}
use Rattle.acl_to_posix.specs.internal.LossBody.{IsJudgedTag, allowed_tags}
use Rattle.acl_to_posix.specs.internal.ShapeBody.{keys_of}
use Rattle.acl_to_posix.proofs.losing.tags.allowed_tags.Given as goal

-- the tags so far, and those of the keys that are left, are those of all keys that allow
abbrev pub invariant-loop-key : goal.invariant-loop-key
invariant-loop-key l =
    AllByRecursion (IsJudgedTag l.wanted l.acl) l.tags.items
    × (map (λ one. tag_of one.tag) l.tags.items ++ allowed_tags (keys_of l.keys) (keys_of (drop l.key-index l.keys))
    ≡ allowed_tags (keys_of l.keys) (keys_of l.keys))
