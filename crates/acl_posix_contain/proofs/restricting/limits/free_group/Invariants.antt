use Rattle.std.proofs.Common.{◌≡◌, ℕ, ◌<◌, true}
use Rattle.std.specs.FinMap as set
use Rattle.acl_posix.specs.Tag.{group}
use Rattle.acl_posix_contain.proofs.restricting.limits.free_group.Given as goal

-- the lower ids are taken
abbrev pub invariant-loop-value : goal.invariant-loop-value
invariant-loop-value l = (k : ℕ) → k < l.value → set.contains_key l.acl (group k) ≡ true
