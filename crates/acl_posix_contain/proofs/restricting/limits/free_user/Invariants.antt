use Rattle.std.proofs.Common.{◌≡◌, ℕ, ◌<◌, true}
use Rattle.acl_posix.specs.internal.GroupAnswers.{either_names}
use Rattle.acl_posix_contain.proofs.restricting.limits.free_user.Given as goal

-- the lower ids are taken
abbrev pub invariant-loop-value : goal.invariant-loop-value
invariant-loop-value l = (k : ℕ) → k < l.value → either_names l.acl l.bound k ≡ true
