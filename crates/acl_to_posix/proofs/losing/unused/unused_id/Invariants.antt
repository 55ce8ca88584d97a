use Rattle.std.proofs.Common.{◌≡◌, ◌≤◌, ◌<◌, ◌+◌, ◌-◌, ℕ, length, true}
use Rattle.acl_posix.specs.Check.{ids, is_member}
use Rattle.acl_to_posix.proofs.losing.unused.unused_id.Given as goal

-- each number below this one is used, so there are as many ids
abbrev pub invariant-loop-value : goal.invariant-loop-value
invariant-loop-value l =
    ((n : ℕ) → n < l.value → is_member n (ids l.used) ≡ true) × (l.value ≤ length l.used)

-- the numbers up to the number of ids that were not tried
abbrev pub decreases-loop-value : goal.decreases-loop-value
decreases-loop-value l = length l.used + 1 - l.value
