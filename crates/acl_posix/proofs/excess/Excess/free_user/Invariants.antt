use Rattle.acl_posix.proofs.Common.{true, ℕ, ◌<◌, ◌≡◌}
use Rattle.acl_posix.specs.internal.GroupAnswers.{either_names}
use Rattle.acl_posix.proofs.excess.Excess.free_user.Given as goal

-- the lower ids are taken
abbrev pub invariant-loop-value : goal.invariant-loop-value
invariant-loop-value g l =
    (k : ℕ) → k < l.value → either_names (g.Self.EntrySet.entries l.self) (g.Self.EntrySet.entries l.second) k ≡ true
