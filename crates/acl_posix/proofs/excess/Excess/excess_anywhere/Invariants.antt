use Rattle.acl_posix.proofs.Common.{ℕ, ◌<◌}
use Rattle.acl_posix.specs.internal.GroupAnswers.{NoUserExcess}
use Rattle.acl_posix.proofs.excess.Excess.excess_anywhere.Given as goal

-- no lower owning group shows a difference
abbrev pub invariant-loop-value : goal.invariant-loop-value
invariant-loop-value g l = (k : ℕ) → k < l.value
    → NoUserExcess (g.Self.EntrySet.entries l.self) (g.Self.EntrySet.entries l.second) k l.request.bits
