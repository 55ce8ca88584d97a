use Rattle.acl_posix.proofs.Common.{ℕ, ◌<◌}
use Rattle.acl_posix.specs.Excess.{GrantsNothingMoreOf}
use Rattle.acl_posix.proofs.excess.Excess.difference.Given as goal

-- no lower request shows a difference
abbrev pub invariant-loop-bits : goal.invariant-loop-bits
invariant-loop-bits g l = (k : ℕ) → k < l.bits
    → GrantsNothingMoreOf (g.Self.EntrySet.entries l.self) (g.Self.EntrySet.entries l.second) k
