use Rattle.acl_posix.proofs.Common.{◌-◌}
use Rattle.acl_posix.proofs.entry_set.Halves.{IsHalved}
use Rattle.acl_posix.proofs.entry_set.EntrySet.place_of.Given as goal

abbrev pub decreases-loop-low : goal.decreases-loop-low
decreases-loop-low g l = l.high - l.low

-- the tag is between the two places, or has no entry
abbrev pub invariant-loop-low : goal.invariant-loop-low
invariant-loop-low g l = IsHalved (g.Self.EntrySet.entries l.self) l.rank l.qualifier l.low l.high
