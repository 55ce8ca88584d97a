use Rattle.std.proofs.Common.{◌-◌, ◌≤◌, ◌+◌}
use Rattle.acl_perm.specs.internal.Places.{IsAbsent}
use Rattle.acl_perm.proofs.place.place_in_long.Given as goal

-- the byte is at no place so far, and there is no gap before the last bytes
abbrev pub invariant-loop-at : goal.invariant-loop-at
invariant-loop-at l = record { absent : IsAbsent l.wanted l.bytes 0 l.at; near : l.at ≤ l.last + 16 }

abbrev pub decreases-loop-at : goal.decreases-loop-at
decreases-loop-at l = l.last - l.at
