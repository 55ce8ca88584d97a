use Rattle.acl_nfs4.proofs.Common.{ArePlain, ◌+◌, ◌-◌, ◌≤◌}
use Rattle.acl_nfs4.proofs.plain_ascii.is_long_plain.Given as goal

-- the bytes so far are plain, and no gap is left before the last load
abbrev pub invariant-loop-at : goal.invariant-loop-at
invariant-loop-at l = record { plain : ArePlain l.bytes 0 l.at; near : l.at ≤ l.last + 16 }

abbrev pub decreases-loop-at : goal.decreases-loop-at
decreases-loop-at l = l.last - l.at
