use Rattle.acl_normal.proofs.Common.{principal, ◌-◌, ◌≤◌}
use Rattle.acl_normal.proofs.rows.Publics.{NoneFree}
use Rattle.acl_normal.proofs.merged.MergedRows.is_free.Given as goal

-- none of the rights below the next is free
abbrev pub invariant-loop-right : goal.invariant-loop-right
invariant-loop-right l = record { none : NoneFree l.self (principal l.p) l.bits.bits l.from; within : l.from ≤ 21 }

abbrev pub decreases-loop-right : goal.decreases-loop-right
decreases-loop-right l = 21 - l.from
