use Rattle.acl_normal.proofs.Common.{AreNoted, ◌+◌, ◌-◌, ◌≤◌}
use Rattle.acl_normal.proofs.emit.queues.Queues.note.Given as goal

abbrev pub invariant-loop-right : goal.invariant-loop-right
invariant-loop-right l = record { noted : AreNoted l.rows (l.place + 1) l.from l.self; within : l.from ≤ 21 }

abbrev pub decreases-loop-right : goal.decreases-loop-right
decreases-loop-right l = 21 - l.from
