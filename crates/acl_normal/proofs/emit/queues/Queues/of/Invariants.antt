use Rattle.acl_normal.proofs.Common.{AreNoted}
use Rattle.acl_normal.proofs.emit.queues.Queues.of.Given as goal

-- the places from this one on are noted
abbrev pub invariant-loop-place : goal.invariant-loop-place
invariant-loop-place l = AreNoted l.rows l.place 0 l.queues
