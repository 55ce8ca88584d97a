use Rattle.acl_normal.proofs.Common.{AreQueues, is_users, ◌-◌, ◌≤◌}
use Rattle.acl_normal.proofs.emit.QueueChains.{BeginBelow}
use Rattle.acl_normal.proofs.emit.emission.move_on.Given as goal

abbrev pub invariant-loop-right : goal.invariant-loop-right
invariant-loop-right l = record {
  queues : AreQueues l.rows l.queues;
  within : l.from ≤ 21;
  begin : BeginBelow l.at.kind (is_users l.class) l.rows l.mask.bits l.queues l.from;
}

abbrev pub decreases-loop-right : goal.decreases-loop-right
decreases-loop-right l = 21 - l.from
