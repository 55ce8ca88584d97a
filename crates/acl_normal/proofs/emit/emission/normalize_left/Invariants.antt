use Rattle.acl_normal.proofs.Common.{AreQueues, count_left, FitsKeys, marks, nothing_left}
use Rattle.acl_normal.proofs.emit.Drained.{Drains}
use Rattle.acl_normal.proofs.emit.InRows.{KeepsRows}
use Rattle.acl_normal.proofs.emit.emission.normalize_left.Given as goal

abbrev pub invariant-emitted : goal.invariant-emitted
invariant-emitted l = record {
  drains : Drains l.fn.rows l.out.items (marks (nothing_left l.rows) l.ready) l.rows;
  keys : FitsKeys (nothing_left l.rows) l.ready;
  rows : KeepsRows l.fn.rows l.rows l.out.items;
  queues : AreQueues l.rows l.queues;
}

abbrev pub decreases-emitted : goal.decreases-emitted
decreases-emitted l = count_left 21 l.rows
