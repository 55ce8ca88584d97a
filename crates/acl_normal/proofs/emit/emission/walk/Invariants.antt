use Rattle.acl_normal.proofs.Common.{FitsKeys, is_users, marks, nothing_left}
use Rattle.acl_normal.proofs.emit.QueueChains.{WalksAt}
use Rattle.acl_normal.proofs.emit.emission.walk.Given as goal

abbrev pub invariant-loop-at : goal.invariant-loop-at
invariant-loop-at l = record {
  walks : WalksAt l.fn.kind (is_users l.fn.class) l.right.bit l.rows l.queues.links.items l.at
      (marks (nothing_left l.rows) l.fn.ready) (marks (nothing_left l.rows) l.ready);
  keys : FitsKeys (nothing_left l.rows) l.ready;
}

abbrev pub decreases-loop-at : goal.decreases-loop-at
decreases-loop-at l = l.at
