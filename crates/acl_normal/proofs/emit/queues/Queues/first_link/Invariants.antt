use Rattle.acl_normal.proofs.Common.{is_users, IsQueueAt}
use Rattle.acl_normal.proofs.emit.queues.Queues.first_link.Given as goal

abbrev pub invariant-loop-at : goal.invariant-loop-at
invariant-loop-at l = IsQueueAt l.fn.kind (is_users l.fn.class) l.right.bit l.rows l.self.links.items l.at

abbrev pub decreases-loop-at : goal.decreases-loop-at
decreases-loop-at l = l.at
