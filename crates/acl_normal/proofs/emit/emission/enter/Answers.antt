use Rattle.acl_normal.proofs.Common.{[], is_users, IsQueueAt, refl, subst, sym}
use Rattle.acl_normal.proofs.emit.QueueChains.{queue_ends}
use Rattle.acl_normal.proofs.emit.Walk.{nothing_waits}
use Rattle.acl_normal.proofs.emit.emission.enter.Goals as goal

pub returns-then-first-eq0 : goal.returns-then-first-eq0
returns-then-first-eq0 c =
    let q = subst (IsQueueAt c.args.kind (is_users c.args.class) c.args.right.bit c.args.rows.now
    c.args.queues.now.links.items)
    (sym c.head-first.ensures) (c.requires.queues.each c.args.kind (is_users c.args.class) c.args.right.bit
    c.args.right.within) in
    record {
      keys = c.requires.keys;
      marks =
          nothing_waits c.args.kind (is_users c.args.class) c.args.right.bit c.args.rows.now [] _
          (c.requires.queues.list.tidy.once c.args.right.bit)
          (queue_ends c.args.kind (is_users c.args.class) c.args.right.bit c.args.rows.now
          c.args.queues.now.links.items c.head-first.result q c.if-first-eq0.true) refl;
    }

pub walk-requires-clause-first : goal.walk-requires-clause-first
walk-requires-clause-first c =
    subst (IsQueueAt c.args.kind (is_users c.args.class) c.args.right.bit c.args.rows.now
    c.args.queues.now.links.items)
    (sym c.head-first.ensures) (c.requires.queues.each c.args.kind (is_users c.args.class) c.args.right.bit
    c.args.right.within)
