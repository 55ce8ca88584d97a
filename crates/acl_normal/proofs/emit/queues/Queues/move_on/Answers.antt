use Rattle.std.proofs.Common.{refl}
use Rattle.acl_normal.proofs.Common.{ap, is_users, slice_set}
use Rattle.acl_normal.proofs.emit.QueueChains.{queue_moves, queues_moved}
use Rattle.acl_normal.proofs.emit.queues.Queues.move_on.Goals as goal

pub returns-clause-queues : goal.returns-clause-queues
returns-clause-queues c =
    let first = c.first_link-first.result in
    queues_moved c.args.kind (is_users c.args.class) c.args.right.bit c.args.rows.now c.args.self.now _ first c.requires
    c.args.right.within refl (ap (λ v. slice_set c.args.self.now.heads.items v first) c.slot.ensures)
    c.first_link-first.ensures.queue

pub returns-clause-moved : goal.returns-clause-moved
returns-clause-moved c =
    let first = c.first_link-first.result in
    queue_moves c.args.kind (is_users c.args.class) c.args.right.bit c.args.rows.now c.args.self.now _ first
    c.requires.slots c.args.right.within refl
    (ap (λ v. slice_set c.args.self.now.heads.items v first) c.slot.ensures) c.first_link-first.ensures.waits
