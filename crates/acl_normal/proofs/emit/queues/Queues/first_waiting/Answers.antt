use Rattle.acl_normal.proofs.Common.{ap, arith, has_bit, is_users, IsQueue, mask_here, subst, ◌∙◌}
use Rattle.acl_normal.proofs.emit.Chains.{chain_goes, chain_step, link_there}
use Rattle.acl_normal.proofs.emit.QueueChains.{queue_ends}
use Rattle.acl_normal.proofs.emit.RemainingLemmas.{queue_before, queue_empty, queue_first}
use Rattle.acl_normal.proofs.rows.Waits.{before_some}
use Rattle.acl_normal.proofs.emit.queues.Queues.first_waiting.Goals as goal

pub returns-then-at-eq0-clause-before : goal.returns-then-at-eq0-clause-before
returns-then-at-eq0-clause-before c = λ place _.
    queue_empty c.args.kind (is_users c.args.class) c.args.right.bit c.args.rows.now place
    (queue_ends c.args.kind (is_users c.args.class) c.args.right.bit c.args.rows.now c.args.self.now.links.items
    c.first_link-at.result c.first_link-at.ensures.queue c.if-at-eq0.true)

pub index-requires : goal.index-requires
index-requires c =
    let q = c.first_link-at.ensures.queue in
    let goes = chain_goes c.args.self.now.links.items c.first_link-at.result q.places q.chain c.if-at-eq0.false in
    omega (arith, goes.within, c.args.self.now.links.ok)

pub returns-clause-before : goal.returns-clause-before
returns-clause-before c = λ place l.
    let q = c.first_link-at.ensures.queue in
    let step = chain_step c.args.self.now.links.items c.first_link-at.result q.places _ c.index.result.now q.chain
    c.if-at-eq0.false c.index.ensures in
    queue_before c.args.kind (is_users c.args.class) c.args.right.bit c.args.rows.now c.index.result.now.place step.rest
    place (subst (IsQueue c.args.kind (is_users c.args.class) c.args.right.bit c.args.rows.now) step.is q.queue) l

pub returns-clause-behind : goal.returns-clause-behind
returns-clause-behind c = λ place l _.
    let q = c.first_link-at.ensures.queue in
    let step = chain_step c.args.self.now.links.items c.first_link-at.result q.places _ c.index.result.now q.chain
    c.if-at-eq0.false c.index.ensures in
    let link = link_there c.args.self.now.links.items c.first_link-at.result q.places _ c.index.result.now q.chain
    c.if-at-eq0.false c.index.ensures in
    before_some c.args.kind (is_users c.args.class) c.args.right.bit c.args.rows.now place c.index.result.now.place l
    (queue_first c.args.kind (is_users c.args.class) c.args.right.bit c.args.rows.now c.index.result.now.place step.rest
    (subst (IsQueue c.args.kind (is_users c.args.class) c.args.right.bit c.args.rows.now) step.is q.queue)
    (ap (λ v. has_bit (mask_here c.args.rows.now v.place) c.args.right.bit) link
    ∙ c.first_link-at.ensures.waits c.if-at-eq0.false))
