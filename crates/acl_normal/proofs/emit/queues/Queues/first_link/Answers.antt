use Rattle.acl_normal.proofs.Common.{ap, arith, has_bit, is_users, IsQueue, mask_here, subst, sym, ◌∙◌}
use Rattle.acl_normal.proofs.emit.Chains.{chain_goes, chain_step, link_there}
use Rattle.acl_normal.proofs.emit.QueueChains.{queue_next}
use Rattle.acl_normal.proofs.emit.RemainingLemmas.{queue_within}
use Rattle.acl_normal.proofs.emit.queues.Queues.first_link.Goals as goal

pub index-link-requires : goal.index-link-requires
index-link-requires c =
    let goes = chain_goes c.args.self.now.links.items c.loop-at.at c.loop-at.invariant.places c.loop-at.invariant.chain
    c.loop-at-test.true in
    omega (arith, goes.within, c.args.self.now.links.ok)

pub has-requires : goal.has-requires
has-requires c =
    let q = c.loop-at.invariant in
    let step = chain_step c.args.self.now.links.items c.loop-at.at q.places _ c.index-link.result.now q.chain
    c.loop-at-test.true c.index-link.ensures in
    queue_within c.args.kind (is_users c.args.class) c.args.right.bit c.args.rows.now c.index-link.result.now.place
    step.rest (subst (IsQueue c.args.kind (is_users c.args.class) c.args.right.bit c.args.rows.now) step.is q.queue)

pub returns-then-has-clause-waits : goal.returns-then-has-clause-waits
returns-then-has-clause-waits c = λ some.
    let q = c.loop-at.invariant in
    let link = link_there c.args.self.now.links.items c.loop-at.at q.places _ c.index-link.result.now q.chain some
    c.index-link.ensures in
    ap (λ v. has_bit (mask_here c.args.rows.now v.place) c.args.right.bit) (sym link) ∙ sym c.has.ensures
    ∙ c.if-has.true

pub loop-at-smaller : goal.loop-at-smaller
loop-at-smaller c =
    let q = c.loop-at.invariant in
    let step = chain_step c.args.self.now.links.items c.loop-at.at q.places _ c.index-link.result.now q.chain
    c.loop-at-test.true c.index-link.ensures in
    step.falls

pub loop-at-preserved : goal.loop-at-preserved
loop-at-preserved c =
    let q = c.loop-at.invariant in
    let step = chain_step c.args.self.now.links.items c.loop-at.at q.places _ c.index-link.result.now q.chain
    c.loop-at-test.true c.index-link.ensures in
    queue_next c.args.kind (is_users c.args.class) c.args.right.bit c.args.rows.now c.args.self.now.links.items
    c.loop-at.at c.index-link.result.now q step (sym c.has.ensures ∙ c.if-has.false)
