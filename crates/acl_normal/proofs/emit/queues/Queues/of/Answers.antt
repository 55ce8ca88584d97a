use Rattle.std.proofs.Common.{◌++◌, ◌∷◌, [], ◌∙◌, ap, arith, length, slice_index_or, subst, sym, ◌≡◌}
use Rattle.acl_normal.proofs.emit.Marks.{zero_at}
use Rattle.acl_normal.specs.internal.emit.Queues.{AreNoted}
use Rattle.acl_normal.proofs.emit.NotedQueues.{noted_all, noted_none}
use Rattle.acl_normal.proofs.emit.queues.Queues.of.Goals as goal

pub loop-place-init : goal.loop-place-init
loop-place-init c =
    let links = c.in_ok-push.ensures.items
    ∙ ap (λ v. v ++ record { place = 0; next = 0 } ∷ []) c.in_ok-links.ensures.items in
    subst (λ n. AreNoted c.args.rows.now n 0 (record { links = c.push.new.self; heads = c.in_ok-heads.heads }))
    (sym c.len-count.ensures.count)
    (noted_none c.args.rows.now _ (omega (arith, c.in_ok-heads.ensures.len, c.in_ok-heads.heads.ok))
    (omega (arith, ap length links))
    (λ slot. ap (λ v. slice_index_or v slot 0) (c.in_ok-heads.ensures.items_if_clones_equal (λ y e. e))
    ∙ zero_at 84 slot))

pub returns : goal.returns
returns c =
    let none : c.loop-place.place ≡ 0 = omega (arith, c.loop-place-test.false) in
    noted_all c.args.rows.now c.loop-place.queues c.len-count.ensures.list
    (subst (λ n. AreNoted c.args.rows.now n 0 c.loop-place.queues) none c.loop-place.invariant)
