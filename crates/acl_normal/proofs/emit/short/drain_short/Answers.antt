use Rattle.acl_normal.proofs.Common.{count_left, emitted_ace, emitted_aces, HasOnceColumns, principal_of, subst, sym, take_out, ap, ◌∙◌, ◌<◌, ◌≡◌}
use Rattle.acl_normal.proofs.emit.ShortTurns.{fewer_left, first_step}
use Rattle.acl_normal.proofs.emit.SoFar.{Completes, completes_all, completes_more}
use Rattle.acl_normal.proofs.rows.TakeOut.{once_taken}
use Rattle.acl_normal.proofs.emit.short.drain_short.Goals as goal

pub emitted-init : goal.emitted-init
emitted-init c = rw c.in_ok-out.ensures.items (record {
  once = c.requires.once;
  completes = λ ns e. e;
  rows = λ xs each. each;
})

pub first_of-requires-clause-rows : goal.first_of-requires-clause-rows
first_of-requires-clause-rows c =
    (c.requires.rows.0, c.emitted.invariant.rows c.requires.rows.0 c.requires.rows.1)

pub take_from-requires : goal.take_from-requires
take_from-requires c =
    let xs = c.requires.rows.0 in
    let each = c.emitted.invariant.rows xs c.requires.rows.1 in
    (xs, each, c.in-Some.ensures.row xs each)

pub emitted-smaller : goal.emitted-smaller
emitted-smaller c =
    let xs = c.requires.rows.0 in
    let is = c.in-Some.ensures.row xs (c.emitted.invariant.rows xs c.requires.rows.1) in
    let left = emitted_aces c.emitted.left in
    let next = c.in-Some.next in
    let taken : emitted_aces c.take_from.new.left
    ≡ take_out (principal_of (emitted_ace next)) next.mask.bits left =
    c.take_from.ensures.list ∙ ap (λ p. take_out p next.mask.bits left) (sym is.named) in
    subst (λ v. count_left 21 v < count_left 21 left) (sym taken)
    (fewer_left left (emitted_ace next) c.in-Some.ensures.first next.mask.within)

pub emitted-preserved : goal.emitted-preserved
emitted-preserved c =
    let xs = c.requires.rows.0 in
    let is = c.in-Some.ensures.row xs (c.emitted.invariant.rows xs c.requires.rows.1) in
    let left = emitted_aces c.emitted.left in
    let whole = emitted_aces c.args.left.now in
    let next = c.in-Some.next in
    let a = emitted_ace next in
    let taken : emitted_aces c.take_from.new.left ≡ take_out (principal_of a) a.mask left =
    c.take_from.ensures.list ∙ ap (λ p. take_out p a.mask left) (sym is.named) in
    record {
      once = subst HasOnceColumns (sym taken) (once_taken (principal_of a) a.mask left c.emitted.invariant.once);
      completes = subst (Completes whole c.push.new.self.items) (sym taken)
          (completes_more whole c.emitted.out.items c.push.new.self.items left (take_out (principal_of a) a.mask left)
          next c.in_ok-push.ensures.items c.emitted.invariant.once (first_step left a c.in-Some.ensures.first)
          c.emitted.invariant.completes);
      rows = λ zs each. c.take_from.ensures.rows zs (c.emitted.invariant.rows zs each);
    }

pub returns : goal.returns
returns c =
    completes_all (emitted_aces c.args.left.now) c.emitted.out.items (emitted_aces c.emitted.left)
    c.emitted.invariant.completes c.in_default.ensures.first
