use Rattle.std.proofs.Common.{◌≡◌, ◌≤◌, ℕ, true}
use Rattle.acl_normal.proofs.Common.{arith, cases_lt, has_bit, is_users, subst, ⊎_elim}
use Rattle.acl_normal.specs.internal.emit.Queues.{BeginsWaiting}
use Rattle.acl_normal.proofs.emit.QueueChains.{BeginBelow, begin_on, begin_skip}
use Rattle.acl_normal.proofs.rows.Publics.{no_right_above}
use Rattle.acl_normal.proofs.emit.emission.move_on.Goals as goal
use Rattle.acl_normal.proofs.unique.NextRight.{past_absent}

pub loop-right-preserved : goal.loop-right-preserved
loop-right-preserved c =
    let k = c.args.at.kind in
    let u = is_users c.of-class.result in
    let xs = c.args.rows.now in
    let mask = c.args.mask.bits in
    let next = c.in-Some.ensures.some in record {
      queues = c.move_on.ensures.queues;
      within = omega (arith, c.in-Some.right.within);
      begin = begin_on k u xs mask c.loop-right.queues c.move_on.new.self c.in-Some.right.bit
          (past_absent (BeginBelow k u xs mask c.loop-right.queues) mask c.loop-right.from c.in-Some.right.bit
          (begin_skip k u xs mask c.loop-right.queues) next.above next.lacks c.loop-right.invariant.begin)
          c.move_on.ensures.moved;
    }

pub returns-clause-first : goal.returns-clause-first
returns-clause-first c = λ b has.
    let k = c.args.at.kind in
    let u = is_users c.of-class.result in
    let xs = c.args.rows.now in
    let mask = c.args.mask.bits in
    let all : BeginBelow k u xs mask c.loop-right.queues 21 =
    past_absent (BeginBelow k u xs mask c.loop-right.queues) mask c.loop-right.from 21
    (begin_skip k u xs mask c.loop-right.queues) c.loop-right.invariant.within c.in_default.ensures.none
    c.loop-right.invariant.begin in
    subst (λ v. BeginsWaiting k v xs c.loop-right.queues b) c.of-class.ensures
    (all b (⊎_elim (λ l. l) (λ h. absurd (above b h has)) (cases_lt b 21)) has)
  where
    above : (b : ℕ) → 21 ≤ b → has_bit c.args.mask.bits b ≡ true → ⊥
    above b h has = cc (no_right_above c.args.mask.bits c.args.mask.within b h)
