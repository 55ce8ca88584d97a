use Rattle.acl_normal.proofs.Common.{arith, is_users}
use Rattle.acl_normal.specs.internal.rows.Waiting.{PutsBelow}
use Rattle.acl_normal.proofs.rows.WaitingPlaces.{puts_absent, puts_more, puts_none}
use Rattle.acl_normal.proofs.rows.waiting.put.Goals as goal
use Rattle.acl_normal.proofs.unique.NextRight.{past_absent}

pub loop-right-init : goal.loop-right-init
loop-right-init c = record {
  puts = puts_none c.args.place c.args.kind (is_users c.args.class) c.args.mask.bits c.args.sets.now.items
      (omega (arith, c.requires, c.args.sets.now.ok));
  within = omega arith;
}

pub loop-right-preserved : goal.loop-right-preserved
loop-right-preserved c =
    let users = is_users c.args.class in
    let mask = c.args.mask.bits in
    let old = c.args.sets.now.items in
    let sets = c.loop-right.sets.items in
    let b = c.in-Some.right.bit in
    let next = c.in-Some.ensures.some in record {
      puts = puts_more c.args.place c.args.kind users mask old sets b c.slot.result _ c.insert.new.self _
          (past_absent (λ n. PutsBelow c.args.place c.args.kind users mask n old sets) mask c.loop-right.from b
          (puts_absent c.args.place c.args.kind users mask old sets) next.above next.lacks c.loop-right.invariant.puts)
          next.has c.in-Some.right.within c.slot.ensures c.index_mut-set.ensures.value c.in_ok-insert.ensures.updates.0;
      within = omega (arith, c.in-Some.right.within);
    }

pub returns : goal.returns
returns c =
    past_absent (λ n. PutsBelow c.args.place c.args.kind (is_users c.args.class) c.args.mask.bits n
    c.args.sets.now.items c.loop-right.sets.items) c.args.mask.bits c.loop-right.from 21
    (puts_absent c.args.place c.args.kind (is_users c.args.class) c.args.mask.bits c.args.sets.now.items
    c.loop-right.sets.items) c.loop-right.invariant.within c.in_default.ensures.none c.loop-right.invariant.puts
