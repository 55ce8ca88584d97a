use Rattle.acl_normal.proofs.Common.{arith, principal}
use Rattle.acl_contain.proofs.Enumeration.{count_next}
use Rattle.acl_contain.proofs.asking.count_partners.Goals as goal

pub loop-q-preserved : goal.loop-q-preserved
loop-q-preserved c = record {
  counted = count_next (principal c.args.p) c.args.others.now _ c.loop-q.q-index _
      c.loop-q-test.true
      c.count_pair-count.ensures.value c.loop-q.invariant.counted;
  few = omega (arith, c.count_pair-count.ensures.few, c.loop-q.invariant.few);
}
