use Rattle.acl_normal.proofs.Common.{principal}
use Rattle.acl_contain.proofs.Enumeration.{pairs_next}
use Rattle.acl_contain.proofs.asking.add_pairs.Goals as goal

pub loop-q-preserved : goal.loop-q-preserved
loop-q-preserved c = pairs_next c.args.strange (principal c.args.p) c.args.others.now _ c.loop-q.q-index
    _ c.loop-q-test.true c.in_ok-add_pair.ensures c.loop-q.invariant
