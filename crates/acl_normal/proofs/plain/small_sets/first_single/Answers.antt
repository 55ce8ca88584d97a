use Rattle.acl_normal.proofs.plain.small_sets.first_single.Goals as goal
use Rattle.acl_normal.proofs.comparison.SetSearchLemmas.{single_later}

pub loop-p-preserved : goal.loop-p-preserved
loop-p-preserved c = single_later _ _ c.loop-p-test.true c.if-not-are_alike.ensures.alike c.loop-p.invariant
