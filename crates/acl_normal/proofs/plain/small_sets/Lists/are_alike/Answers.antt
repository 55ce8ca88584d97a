use Rattle.acl_normal.proofs.plain.small_sets.Lists.are_alike.Goals as goal
use Rattle.acl_normal.proofs.comparison.SetEvaluation.{differing_are, tells_unlike}

pub returns-clause-differ : goal.returns-clause-differ
returns-clause-differ c = rw c.bits.ensures.value (tells_unlike c.differing.result.within
    (differing_are c.granted.ensures c.granted-2.ensures c.differing.ensures))
