use Rattle.acl_normal.proofs.comparison.list_pair.ListPair.grant_strangers_alike.Goals as goal
use Rattle.acl_normal.proofs.comparison.SetEvaluation.{differing_are, tells_unlike}

pub returns-clause-differ : goal.returns-clause-differ
returns-clause-differ c = rw c.bits.ensures.value (tells_unlike c.differing.result.within
    (differing_are c.granted_by_first.ensures c.granted_by_second.ensures c.differing.ensures))
