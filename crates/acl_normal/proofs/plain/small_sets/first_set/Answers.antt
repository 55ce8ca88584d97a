use Rattle.acl_normal.proofs.plain.small_sets.first_set.Goals as goal
use Rattle.acl_normal.proofs.comparison.SetSearchLemmas.{pair_decides, single_differs}

pub returns-in-Some : goal.returns-in-Some
returns-in-Some c = single_differs _ c.if-not-are_alike.ensures.alike c.in-Some.ensures

pub returns : goal.returns
returns c = pair_decides _ c.if-not-are_alike.ensures.alike c.in_default.ensures c.first_pair.ensures
