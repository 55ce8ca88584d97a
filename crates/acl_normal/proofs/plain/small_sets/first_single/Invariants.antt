use Rattle.acl_normal.proofs.Common.{aces_in, drop, principals, singles}
use Rattle.acl_normal.proofs.plain.small_sets.first_single.Given as goal
use Rattle.acl_normal.proofs.comparison.SetSearchLemmas.{GoesOn}

abbrev pub invariant-loop-p : goal.invariant-loop-p
invariant-loop-p l = GoesOn l.lists.direction (aces_in l.lists.first.now) (aces_in l.lists.second.now)
    (singles (principals (drop l.p-index l.whole))) (singles (principals l.whole))
