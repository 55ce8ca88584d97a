use Rattle.acl_normal.proofs.Common.{aces_in, drop, principal_pairs, principals}
use Rattle.acl_normal.proofs.plain.small_sets.first_pair.Given as goal
use Rattle.acl_normal.proofs.comparison.SetSearchLemmas.{GoesOn}

abbrev pub invariant-loop-i : goal.invariant-loop-i
invariant-loop-i l = GoesOn l.lists.direction (aces_in l.lists.first.now) (aces_in l.lists.second.now)
    (principal_pairs (principals (drop l.i l.whole))) (principal_pairs (principals l.whole))
