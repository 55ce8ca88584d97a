use Rattle.acl_normal.proofs.Common.{aces_in, drop, partners, principal, principals}
use Rattle.acl_normal.proofs.plain.small_sets.first_partner.Given as goal
use Rattle.acl_normal.proofs.comparison.SetSearchLemmas.{GoesOn}

abbrev pub invariant-loop-q : goal.invariant-loop-q
invariant-loop-q l = GoesOn l.lists.direction (aces_in l.lists.first.now) (aces_in l.lists.second.now)
    (partners (principal l.p) (principals (drop l.q-index l.rest))) (partners (principal l.p) (principals l.rest))
