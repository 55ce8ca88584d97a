use Rattle.acl_normal.proofs.Common.{aces_in, ap, ◌∙◌}
use Rattle.acl_normal.proofs.plain.small_sets.searched.Goals as goal
use Rattle.acl_normal.proofs.comparison.FirstSet.{named_of}

pub difference-requires-clause-named : goal.difference-requires-clause-named
difference-requires-clause-named c = named_of c.of.ensures
    (ap aces_in c.deref-6.ensures.value ∙ c.in_ok-first.ensures.aces)
    (ap aces_in c.deref-7.ensures.value ∙ c.in_ok-second.ensures.aces)
    c.in_ok-first.ensures.accepted c.in_ok-second.ensures.accepted
