use Rattle.acl_normal.proofs.Common.{aces_in, ap, full, HasNames, subst, sym, ◌∙◌}
use Rattle.acl_normal.proofs.comparison.first_difference.searched.Goals as goal
use Rattle.acl_normal.proofs.unique.Accepted.{accepted_names}

pub searched_among-requires-clause-list : goal.searched_among-requires-clause-list
searched_among-requires-clause-list c =
    subst HasNames (sym (ap aces_in c.deref.ensures.value ∙ c.in_ok-list.ensures.aces))
    (accepted_names full c.args.first.now c.in_ok-list.ensures.accepted)

pub searched_among-requires-clause-other : goal.searched_among-requires-clause-other
searched_among-requires-clause-other c =
    subst HasNames (sym (ap aces_in c.deref-2.ensures.value ∙ c.in_ok-other.ensures.aces))
    (accepted_names full c.args.second.now c.in_ok-other.ensures.accepted)
