use Rattle.acl_normal.proofs.Common.{IfOk-weaker, IsAccepted, aces_in, ap, full, subst, sym, ◌∙◌, ◌≡◌}
use Rattle.acl_contain.proofs.restriction.Keeping.{removal_accepted}
use Rattle.acl_contain.proofs.restricting.everywhere.restricted_of_views.Goals as goal
use Rattle.acl_contain.specs.EveryPath.{IsGreatestEverywhere}

pub kept_everywhere-requires-clause-list : goal.kept_everywhere-requires-clause-list
kept_everywhere-requires-clause-list c =
    subst (IsAccepted full) (sym (ap aces_in c.deref.ensures.value ∙ c.in_ok-aces.ensures.aces))
    c.in_ok-aces.ensures.accepted

pub kept_everywhere-requires-clause-bound : goal.kept_everywhere-requires-clause-bound
kept_everywhere-requires-clause-bound c =
    subst (IsAccepted full) (sym (ap aces_in c.deref-2.ensures.value ∙ c.in_ok-others.ensures.aces))
    c.in_ok-others.ensures.accepted

pub written-requires : goal.written-requires
written-requires c = subst (IsAccepted full) (sym (ap aces_in c.deref-3.ensures.value))
    (removal_accepted (aces_in c.deref.result.now) (aces_in c.in_ok-kept.kept.items) c.in_ok-kept.ensures.removal
    (subst (IsAccepted full) (sym (ap aces_in c.deref.ensures.value ∙ c.in_ok-aces.ensures.aces))
    c.in_ok-aces.ensures.accepted))

pub returns : goal.returns
returns c = IfOk-weaker c.written.result (λ kept. kept ≡ aces_in c.deref-3.result.now)
    (IsGreatestEverywhere c.args.list.now c.args.bound.now)
    (λ kept is. subst (IsGreatestEverywhere c.args.list.now c.args.bound.now)
    (sym (is ∙ ap aces_in c.deref-3.ensures.value))
    (subst (λ v. IsGreatestEverywhere c.args.list.now v (aces_in c.in_ok-kept.kept.items))
    (ap aces_in c.deref-2.ensures.value ∙ c.in_ok-others.ensures.aces)
    (subst (λ v. IsGreatestEverywhere v (aces_in c.deref-2.result.now) (aces_in c.in_ok-kept.kept.items))
    (ap aces_in c.deref.ensures.value ∙ c.in_ok-aces.ensures.aces) c.in_ok-kept.ensures))) c.written.ensures
