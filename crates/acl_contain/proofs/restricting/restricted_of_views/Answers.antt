use Rattle.acl_normal.proofs.Common.{HasNames, IfOk-weaker, IsAccepted, aces_in, ap, full, subst, sym, ◌∙◌, ◌≡◌}
use Rattle.acl_normal.proofs.unique.Accepted.{accepted_masks, accepted_names}
use Rattle.acl_contain.proofs.restriction.Greatest.{restricted_is_greatest}
use Rattle.acl_contain.proofs.restriction.Keeping.{removal_accepted}
use Rattle.acl_contain.proofs.restricting.restricted_of_views.Goals as goal
use Rattle.acl_contain.specs.Removal.{IsGreatestRemoval}
use Rattle.acl_contain.specs.internal.Restriction.{IsRestricted}

pub without_excess-requires-clause-list : goal.without_excess-requires-clause-list
without_excess-requires-clause-list c =
    subst HasNames (sym (ap aces_in c.deref.ensures.value ∙ c.in_ok-aces.ensures.aces))
    (accepted_names full c.args.list.now c.in_ok-aces.ensures.accepted)

pub without_excess-requires-clause-bound : goal.without_excess-requires-clause-bound
without_excess-requires-clause-bound c =
    subst HasNames (sym (ap aces_in c.deref-2.ensures.value ∙ c.in_ok-others.ensures.aces))
    (accepted_names full c.args.bound.now c.in_ok-others.ensures.accepted)

pub written-requires : goal.written-requires
written-requires c = subst (IsAccepted full) (sym (ap aces_in c.deref-3.ensures.value))
    (removal_accepted (aces_in c.deref.result.now) (aces_in c.in_ok-kept.kept.items) c.in_ok-kept.ensures.removal
    (subst (IsAccepted full) (sym (ap aces_in c.deref.ensures.value ∙ c.in_ok-aces.ensures.aces))
    c.in_ok-aces.ensures.accepted))

pub returns : goal.returns
returns c = IfOk-weaker c.written.result (λ kept. kept ≡ aces_in c.deref-3.result.now)
    (IsGreatestRemoval c.args.list.now c.args.bound.now)
    (λ kept is. subst (IsGreatestRemoval c.args.list.now c.args.bound.now)
    (sym (is ∙ ap aces_in c.deref-3.ensures.value))
    (restricted_is_greatest c.args.list.now c.args.bound.now (aces_in c.in_ok-kept.kept.items)
    (accepted_masks c.args.list.now c.in_ok-aces.ensures.accepted)
    (subst (λ v. IsRestricted c.args.list.now v (aces_in c.in_ok-kept.kept.items))
    (ap aces_in c.deref-2.ensures.value ∙ c.in_ok-others.ensures.aces)
    (subst (λ v. IsRestricted v (aces_in c.deref-2.result.now) (aces_in c.in_ok-kept.kept.items))
    (ap aces_in c.deref.ensures.value ∙ c.in_ok-aces.ensures.aces) c.in_ok-kept.ensures)))) c.written.ensures
