use Rattle.acl_normal.proofs.Common.{aces_in, ap, full, HasNames, subst, sym, ◌∙◌}
use Rattle.acl_contain.proofs.RightReplaced.{implication_found, replaced_named}
use Rattle.acl_contain.proofs.implying.implies_of_view.Goals as goal
use Rattle.acl_normal.proofs.unique.Accepted.{accepted_names}
use Rattle.acl_contain.specs.internal.RightReplaced.{all_replaced}

pub searched_among-requires-clause-list : goal.searched_among-requires-clause-list
searched_among-requires-clause-list c =
    subst HasNames (sym (ap aces_in c.deref-2.ensures.value ∙ c.in_ok-replaced.ensures
    ∙ ap (λ v. all_replaced c.args.right.bit c.args.others.bits (aces_in v)) c.deref.ensures.value
    ∙ ap (all_replaced c.args.right.bit c.args.others.bits) c.in_ok-aces.ensures.aces))
    (replaced_named c.args.right.bit c.args.others.bits c.args.list.now
    (accepted_names full c.args.list.now c.in_ok-aces.ensures.accepted))

pub searched_among-requires-clause-other : goal.searched_among-requires-clause-other
searched_among-requires-clause-other c =
    subst HasNames (sym (ap aces_in c.deref-3.ensures.value ∙ c.in_ok-aces.ensures.aces))
    (accepted_names full c.args.list.now c.in_ok-aces.ensures.accepted)

pub returns-clause-implied : goal.returns-clause-implied
returns-clause-implied c = (implication_found c.args.others.within (ap aces_in c.deref-2.ensures.value
    ∙ c.in_ok-replaced.ensures
    ∙ ap (λ v. all_replaced c.args.right.bit c.args.others.bits (aces_in v)) c.deref.ensures.value
    ∙ ap (all_replaced c.args.right.bit c.args.others.bits) c.in_ok-aces.ensures.aces)
    (ap aces_in c.deref-3.ensures.value ∙ c.in_ok-aces.ensures.aces) c.in_ok-found.ensures c.as_denied.ensures.none
    c.as_denied.ensures.some).implied

pub returns-clause-first : goal.returns-clause-first
returns-clause-first c = (implication_found c.args.others.within (ap aces_in c.deref-2.ensures.value
    ∙ c.in_ok-replaced.ensures
    ∙ ap (λ v. all_replaced c.args.right.bit c.args.others.bits (aces_in v)) c.deref.ensures.value
    ∙ ap (all_replaced c.args.right.bit c.args.others.bits) c.in_ok-aces.ensures.aces)
    (ap aces_in c.deref-3.ensures.value ∙ c.in_ok-aces.ensures.aces) c.in_ok-found.ensures c.as_denied.ensures.none
    c.as_denied.ensures.some).first
