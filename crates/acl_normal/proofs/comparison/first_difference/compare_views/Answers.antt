use Rattle.std.specs.Prelude.{IsNone}
use Rattle.acl_normal.proofs.Common.{aces_in, all_rights, ap, full, HasNames, IfOk, IfOk-weaker, refl, SameGrants, subst, sym, ◌↔◌, ◌∙◌}
use Rattle.acl_normal.specs.Difference.{IsComparison}
use Rattle.acl_normal.proofs.unique.Accepted.{accepted_names}
use Rattle.acl_normal.proofs.comparison.first_difference.compare_views.Goals as goal

pub returns-then-branch-clause-same : goal.returns-then-branch-clause-same
returns-then-branch-clause-same c =
    let list = ap aces_in c.deref.ensures.value ∙ c.in_ok-list.ensures.aces in
    let other = ap aces_in c.deref-then-len-le-SHORT-2.ensures.value ∙ c.in_ok-other.ensures.aces in (
      λ none. subst (λ v. SameGrants all_rights v c.args.second.now) list
          (subst (SameGrants all_rights (aces_in c.deref.result.now)) other
          (c.in_ok-have_one_form.ensures.0 c.if-branch.true)),
      λ same. refl,
    )

pub searched_among-requires-clause-list : goal.searched_among-requires-clause-list
searched_among-requires-clause-list c =
    subst HasNames (sym (ap aces_in c.deref-else-len-le-SHORT.ensures.value ∙ c.in_ok-list.ensures.aces))
    (accepted_names full c.args.first.now c.in_ok-list.ensures.accepted)

pub searched_among-requires-clause-other : goal.searched_among-requires-clause-other
searched_among-requires-clause-other c =
    subst HasNames (sym (ap aces_in c.deref-else-len-le-SHORT-2.ensures.value ∙ c.in_ok-other.ensures.aces))
    (accepted_names full c.args.second.now c.in_ok-other.ensures.accepted)

pub returns-clause-same : goal.returns-clause-same
returns-clause-same c =
    let first = c.args.first.now in
    let second = c.args.second.now in
    let list = ap aces_in c.deref-else-len-le-SHORT.ensures.value ∙ c.in_ok-list.ensures.aces in
    let other = ap aces_in c.deref-else-len-le-SHORT-2.ensures.value ∙ c.in_ok-other.ensures.aces in
    IfOk-weaker c.searched_among.result (IsComparison first second)
    (λ r. IsNone r ↔ SameGrants all_rights first second) (λ r h. h.same)
    (subst (λ v. IfOk c.searched_among.result (IsComparison v second)) list
    (subst (λ v. IfOk c.searched_among.result (IsComparison (aces_in c.deref-else-len-le-SHORT.result.now) v)) other
    c.searched_among.ensures))
