use Rattle.acl_normal.proofs.Common.{all_rights, IfOk, IfOk-weaker, subst}
use Rattle.acl_contain.proofs.restriction.Greatest.{greatest_unchanged, removal_at_most}
use Rattle.acl_eval.specs.Grant.{GrantsAtMost}
use Rattle.acl_contain.proofs.restricting.restricted.Goals as goal
use Rattle.acl_contain.specs.Removal.{IsGreatestRemoval}

pub returns : goal.returns
returns c =
    let list = c.args.list.now in
    let bound = c.args.bound.now in
    let r = c.restricted_of_views.result in
    let g : IfOk r (IsGreatestRemoval list bound) =
    subst (λ v. IfOk r (IsGreatestRemoval list v)) c.view-2.ensures
    (subst (λ v. IfOk r (IsGreatestRemoval v c.view-2.result)) c.view.ensures c.restricted_of_views.ensures) in
    record {
      removal = IfOk-weaker r (IsGreatestRemoval list bound) _ (λ kept h. h.removal) g;
      at_most_list = IfOk-weaker r (IsGreatestRemoval list bound) _
          (λ kept h. removal_at_most list kept h.removal) g;
      at_most_bound = IfOk-weaker r (IsGreatestRemoval list bound) _ (λ kept h. h.within) g;
      greatest = g;
      most = IfOk-weaker r (IsGreatestRemoval list bound) _
          (λ kept h other removal most. removal_at_most kept other (h.greatest other removal most)) g;
      unchanged = IfOk-weaker r (IsGreatestRemoval list bound) _ (λ kept h. greatest_unchanged
          (λ cut. GrantsAtMost all_rights cut bound) list kept h) g;
    }
