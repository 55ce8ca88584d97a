use Rattle.acl_normal.proofs.Common.{IfOk, IfOk-weaker, subst}
use Rattle.acl_contain.proofs.restriction.Greatest.{greatest_unchanged}
use Rattle.acl_contain.proofs.restriction.PutBack.{removal_everywhere}
use Rattle.acl_contain.proofs.restricting.everywhere.restricted_everywhere.Goals as goal
use Rattle.acl_contain.specs.EveryPath.{AtMostEverywhere, IsGreatestEverywhere}

pub returns : goal.returns
returns c =
    let list = c.args.list.now in
    let bound = c.args.bound.now in
    let r = c.restricted_of_views.result in
    let g : IfOk r (IsGreatestEverywhere list bound) =
    subst (λ v. IfOk r (IsGreatestEverywhere list v)) c.view-2.ensures
    (subst (λ v. IfOk r (IsGreatestEverywhere v c.view-2.result)) c.view.ensures c.restricted_of_views.ensures) in
    record {
      removal = IfOk-weaker r (IsGreatestEverywhere list bound) _ (λ kept h. h.removal) g;
      at_most_list = IfOk-weaker r (IsGreatestEverywhere list bound) _
          (λ kept h. removal_everywhere list kept h.removal) g;
      at_most_bound = IfOk-weaker r (IsGreatestEverywhere list bound) _ (λ kept h. h.within) g;
      greatest = g;
      most = IfOk-weaker r (IsGreatestEverywhere list bound) _
          (λ kept h other removal most. removal_everywhere kept other (h.greatest other removal most)) g;
      unchanged = IfOk-weaker r (IsGreatestEverywhere list bound) _ (λ kept h. greatest_unchanged
          (λ cut. AtMostEverywhere cut bound) list kept h) g;
    }
