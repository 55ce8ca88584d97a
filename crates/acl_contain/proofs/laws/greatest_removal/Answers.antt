use Rattle.acl_normal.proofs.Common.{all_rights, full}
use Rattle.acl_normal.proofs.unique.Accepted.{accepted_masks, accepted_names}
use Rattle.acl_contain.proofs.restriction.Chosen.{restricted, restricted_by_rule}
use Rattle.acl_contain.proofs.restriction.Greatest.{greatest_once, greatest_unchanged, removal_at_most, restricted_is_greatest}
use Rattle.acl_eval.specs.Grant.{GrantsAtMost}
use Rattle.acl_contain.proofs.laws.greatest_removal.Goals as goal

pub returns-clause-less : goal.returns-clause-less
returns-clause-less c = removal_at_most

pub returns-clause-exists : goal.returns-clause-exists
returns-clause-exists c = λ list bound accepted other. (
  restricted list bound,
  restricted_is_greatest list bound (restricted list bound) (accepted_masks list accepted)
      (restricted_by_rule list bound (accepted_names full list accepted) (accepted_names full bound other)),
)

pub returns-clause-unique : goal.returns-clause-unique
returns-clause-unique c = λ list bound. greatest_once (λ cut. GrantsAtMost all_rights cut bound) list

pub returns-clause-unchanged : goal.returns-clause-unchanged
returns-clause-unchanged c = λ list bound. greatest_unchanged (λ cut. GrantsAtMost all_rights cut bound) list

pub returns-clause-wider : goal.returns-clause-wider
returns-clause-wider c = λ list bound wide cut more less first second.
    second.greatest cut first.removal (λ s valid request within granted.
    less s valid request within (first.within s valid request within granted))
