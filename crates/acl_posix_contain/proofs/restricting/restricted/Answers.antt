use Rattle.std.proofs.Common.{rules}
use Rattle.std.specs.Result.{IfOk}
use Rattle.std.proofs.lemmas.Result.{IfOk-weaker}
use Rattle.acl_posix_contain.specs.Removal.{IsGreatestPosixRemoval}
use Rattle.acl_posix_contain.specs.internal.Limits.{IsPosixRestricted}
use Rattle.acl_posix_contain.proofs.Looking.{valid_is_complete}
use Rattle.acl_posix_contain.proofs.Removals.{complete_removal, greatest_unchanged, removal_at_most, restricted_is_greatest}
use Rattle.acl_posix_contain.proofs.restricting.restricted.Goals as goal

pub returns : goal.returns
returns c =
    let E = c.args.acl.now in
    let B = c.args.bound.now in
    let r = c.without_excess.result in
    let whole = valid_is_complete E c.without_excess.ensures.valid in
    let g : IfOk r (IsGreatestPosixRemoval E B) =
    IfOk-weaker r (IsPosixRestricted E B) _ (λ C h. restricted_is_greatest E B C whole h)
    c.without_excess.ensures.kept in
    record {
      valid = search rules;
      removal = IfOk-weaker r (IsGreatestPosixRemoval E B) _ (λ C h. h.removal) g;
      at_most_list = IfOk-weaker r (IsGreatestPosixRemoval E B) _ (λ C h. removal_at_most E C whole h.removal) g;
      at_most_bound = IfOk-weaker r (IsGreatestPosixRemoval E B) _ (λ C h. h.at_most_bound) g;
      greatest = g;
      most = IfOk-weaker r (IsGreatestPosixRemoval E B) _ (λ C h other removal most.
          removal_at_most C other (complete_removal E C whole h.removal) (h.greatest other removal most)) g;
      unchanged = IfOk-weaker r (IsGreatestPosixRemoval E B) _ (λ C h. greatest_unchanged E B C h) g;
    }
