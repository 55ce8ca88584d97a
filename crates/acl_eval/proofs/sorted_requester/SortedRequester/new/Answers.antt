use Rattle.std.proofs.Common.{subst, List, ℕ, Vec, Global}
use Rattle.std.proofs.lemmas.Option.{same_Some}
use Rattle.std.specs.Borrow.{Bor}
use Rattle.acl_eval.specs.internal.GroupOrder.{IsSortedCopy}
use Rattle.acl_eval.proofs.Members.{same_situation}
use Rattle.acl_eval.proofs.sorted_requester.SortedRequester.new.Goals as goal

pub invariant_of-result : goal.invariant_of-result
invariant_of-result c =
    let groups = c.for_look_ups-requester.result.groups in record {
      copied = λ x e. subst (λ (v : Vec (Bor (List ℕ)) Global). IsSortedCopy groups.names.now v.items)
          (same_Some c.in_ok-copy.copy x e)
          (subst (λ (names : List (Bor (List ℕ))). IsSortedCopy names c.in_ok-copy.copy.items) c.names.ensures
          c.in_ok-copy.ensures);
      counted = λ x e. c.are_worth_sorting.ensures c.if-not-are_worth_sorting.false;
    }

pub returns-clause-situation : goal.returns-clause-situation
returns-clause-situation c = λ object.
    same_situation object c.for_look_ups-requester.result c.args.requester c.for_look_ups-requester.ensures.user
    c.for_look_ups-requester.ensures.groups
