use Rattle.acl_posix.proofs.Common.{refl, sym, ◌∙◌}
use Rattle.acl_posix.proofs.group_answers.Answering.{not_reached, other_answer, reached_none, reached_one, same_answer}
use Rattle.acl_posix.proofs.group_answers.GroupAnswers.groups_with.Goals as goal

pub returns-then-entry_contains-answer : goal.returns-then-entry_contains-answer
returns-then-entry_contains-answer g c =
    let same = same_answer _ _ c.if-entry_contains-answer.true in
    record { some = reached_none _ _ _ _ (sym c.entry_contains.ensures ∙ same); none = λ n. absurd cc }

pub returns-in-Some : goal.returns-in-Some
returns-in-Some g c =
    record { some = reached_one _ _ _ _ _ c.in-Some.ensures.some.own_is; none = λ n. absurd cc }

pub returns-in-None : goal.returns-in-None
returns-in-None g c = record {
  some = tt;
  none = λ _ gs h. not_reached _ _ _ _
      (λ is. other_answer _ _ c.if-entry_contains-answer.false (c.entry_contains.ensures ∙ is))
      (c.in-None.ensures.none refl) gs h;
}
