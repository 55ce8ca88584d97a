use Rattle.acl_posix.proofs.Common.{entry_contains, false, None, other, refl, sym, true, ℕ, ◌∙◌, ◌≡◌}
use Rattle.acl_posix.specs.internal.GroupAnswers.{HasAnswers}
use Rattle.acl_posix.proofs.group_answers.Answering.{excess_both, excess_denied, excess_granted, excess_none, excess_two, no_excess, none_denied}
use Rattle.acl_posix.proofs.group_answers.GroupAnswers.group_excess.Goals as goal
use Rattle.acl_posix.proofs.group_answers.GroupAnswers.group_excess.Goals.{else-first_grants-2, else-first_grants-via-else-first_grants, else-first_grants-via-then-first_grants+else-not-second_grants, then-first_grants-2+in_default-group_with}

pub returns-then-not-second_grants-clause-some : goal.returns-then-not-second_grants-clause-some
returns-then-not-second_grants-clause-some g c =
    excess_none _ _ _ _ (sym c.if-first_grants.ensures) (sym c.if-not-second_grants.ensures)

pub returns-in-Some-clause-some : goal.returns-in-Some-clause-some
returns-in-Some-clause-some g c = excess_both _ _ _ _ _ c.in-Some.ensures.some

pub returns-in-Some-group_with-clause-some : goal.returns-in-Some-group_with-clause-some
returns-in-Some-group_with-clause-some g c =
    excess_denied _ _ _ _ _ c.in-Some-group_with.ensures.some (sym c.if-first_grants-2.ensures)

pub returns-in_default-group_with-2-clause-none : goal.returns-in_default-group_with-2-clause-none
returns-in_default-group_with-2-clause-none g c = λ _ gs h.
    let A = g.Self.EntrySet.entries c.args.self.now in
    let B = g.Self.EntrySet.entries c.args.second.now in
    let og = c.args.asked.group.value in
    let r = c.args.asked.request.bits in
    let others : entry_contains A other r ≡ true → entry_contains B other r ≡ false → ⊥ = λ grants denies.
    elim c.else-first_grants.branch [
      | else-first_grants-via-then-first_grants+else-not-second_grants w ↦
          let wrong = w.if-not-second_grants.ensures ∙ denies in absurd cc
      | else-first_grants-via-else-first_grants w ↦ let wrong = w.if-first_grants.ensures ∙ grants in absurd cc
    ] in
    let denied : entry_contains A other r ≡ true → (i : ℕ) → HasAnswers B A og r false None i → ⊥ = λ grants i is.
    elim c.if-first_grants-2.branch [
      | then-first_grants-2+in_default-group_with w ↦ w.in_default-group_with.ensures.none refl i is
      | else-first_grants-2 w ↦ let wrong = w.if-first_grants-2.ensures ∙ grants in absurd cc
    ] in
    no_excess A B og r others (c.in_default.ensures.none refl) denied (c.in_default-group_with-2.ensures.none refl) gs h

pub returns-then-not-second_grants-2-clause-some : goal.returns-then-not-second_grants-2-clause-some
returns-then-not-second_grants-2-clause-some g c =
    excess_granted _ _ _ _ _ c.in-Some-group_with-2.ensures.some (sym c.if-not-second_grants-2.ensures)

pub returns-in_default-group_with-3-clause-none : goal.returns-in_default-group_with-3-clause-none
returns-in_default-group_with-3-clause-none g c = λ _ gs h. none_denied _ _ _ _ (sym c.if-not-second_grants-2.ensures)
    (c.in_default-group_with-3.ensures.none refl) gs h

pub returns-clause-some : goal.returns-clause-some
returns-clause-some g c =
    excess_two _ _ _ _ _ _ c.in-Some-group_with-2.ensures.some c.in-Some-group_with-3.ensures.some
