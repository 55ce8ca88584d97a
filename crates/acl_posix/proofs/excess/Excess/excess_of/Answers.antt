use Rattle.acl_posix.proofs.Common.{entry_contains, false, sym, true, user_obj, ◌∙◌, ◌≡◌}
use Rattle.acl_posix.proofs.excess.Exceeding.{grants_no_more, made_owner, with_any_group}
use Rattle.acl_posix.proofs.excess.Excess.excess_of.Goals as goal
use Rattle.acl_posix.proofs.excess.Excess.excess_of.Goals.{else-entry_contains-via-else-entry_contains, else-entry_contains-via-then-entry_contains+else-not-entry_contains}

pub returns-then-not-entry_contains-clause-some : goal.returns-then-not-entry_contains-clause-some
returns-then-not-entry_contains-clause-some g c =
    made_owner _ _ _ _ c.owner_difference.ensures.owner c.owner_difference.ensures.request
    (sym c.if-entry_contains.ensures) (sym c.if-not-entry_contains.ensures)

pub returns-in-Some-clause-none : goal.returns-in-Some-clause-none
returns-in-Some-clause-none g c = λ none.
    let A = g.Self.EntrySet.entries c.args.self.now in
    let B = g.Self.EntrySet.entries c.args.second.now in
    let r = c.args.request.bits in
    let owner : entry_contains A user_obj r ≡ true → entry_contains B user_obj r ≡ false → ⊥ = λ grants denies.
    elim c.else-entry_contains.branch [
      | else-entry_contains-via-then-entry_contains+else-not-entry_contains w ↦
          let wrong = w.if-not-entry_contains.ensures ∙ denies in absurd cc
      | else-entry_contains-via-else-entry_contains w ↦ let wrong = w.if-entry_contains.ensures ∙ grants in absurd cc
    ] in
    grants_no_more A B r owner (λ og is. with_any_group A B c.in-Some.group.value r
    (rw c.in-Some.is at c.requires.group) (c.excess_at.ensures.none none) og)

pub returns-in-None-clause-none : goal.returns-in-None-clause-none
returns-in-None-clause-none g c = λ none.
    let A = g.Self.EntrySet.entries c.args.self.now in
    let B = g.Self.EntrySet.entries c.args.second.now in
    let r = c.args.request.bits in
    let owner : entry_contains A user_obj r ≡ true → entry_contains B user_obj r ≡ false → ⊥ = λ grants denies.
    elim c.else-entry_contains.branch [
      | else-entry_contains-via-then-entry_contains+else-not-entry_contains w ↦
          let wrong = w.if-not-entry_contains.ensures ∙ denies in absurd cc
      | else-entry_contains-via-else-entry_contains w ↦ let wrong = w.if-entry_contains.ensures ∙ grants in absurd cc
    ] in
    grants_no_more A B r owner (c.excess_anywhere.ensures.none none)
