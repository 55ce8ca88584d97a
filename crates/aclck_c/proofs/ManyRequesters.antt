-- The answers for many requesters, written place by place.
use Rattle.std.proofs.Common.{◌≡◌, ◌+◌, ◌<◌, ℕ, List, Some, arith, get_or, inl, inr, length, set, slice_get, subst, sym}
use Rattle.std.specs.Prelude.{slice_index_or}
use Rattle.std.proofs.lemmas.Bool.{cases_eq, cases_lt}
use Rattle.std.proofs.lemmas.Grind.{get_or-set_at}
use Rattle.std.proofs.lemmas.List.{get_or-set_other}
use Rattle.std.proofs.lemmas.Option.{get_or_from_slice_get}

-- if the answers before a place are right, and a right answer is written at the place, those up to the place are right
pub right_up_to : {A B : Type 0} (IsRight : A → B → Type 0) (given : List A) (answers : List B) (at : ℕ)
    (found unset : B) (none : A)
    → IsRight (get_or given at none) found → at < length answers
    → ((k : ℕ) (who : A) → k < at → slice_get given k ≡ Some who → IsRight who (slice_index_or answers k unset))
    → (k : ℕ) (who : A) → k < at + 1 → slice_get given k ≡ Some who
    → IsRight who (slice_index_or (set answers at found) k unset)
right_up_to IsRight given answers at found unset none here within before k who below get = elim (cases_eq k at) [
  | inl e ↦
      subst (IsRight who) (sym (get_or-set_at answers at k found unset e within))
      (subst (λ w. IsRight w found)
      (get_or_from_slice_get given at who none (subst (λ (n : ℕ). slice_get given n ≡ Some who) e get)) here)
  | inr n ↦ elim (cases_lt k at) [
    | inl lower ↦ subst (IsRight who) (sym (get_or-set_other answers at k found unset n)) (before k who lower get)
    | inr ge ↦ absurd (n (omega (arith, below, ge)))
  ]
]
