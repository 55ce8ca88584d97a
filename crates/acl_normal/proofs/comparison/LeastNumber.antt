-- The least number for which something does not hold, of rising numbers.
use Rattle.acl_normal.proofs.Common.{ap, arith, cases_lt, inl, inr, length, List, slice_index_or, subst, ℕ, ◌<◌, ◌≡◌, ◌≤◌, ◌⊎◌}
use Rattle.std.proofs.lemmas.Bool.{cases_order}
use Rattle.acl_normal.specs.internal.comparison.Columns.{IsNumberOr}
use Rattle.acl_normal.specs.internal.comparison.FirstPlaces.{IsLeast}

-- the least number for which something does not hold, if it holds for all numbers that are left out
pub least_number : (numbers : List ℕ) (n place least : ℕ) (P : ℕ → Type 0)
    → ((j : ℕ) → j < length numbers → slice_index_or numbers j 0 < n)
    → ((i j : ℕ) → i < j → j < length numbers → slice_index_or numbers i 0 < slice_index_or numbers j 0)
    → ((k : ℕ) → k < n → ((j : ℕ) × (j < length numbers) × (slice_index_or numbers j 0 ≡ k)) ⊎ P k)
    → ((j : ℕ) → j < place → j < length numbers → P (slice_index_or numbers j 0))
    → (place < length numbers → P (slice_index_or numbers place 0) → ⊥) → IsNumberOr numbers place n least
    → IsLeast P n least
least_number numbers n place least P below rising others before at is = go (cases_lt place (length numbers))
  where
    earlier : (j : ℕ) → place < length numbers → j < length numbers
        → slice_index_or numbers j 0 < slice_index_or numbers place 0 → j < place
    earlier j lp lj less = elim (cases_order j place) [
      | inl same ↦ absurd (omega (arith, less, ap (λ v. slice_index_or numbers v 0) same))
      | inr (inl l) ↦ l
      | inr (inr more) ↦ absurd (omega (arith, less, rising place j more lj))
    ]

    go : (place < length numbers) ⊎ (length numbers ≤ place) → IsLeast P n least
    go (inl lt) =
        let value : least ≡ slice_index_or numbers place 0 = is.inside lt in
        let within = below place lt in
        record {
          within = omega (arith, value, within);
          before = λ k lk. elim (others k (omega (arith, lk, value, within))) [
            | inl (j, lj, e) ↦
                subst P e (before j (earlier j lt lj (omega (arith, e, lk, value))) lj)
            | inr holds ↦ holds
          ];
          at = λ _ holds. at lt (subst P value holds);
        }
    go (inr past) =
        let value : least ≡ n = is.past past in
        record {
          within = omega (arith, value);
          before = λ k lk. elim (others k (omega (arith, lk, value))) [
            | inl (j, lj, e) ↦ subst P e (before j (omega (arith, lj, past)) lj)
            | inr holds ↦ holds
          ];
          at = λ l. absurd (omega (arith, l, value));
        }
