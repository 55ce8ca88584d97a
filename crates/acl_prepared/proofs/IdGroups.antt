-- Ids that rise, the search of one among them, and whom an ACE of an id matches.
use Rattle.std.proofs.Common.{◌≡◌, ℕ, ◌+◌, ◌<◌, ◌≤◌, ◌^◌, Bool, true, false, List, [], ◌∷◌, refl, sym, ◌∙◌, ap, arith, inl, inr, length, get_or, suc, Fits, w32}
use Rattle.std.proofs.lemmas.Bool.{cases_lt, eqb-true, eq-eqb}
use Rattle.std.proofs.lemmas.Bool.Decides.{nat_tests}
use Rattle.std.proofs.lemmas.Cmp.{nat_cmp_total}
use Rattle.std.proofs.lemmas.Fmt.{decimal_injective}
use Rattle.std.proofs.lemmas.List.{get_or_default}
use Rattle.std.proofs.lemmas.List.Folds.{list_any_at, list_any_none}
use Rattle.std.proofs.lemmas.List.Sorted.{searched}
use Rattle.std.proofs.lemmas.Map.Keys.{below_from_sorted, non_decreasing_from_sorted, sorted_from_all_adjacent}
use Rattle.std.proofs.lemmas.Slice.Eq.{bytes_eq-Decides}
use Rattle.std.specs.Prelude.{map, ◌↔◌, ◌||◌, ◌==◌, IsTrue, Result, Ok, Err, is_ok, ◌⊎◌, nat_lt, slice_index_or}
use Rattle.std.specs.Fmt.{decimal}
use Rattle.std.specs.List.{IsAllAdjacentAnswer, list_any}
use Rattle.std.specs.List.Sorted.{IsBinarySearchResult}
use Rattle.std.specs.Ordering.{nat_cmp}
use Rattle.std.specs.Str.{bytes_eq}
use Rattle.std.specs.declared.cmp.Ordering.TheVariants.{Less}
use Rattle.acl_perm.proofs.Bools.{same_answers}
use Rattle.acl_perm.specs.Situation.{is_one_of}
use Rattle.acl_ids.specs.Ids.{AreRising}

-- a number that is below another compares as nat_cmp-Less
nat_cmp-Less : (x y : ℕ) → x < y → nat_cmp x y ≡ Less
nat_cmp-Less x y lt = grind (arith, nat_tests)

-- a test of each id and the next says whether the ids rise
pub AreRising-adjacent : (xs : List ℕ) (r : Bool) → IsAllAdjacentAnswer (λ x y b. b ≡ nat_lt x y) xs r
    → IsTrue r ↔ AreRising xs
AreRising-adjacent xs true up = (
  λ yes. sorted_from_all_adjacent nat_cmp_total xs 0 (λ k lt. nat_cmp-Less _ _ (by (up k 0 lt))),
  λ sorted. refl,
)
  where
    by : {x y : ℕ} → true ≡ nat_lt x y → x < y
    by e = grind (arith, nat_tests)
AreRising-adjacent xs false (k, lt, down) = (
  λ no. absurd cc,
  λ sorted. absurd (by (below_from_sorted xs k (k + 1) 0 sorted (omega arith) lt) (down 0)),
)
  where
    by : {x y : ℕ} → x < y → false ≡ nat_lt x y → ⊥
    by l e = grind (arith, nat_tests)

-- numbers that differ do not pass the test of equality
not_same : (x y : ℕ) → (x ≡ y → ⊥) → (x == y) ≡ false
not_same x y differ = grind (arith, nat_tests)

-- a binary search among ids that rise finds an id if and only if it is there
pub found : (xs : List ℕ) (x : ℕ) (r : Result ℕ ℕ) → AreRising xs → IsBinarySearchResult (λ y. nat_cmp y x) xs r
    → is_ok r ≡ list_any (λ g. x == g) xs
found xs x (Ok i) order at =
    let s = searched xs x (Ok i) at (λ i j. non_decreasing_from_sorted xs order i j 0) in
    sym (list_any_at (λ g. x == g) xs i 0 s.0 (eq-eqb x _ (sym s.1)))
found xs x (Err i) order at =
    sym (list_any_none (λ g. x == g) xs (λ k d l. apart k d l (cases_lt k i)
    (searched xs x (Err i) at (λ i j. non_decreasing_from_sorted xs order i j 0))))
  where
    apart : (k d : ℕ) → k < length xs → (k < i) ⊎ (i ≤ k)
        → (i ≤ length xs) × ((k : ℕ) → k < i → slice_index_or xs k 0 < x)
        × ((k : ℕ) → i ≤ k → k < length xs → x < slice_index_or xs k 0)
        → (x == slice_index_or xs k d) ≡ false
    apart k d l (inl low) s = not_same x _ (λ e. omega (arith, s.1 k low, get_or_default xs k d 0 l, e))
    apart k d l (inr high) s = not_same x _ (λ e. omega (arith, s.2 k high l, get_or_default xs k d 0 l, e))

-- the digits of two ids are equal if and only if the ids are
pub same_digits : (m n : ℕ) → m < 2 ^ 32 → n < 2 ^ 32 → bytes_eq (decimal m) (decimal n) ≡ (m == n)
same_digits m n p q = same_answers (bytes_eq (decimal m) (decimal n)) (m == n)
    (λ h. eq-eqb m n (decimal_injective m n (omega arith) (omega arith)
    ((bytes_eq-Decides (decimal m) (decimal n)).0 h)))
    (λ h. (bytes_eq-Decides (decimal m) (decimal n)).1 (ap decimal (eqb-true m n h)))

-- the digits of an id are among those of others if and only if the id is among the others
pub member : (id : ℕ) (gs : List ℕ) → id < 2 ^ 32 → ((i : ℕ) → Fits w32 (get_or gs i 0))
    → list_any (λ g. id == g) gs ≡ is_one_of (decimal id) (map decimal gs)
member id [] h all = refl
member id (g ∷ gs) h all =
    ap (λ (b : Bool). b || list_any (λ g. id == g) gs) (sym (same_digits id g h (all 0).fits))
    ∙ ap (λ (b : Bool). bytes_eq (decimal id) (decimal g) || b) (member id gs h (λ i. all (suc i)))
