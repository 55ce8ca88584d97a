-- Lists of places in order.
use Rattle.acl_normal.proofs.Common.{AllByRecursion, Less, List, [], ap, is_at, is_le, list_any, nat_cmp, nat_cmp_is, or_cases, or_left, or_right, subst, sym, true, ℕ, ⊎_elim, ◌<◌, ◌∷◌, ◌≡◌, ◌≤◌}
use Rattle.std.proofs.lemmas.Map.Keys.{le_from_is_le}
use Rattle.acl_normal.proofs.rows.Slots.{is_eq_itself, is_eq_same}
use Rattle.std.specs.List.Sorted.{IsStrictlySortedBy}

-- the first place of a list is in it
pub front_in : (i : ℕ) (rest : List ℕ) → list_any (is_at (nat_cmp i)) (i ∷ rest) ≡ true
front_in i rest = or_left (is_at (nat_cmp i) i) (list_any (is_at (nat_cmp i)) rest) (is_eq_itself i)

-- a number that is less than another is at most that
pub less_le : (i j : ℕ) → nat_cmp i j ≡ Less → i ≤ j
less_le i j h = le_from_is_le i j (ap is_le h)

-- each place in an ordered rest is at least the place before it
pub later_than : (i l : ℕ) (rest : List ℕ) → AllByRecursion (λ y. nat_cmp i y ≡ Less) rest
    → list_any (is_at (nat_cmp l)) rest ≡ true → i ≤ l
later_than i l [] a h = cc
later_than i l (j ∷ rest) a h =
    ⊎_elim (λ e. here (is_eq_same l j e)) (λ e. later_than i l rest a.1 e)
    (or_cases (is_at (nat_cmp l) j) (list_any (is_at (nat_cmp l)) rest) h)
  where
    here : l ≡ j → i ≤ l
    here e = subst (λ v. i ≤ v) (sym e) (less_le i j a.0)

-- the empty list is in order
pub none_sorted : IsStrictlySortedBy nat_cmp []
unfolding IsStrictlySortedBy
none_sorted = tt

-- a list in order stays in order with a place before all others
pub sorted_before : (place : ℕ) (places : List ℕ) → IsStrictlySortedBy nat_cmp places
    → ((j : ℕ) → list_any (is_at (nat_cmp j)) places ≡ true → place < j) → IsStrictlySortedBy nat_cmp (place ∷ places)
unfolding IsStrictlySortedBy
sorted_before place places s h = (all places h, s)
  where
    all : (rest : List ℕ) → ((j : ℕ) → list_any (is_at (nat_cmp j)) rest ≡ true → place < j)
        → AllByRecursion (λ y. nat_cmp place y ≡ Less) rest
    all [] h = tt
    all (x ∷ rest) h = (
      sym (nat_cmp_is place x Less (h x (front_in x rest))),
      all rest (λ j t. h j (or_right (is_at (nat_cmp j) x) (list_any (is_at (nat_cmp j)) rest) t)),
    )
