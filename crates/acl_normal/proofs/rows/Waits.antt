-- Whether places wait before a place.
use Rattle.acl_normal.proofs.Common.{[], Ace, ap, arith, Bool, column, false, false_from_ne_true, is_at, is_le, is_waiting, Kind, length, List, list_any, nat_cmp, or_left, or_right, Ordering, refl, suc, sym, true, waits, waits_before, zero, ℕ, ◌<◌, ◌∙◌, ◌∷◌, ◌≡◌, ◌≤◌}
use Rattle.std.specs.Ordering.{is_gt}
use Rattle.std.proofs.lemmas.Map.Keys.{le_from_is_le}
use Rattle.acl_normal.proofs.unique.Columns.{column_first}

-- no place waits before a place if none of the lesser places does
pub before_none : (k : Kind) (u : Bool) (b : ℕ) (xs : List Ace) (i : ℕ) → ((j : ℕ) → j < i → waits k u b xs j ≡ false)
    → waits_before k u b xs i ≡ false
before_none k u b [] i h = refl
before_none k u b (a ∷ xs) zero h = refl
before_none k u b (a ∷ xs) (suc i) h =
    grind (arith, h 0, before_none k u b xs i (λ j l. h (suc j) (omega arith)))

-- a place waits before a place if one of the lesser places does
pub before_some : (k : Kind) (u : Bool) (b : ℕ) (xs : List Ace) (i j : ℕ) → j < i → waits k u b xs j ≡ true
    → waits_before k u b xs i ≡ true
before_some k u b [] i j l h = cc
before_some k u b (a ∷ xs) zero j l h = absurd (omega arith)
before_some k u b (a ∷ xs) (suc i) zero l h = or_left (is_waiting k u b a) (waits_before k u b xs i) h
before_some k u b (a ∷ xs) (suc i) (suc j) l h =
    or_right (is_waiting k u b a) (waits_before k u b xs i) (before_some k u b xs i j (omega arith) h)

-- what is not after another is before it or equal to it
not_after : (o : Ordering) → is_gt o ≡ false → is_le o ≡ true
not_after o h = grind arith

-- no place waits before the least of the places that wait
pub before_least : (k : Kind) (u : Bool) (b : ℕ) (xs : List Ace) (places : List ℕ) (least i : ℕ)
    → ((j : ℕ) → list_any (is_at (nat_cmp j)) places ≡ waits k u b xs j)
    → ((j : ℕ) → list_any (is_at (nat_cmp j)) places ≡ true → is_gt (nat_cmp least j) ≡ false) → i ≤ least
    → waits_before k u b xs i ≡ false
before_least k u b xs places least i has low l =
    before_none k u b xs i (λ j h. false_from_ne_true _ (λ t. clash j h (le_from_is_le least j
    (not_after (nat_cmp least j) (low j (has j ∙ t))))))
  where
    clash : (j : ℕ) → j < i → least ≤ j → ⊥
    clash j h e = omega (arith, h, e, l)

-- no place waits before any if there are no places that wait
pub before_empty : (k : Kind) (u : Bool) (b : ℕ) (xs : List Ace) (places : List ℕ) (i : ℕ)
    → ((j : ℕ) → list_any (is_at (nat_cmp j)) places ≡ waits k u b xs j) → places ≡ [] → waits_before k u b xs i ≡ false
before_empty k u b xs places i has none =
    before_none k u b xs i (λ j h. sym (has j) ∙ ap (list_any (is_at (nat_cmp j))) none)

-- what has no length is empty
pub no_keys : (places : List ℕ) → (0 < length places → ⊥) → places ≡ []
no_keys [] h = refl
no_keys (i ∷ places) h = absurd (h (omega arith))

-- at a bit that no ACE has nothing waits
pub waits_nowhere : (k : Kind) (u : Bool) (b : ℕ) (xs : List Ace) (i : ℕ) → column xs b ≡ [] → waits k u b xs i ≡ false
waits_nowhere k u b [] i h = refl
waits_nowhere k u b (a ∷ xs) zero h = grind (arith, column_first b a xs)
waits_nowhere k u b (a ∷ xs) (suc i) h = waits_nowhere k u b xs i (grind (arith, column_first b a xs))
