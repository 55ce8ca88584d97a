-- Loops over ACEs in memory, and what they gather bit by bit.
use Rattle.std.proofs.Common.{Bool, List, [], length, refl, take, ℕ, ◌++◌, ◌+◌, ◌<◌, ◌∷◌, ◌≡◌}
use Rattle.acl_normal.proofs.Common.{Ace, AceRef, Allow, Column, ColumnKey, IsUnion, Kind, Principal, ace, aces_in, ap, arith, column, conflicts_before, counts, default, everyone, first_kind, has_bit, has_opposite, is_either, is_free, is_some, kind_eq, not, principal_eq, principal_of, slice_index_or, sym, verdict, ◌&&◌, ◌||◌, ◌∙◌}
use Rattle.acl_normal.specs.internal.Best.{is_shadowed}
use Rattle.acl_normal.proofs.reduce.Passes.{free-append, list_of-more}
use Rattle.acl_normal.proofs.unique.Columns.{column-append}

-- the set has the bits at which the test holds
abbrev pub Marks : ℕ → (ℕ → Bool) → Type 0
Marks m test = (bit : ℕ) → has_bit m bit ≡ test bit

-- the test holds at a bit of two lists together if and only if it holds of one of them
abbrev pub IsGathered : (List Ace → ℕ → Bool) → Type 0
IsGathered test = (xs ys : List Ace) (bit : ℕ) → test (xs ++ ys) bit ≡ (test xs bit || test ys bit)

-- one more ACE adds its bits
pub union_more : (test : List Ace → ℕ → Bool) → IsGathered test → (xs : List AceRef) {x : AceRef} {i : ℕ} (m n u : ℕ)
    → i < length xs → x ≡ slice_index_or xs i x → Marks m (test (aces_in (take i xs))) → Marks n (test (ace x ∷ []))
    → IsUnion m n u → Marks u (test (aces_in (take (i + 1) xs)))
union_more test gathered xs {x} {i} m n u lt is before here both bit =
    both bit
    ∙ rw (before bit, here bit) (sym (gathered (aces_in (take i xs)) (ace x ∷ []) bit))
    ∙ ap (λ v. test v bit) (sym (list_of-more xs x i lt is))

-- a test finds a key in two columns together if and only if it finds one in either
is_some-append : (m : Principal → Bool) (l r : Column)
    → is_some (first_kind m (l ++ r)) ≡ (is_some (first_kind m l) || is_some (first_kind m r))
is_some-append m [] r = refl
is_some-append m ((p, k) ∷ l) r = grind (arith, is_some-append m l r)

-- two lists together shadow a principal at a bit if and only if one of them does
pub shadows_gathered : (p : Principal) → IsGathered (is_shadowed p)
shadows_gathered p xs ys bit =
    ap (λ c. is_some (first_kind (is_either p everyone) c)) (column-append bit xs ys)
    ∙ is_some-append (is_either p everyone) (column xs bit) (column ys bit)

-- two columns together have an opposite key if and only if one of them has
opposite-append : (d : Kind) (p : Principal) (l r : Column)
    → has_opposite d p (l ++ r) ≡ (has_opposite d p l || has_opposite d p r)
opposite-append d p [] r = refl
opposite-append d p ((q, j) ∷ l) r = grind (arith, opposite-append d p l r)

-- two lists together have an opposite key at a bit if and only if one of them has
pub opposites_gathered : (d : Kind) (p : Principal) → IsGathered (λ list bit. has_opposite d p (column list bit))
opposites_gathered d p xs ys bit =
    ap (has_opposite d p) (column-append bit xs ys) ∙ opposite-append d p (column xs bit) (column ys bit)

-- a key conflicts with one of two columns together if and only if it does with one of either
blocked-append : (e : ColumnKey) (l r : Column)
    → conflicts_before (l ++ r) e ≡ (conflicts_before l e || conflicts_before r e)
blocked-append e [] r = refl
blocked-append e (f ∷ l) r = grind (arith, blocked-append e l r)

-- two lists together have a key at a bit that conflicts if and only if one of them has
pub blocks_gathered : (e : ColumnKey) → IsGathered (λ list bit. conflicts_before (column list bit) e)
blocks_gathered e xs ys bit =
    ap (λ c. conflicts_before c e) (column-append bit xs ys) ∙ blocked-append e (column xs bit) (column ys bit)

-- ---- what everyone is allowed

-- two columns together allow if the first allows, or if the second does and the first decides nothing
decided-append : (m : Principal → Bool) (l r : Column) → kind_eq (verdict m (l ++ r)) Allow
    ≡ (kind_eq (verdict m l) Allow || (kind_eq (verdict m r) Allow && not (is_some (first_kind m l))))
decided-append m [] r = grind arith
decided-append m ((p, k) ∷ l) r = grind (arith, decided-append m l r)

-- one more ACE adds what it allows everyone, where none before it decides
pub default_allows_more : (xs : List AceRef) {x : AceRef} {i : ℕ} (m n s u : ℕ) → i < length xs
    → x ≡ slice_index_or xs i x
    → Marks m (λ bit. kind_eq (default (column (aces_in (take i xs)) bit)) Allow)
    → Marks s (is_shadowed everyone (aces_in (take i xs)))
    → Marks n (λ bit. kind_eq (default (column (ace x ∷ []) bit)) Allow && not (has_bit s bit))
    → IsUnion m n u → Marks u (λ bit. kind_eq (default (column (aces_in (take (i + 1) xs)) bit)) Allow)
default_allows_more xs {x} {i} m n s u lt is before seen here both bit =
    both bit
    ∙ rw (before bit, here bit, seen bit)
    (sym (decided-append (is_either everyone everyone) (column (aces_in (take i xs)) bit) (column (ace x ∷ []) bit)))
    ∙ ap (λ c. kind_eq (default c) Allow) (sym (column-append bit (aces_in (take i xs)) (ace x ∷ [])))
    ∙ ap (λ v. kind_eq (default (column v bit)) Allow) (sym (list_of-more xs x i lt is))

-- ---- where a key is free

-- one more ACE adds its bits of that key, where none before it conflicts
pub free_more : (e : ColumnKey) (xs : List AceRef) {x : AceRef} {i : ℕ} (m n s u : ℕ) → i < length xs
    → x ≡ slice_index_or xs i x → Marks m (λ bit. is_free (column (aces_in (take i xs)) bit) e)
    → Marks s (λ bit. conflicts_before (column (aces_in (take i xs)) bit) e)
    → Marks n (λ bit. is_free (column (ace x ∷ []) bit) e && not (has_bit s bit))
    → IsUnion m n u → Marks u (λ bit. is_free (column (aces_in (take (i + 1) xs)) bit) e)
free_more e xs {x} {i} m n s u lt is before blocked here both bit =
    both bit
    ∙ rw (before bit, here bit, blocked bit)
    (sym (free-append e (column (aces_in (take i xs)) bit) (column (ace x ∷ []) bit)))
    ∙ ap (λ c. is_free c e) (sym (column-append bit (aces_in (take i xs)) (ace x ∷ [])))
    ∙ ap (λ v. is_free (column v bit) e) (sym (list_of-more xs x i lt is))

-- in the column of one ACE, just its own key is free
pub free_alone : (y : Ace) (e : ColumnKey) (bit : ℕ) → is_free (column (y ∷ []) bit) e
    ≡ (counts bit y && (principal_eq (principal_of y) e.0 && kind_eq y.kind e.1))
free_alone y e bit = grind arith
