-- The principals of a table, in order, and their numbers.
use Rattle.acl_normal.proofs.Common.{Ace, AllByRecursion, Equal, Greater, IsRisingSet, Less, List, None, Option, Ordering, Principal, Some, [], ap, append-nil, arith, cases_lt, get_or-append_seam, get_or_append_left, inl, inr, is_principal_of, length, length-append, length-map, map-append, principal, principal_cmp, principal_exact, principals, refl, row_of, same_Some, slice_index_or, subst, suc, sym, take, take_more, true, zero, ℕ, ◌++◌, ◌+◌, ◌<◌, ◌∙◌, ◌∷◌, ◌≡◌, ◌≤◌, ◌⊎◌}
use Rattle.acl_normal.proofs.rows.Rows.{row_less}
use Rattle.acl_normal.specs.internal.comparison.MentionedRows.{AreMentionedNumbers, HasNumber, at_row, held, with_found}
use Rattle.acl_perm.specs.declared.principal.Principal.{Principal as PrincipalRef}
use Rattle.acl_normal.proofs.comparison.Ordered.{principal_greater}

-- the principals of two tables together are those of the first and then those of the second
held_append : (table more : List (Option PrincipalRef)) → held (table ++ more) ≡ held table ++ held more
held_append [] more = refl
held_append (None ∷ table) more = held_append table more
held_append (Some p ∷ table) more = ap (λ v. principal p ∷ v) (held_append table more)

-- the principals of one row more are those before the row and then that of the row, if it has one
held_more : (table : List (Option PrincipalRef)) (i : ℕ) (d : Option PrincipalRef) → i < length table
    → held (take (i + 1) table) ≡ held (take i table) ++ held (slice_index_or table i d ∷ [])
held_more table i d l = ap held (take_more table i d l) ∙ held_append (take i table) (slice_index_or table i d ∷ [])

-- the number of one row more is the number of the principals before it
numbers_with : (table : List (Option PrincipalRef)) (i : ℕ) (whole more : List Principal) (numbers new : List ℕ)
    (number : ℕ) → number ≡ length whole → new ≡ numbers ++ number ∷ [] → more ≡ held (take (i + 1) table)
    → AreMentionedNumbers table i whole numbers → AreMentionedNumbers table (i + 1) more new
numbers_with table i whole more numbers new number is e m n = record {
  whole_is = m;
  count = ap length e ∙ length-append numbers (number ∷ []) ∙ ap (λ v. v + 1) n.count;
  at = λ row l. go row (cases_lt row i) l;
}
  where
    go : (row : ℕ) → (row < i) ⊎ (i ≤ row) → row < i + 1
        → slice_index_or new row 0 ≡ length (held (take row table))
    go row (inl l) u =
        ap (λ v. slice_index_or v row 0) e
        ∙ get_or_append_left numbers (number ∷ []) 0 row (omega (arith, l, n.count)) ∙ n.at row l
    go row (inr l) u =
        let this : row ≡ i = omega (arith, l, u) in
        let last : row ≡ length numbers = omega (arith, this, n.count) in
        ap (λ v. slice_index_or v row 0) e ∙ ap (λ v. slice_index_or (numbers ++ number ∷ []) v 0) last
        ∙ get_or-append_seam numbers number [] 0 ∙ is ∙ ap length n.whole_is
        ∙ ap (λ v. length (held (take v table))) (sym this)

-- after a row without a principal, the numbers are those of one row more, with the same names
numbers_skip : (table : List (Option PrincipalRef)) (i : ℕ) (d : Option PrincipalRef) (names : List PrincipalRef)
    (numbers new : List ℕ) (number : ℕ) → i < length table → slice_index_or table i d ≡ None
    → number ≡ length names → new ≡ numbers ++ number ∷ [] → AreMentionedNumbers table i (principals names) numbers
    → AreMentionedNumbers table (i + 1) (principals names) new
numbers_skip table i d names numbers new number l none is e n =
    numbers_with table i (principals names) (principals names) numbers new number
    (is ∙ sym (length-map names principal)) e
    (n.whole_is ∙ sym (held_more table i d l ∙ ap (λ v. held (take i table) ++ held (v ∷ [])) none
    ∙ append-nil (held (take i table)))) n

-- after a row with a principal, the numbers are those of one row more, with its name after the others
numbers_more : (table : List (Option PrincipalRef)) (i : ℕ) (d : Option PrincipalRef) (p : PrincipalRef)
    (names more : List PrincipalRef) (numbers new : List ℕ) (number : ℕ) → i < length table
    → slice_index_or table i d ≡ Some p → more ≡ names ++ p ∷ [] → number ≡ length names
    → new ≡ numbers ++ number ∷ [] → AreMentionedNumbers table i (principals names) numbers
    → AreMentionedNumbers table (i + 1) (principals more) new
numbers_more table i d p names more numbers new number l some pushed is e n =
    numbers_with table i (principals names) (principals more) numbers new number
    (is ∙ sym (length-map names principal)) e
    (ap principals pushed ∙ map-append principal names (p ∷ []) ∙ ap (λ v. v ++ principal p ∷ []) n.whole_is
    ∙ sym (held_more table i d l ∙ ap (λ v. held (take i table) ++ held (v ∷ [])) some)) n

-- after one more row, the names and the numbers that the code makes are those of one row more
pub numbers_step : (table : List (Option PrincipalRef)) (i : ℕ) {found : Option PrincipalRef} (d : Option PrincipalRef)
    (names : List PrincipalRef) {more : List PrincipalRef} {numbers new : List ℕ} {number : ℕ} → i < length table
    → found ≡ slice_index_or table i d → number ≡ length names → new ≡ numbers ++ number ∷ []
    → more ≡ with_found names found → AreMentionedNumbers table i (principals names) numbers
    → AreMentionedNumbers table (i + 1) (principals more) new
numbers_step table i {found} d names {more} {numbers} {new} {number} l at is e m n =
    subst (λ v. AreMentionedNumbers table (i + 1) (principals v) new) (sym m) (go found (sym at))
  where
    go : (o : Option PrincipalRef) → slice_index_or table i d ≡ o
        → AreMentionedNumbers table (i + 1) (principals (with_found names o)) new
    go None h = numbers_skip table i d names numbers new number l h is e n
    go (Some p) h = numbers_more table i d p names (names ++ p ∷ []) numbers new number l h refl is e n

-- the number of the principal in a row is the number of the principals in the rows before it
pub held_at : (table : List (Option PrincipalRef)) (row : ℕ) (p : Principal) → at_row table row ≡ Some p
    → HasNumber (held table) p (length (held (take row table)))
held_at [] row p e = absurd (cc)
held_at (None ∷ table) zero p e = absurd (cc)
held_at (Some q ∷ table) zero p e = record { within = omega arith; is = sym (same_Some (principal q) p e) }
held_at (None ∷ table) (suc row) p e = held_at table row p e
held_at (Some q ∷ table) (suc row) p e =
    let behind = held_at table row p e in
    record { within = omega (arith, behind.within); is = behind.is }

-- what holds of the principal in each row holds of all principals of the table
pub all_held : (P : Principal → Type 0) (table : List (Option PrincipalRef))
    → ((row : ℕ) (p : Principal) → at_row table row ≡ Some p → P p) → AllByRecursion P (held table)
all_held P [] h = tt
all_held P (None ∷ table) h = all_held P table (λ row. h (suc row))
all_held P (Some p ∷ table) h = (h 0 (principal p) refl, all_held P table (λ row. h (suc row)))

-- if each principal of a table is in its own row, the principals rise
pub rising_held : (xs : List Ace) (table : List (Option PrincipalRef)) (i : ℕ)
    → ((row : ℕ) (p : Principal) → at_row table row ≡ Some p → (i + row ≡ row_of p xs) × (is_principal_of p xs ≡ true))
    → IsRisingSet (held table)
rising_held xs [] i h = tt
rising_held xs (None ∷ table) i h = rising_held xs table (i + 1) (λ row p e. let b = h (suc row) p e in
    (omega (arith, b.0), b.1))
rising_held xs (Some q ∷ table) i h = (
  all_held (λ p. principal_cmp (principal q) p ≡ Less) table
      (λ row p e. above row p (h (suc row) p e) (h 0 (principal q) refl)),
  rising_held xs table (i + 1) (λ row p e. let b = h (suc row) p e in (omega (arith, b.0), b.1)),
)
  where
    above : (row : ℕ) (p : Principal) → (i + suc row ≡ row_of p xs) × (is_principal_of p xs ≡ true)
        → (i + 0 ≡ row_of (principal q) xs) × (is_principal_of (principal q) xs ≡ true)
        → principal_cmp (principal q) p ≡ Less
    above row p b a = go (principal_cmp (principal q) p) refl
      where
        go : (o : Ordering) → principal_cmp (principal q) p ≡ o → principal_cmp (principal q) p ≡ Less
        go Less e = e
        go Equal e =
            let same : row_of (principal q) xs ≡ row_of p xs =
            ap (λ v. row_of v xs) (principal_exact (principal q) p e) in
            absurd (omega (arith, same, a.0, b.0))
        go Greater e =
            absurd (omega (arith, row_less p (principal q) xs b.1 (principal_greater (principal q) p e), a.0, b.0))
