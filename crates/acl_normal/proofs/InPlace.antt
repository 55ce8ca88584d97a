-- The rows of a list that is its own normal form, place by place.
use Rattle.acl_normal.proofs.Common.{Ace, AddsRow, AreRows, Bool, ColumnKey, IsOnce, IsQuiet, IsTidy, List, Some, [], ace_key, all_cleared, ap, arith, bytes_eq, cleared, column, eqb-true, everyone_name, false, first_at, flags_for, group_name, has_bit, identifier_group, key_here, left, length, map, map-append, mask_here, of_borrowed, owner_name, principal_here, principal_of, refl, slice_index_or, subst, suc, sym, take, take_all, take_more, true, with_bit, zero, ℕ, ◌++◌, ◌+◌, ◌<◌, ◌==◌, ◌∙◌, ◌∷◌, ◌≡◌, ◌≤◌}
use Rattle.std.proofs.lemmas.List.Elements.{filter-append}
use Rattle.acl_normal.specs.Tables.{TableRow}
use Rattle.acl_normal.specs.declared.right_table.BorrowedRow.{BorrowedRow}
use Rattle.acl_normal.proofs.Tables.{row_pushed}
use Rattle.acl_normal.proofs.emit.RisingKeys.{named_again}
use Rattle.acl_normal.proofs.rows.FirstPlaces.{first_by_place, first_here}
use Rattle.acl_normal.proofs.unique.Bits.{no_bits_of_zero}

-- ---- where an ACE is

-- the ACE at a place has the key and the mask of the place
here_is : (xs : List Ace) (i : ℕ) (a : Ace) → i < length xs → slice_index_or xs i a ≡ a
    → (key_here xs i ≡ ace_key a) × (mask_here xs i ≡ a.mask)
here_is [] i a l is = absurd (omega (arith, l))
here_is (x ∷ xs) zero a l is = (ap ace_key is, ap (λ (v : Ace). v.mask) is)
here_is (x ∷ xs) (suc i) a l is = here_is xs i a (omega (arith, l)) is

-- in a list without repetition each ACE with the bit is the first of its principal
first_once : (b : ℕ) (xs : List Ace) (i : ℕ) (a : Ace) → i < length xs → slice_index_or xs i a ≡ a
    → has_bit a.mask b ≡ true → IsOnce (column xs b) → IsQuiet xs → first_at b (principal_of a) xs ≡ Some (a.kind, i)
first_once b xs i a l is has once quiet =
    let here = here_is xs i a l is in
    let has_here : has_bit (mask_here xs i) b ≡ true = ap (λ m. has_bit m b) here.1 ∙ has in
    subst (λ (k : ColumnKey). first_at b k.0 xs ≡ Some (k.1, i)) here.0
    (first_by_place b (principal_here xs i) xs i (first_here b xs i once quiet has_here l))

-- ---- the word on groups

-- if an ACE lacks IDENTIFIER_GROUP, its principal needs no such flag
pub no_group_name : (a : Ace) → has_bit a.flags identifier_group ≡ false
    → has_bit (flags_for (principal_of a)) identifier_group ≡ false
no_group_name a lacks = go (bytes_eq a.who owner_name) refl (bytes_eq a.who group_name) refl
    (bytes_eq a.who everyone_name) refl
  where
    go : (o : Bool) → bytes_eq a.who owner_name ≡ o → (g : Bool) → bytes_eq a.who group_name ≡ g
        → (e : Bool) → bytes_eq a.who everyone_name ≡ e
        → has_bit (flags_for (principal_of a)) identifier_group ≡ false
    go true h g i e j = rw h (no_bits_of_zero identifier_group)
    go false h true i e j = rw (h, i) (no_bits_of_zero identifier_group)
    go false h false i true j = rw (h, i, j) (no_bits_of_zero identifier_group)
    go false h false i false j = rw (h, i, j, lacks) (no_bits_of_zero identifier_group)

-- ---- the loop

-- if the next ACE adds its row, the rows are those of the ACEs up to it
next_place : (b : ℕ) (xs : List Ace) (i : ℕ) (a : Ace) (old new : List BorrowedRow) → i < length xs
    → slice_index_or xs i a ≡ a → AddsRow b xs (cleared a) old new
    → AreRows b xs (with_bit b (all_cleared (take i xs))) (map of_borrowed old)
    → AreRows b xs (with_bit b (all_cleared (take (i + 1) xs))) (map of_borrowed new)
next_place b xs i a old new l is adds so =
    subst (λ v. AreRows b xs v (map of_borrowed new))
    (sym (filter-append (λ (a : Ace). has_bit a.mask b) (all_cleared (take i xs)) (cleared a ∷ []))
    ∙ ap (with_bit b) (sym (map-append cleared (take i xs) (a ∷ []))
    ∙ ap (λ v. all_cleared (take i xs ++ v ∷ [])) (sym is)
    ∙ sym (ap all_cleared (take_more xs i a l))))
    (adds (with_bit b (all_cleared (take i xs))) so)

-- if the next ACE has the bit, its row is added to the rows of the ACEs before it
pub row_in_place : (b : ℕ) {xs : List Ace} {i : ℕ} {a : Ace} (old : List BorrowedRow) {new : List BorrowedRow}
    (r : BorrowedRow)
    → i < length xs → slice_index_or xs i a ≡ a → has_bit a.mask b ≡ true → IsTidy xs
    → r.kind ≡ a.kind → r.who.now ≡ a.who → r.group ≡ has_bit (flags_for (principal_of a)) identifier_group
    → r.source ≡ i → new ≡ old ++ r ∷ []
    → AreRows b xs (with_bit b (all_cleared (take i xs))) (map of_borrowed old)
    → AreRows b xs (with_bit b (all_cleared (take (i + 1) xs))) (map of_borrowed new)
row_in_place b {xs} {i} {a} old {new} r l is has tidy kind who group source more =
    next_place b xs i a old new l is (row_pushed b xs (cleared a) old new r has (record {
      kind = kind;
      who = who;
      group = group;
      place = ap (λ p. first_at b p xs) (named_again a) ∙ first_once b xs i a l is has (tidy.once b) tidy.quiet
          ∙ ap (λ k. Some (k, i)) (sym kind) ∙ ap (λ n. Some (r.kind, n)) (sym source);
    }) more)

-- a place without the bit adds none to the ACEs that have the bit
past_place : (b : ℕ) (xs : List Ace) (i : ℕ) → i < length xs → has_bit (mask_here xs i) b ≡ false
    → with_bit b (all_cleared (take i xs)) ≡ with_bit b (all_cleared (take (suc i) xs))
past_place b [] i l lacks = absurd (omega (arith, l))
past_place b (a ∷ xs) zero l lacks = rw lacks refl
past_place b (a ∷ xs) (suc i) l lacks = go (has_bit a.mask b) refl (past_place b xs i (omega (arith, l)) lacks)
  where
    go : (t : Bool) → has_bit a.mask b ≡ t
        → with_bit b (all_cleared (take i xs)) ≡ with_bit b (all_cleared (take (suc i) xs))
        → with_bit b (all_cleared (a ∷ take i xs)) ≡ with_bit b (all_cleared (a ∷ take (suc i) xs))
    go true e ih = rw e (ap (λ v. cleared a ∷ v) ih)
    go false e ih = rw e ih

-- the rows up to a place without the bit are those of the ACEs before it
pub no_row_in_place : (b : ℕ) (xs : List Ace) (i : ℕ) (rows : List TableRow) → i < length xs
    → has_bit (mask_here xs i) b ≡ false → AreRows b xs (with_bit b (all_cleared (take i xs))) rows
    → AreRows b xs (with_bit b (all_cleared (take (i + 1) xs))) rows
no_row_in_place b xs i rows l lacks so =
    let next : suc i ≡ i + 1 = omega arith in
    subst (λ n. AreRows b xs (with_bit b (all_cleared (take n xs))) rows) next
    (subst (λ v. AreRows b xs v rows) (past_place b xs i l lacks) so)

-- the ACEs that have the bit are the same without the empty ACEs
empty_apart : (b : ℕ) (xs : List Ace) → with_bit b (all_cleared xs) ≡ with_bit b (all_cleared (left xs))
empty_apart b [] = refl
empty_apart b (a ∷ xs) = go (a.mask == 0) refl (has_bit a.mask b) refl (empty_apart b xs)
  where
    go : (t : Bool) → (a.mask == 0) ≡ t → (s : Bool) → has_bit a.mask b ≡ s
        → with_bit b (all_cleared xs) ≡ with_bit b (all_cleared (left xs))
        → with_bit b (all_cleared (a ∷ xs)) ≡ with_bit b (all_cleared (left (a ∷ xs)))
    go true e true f ih = absurd (cc (sym f ∙ ap (λ m. has_bit m b) (eqb-true a.mask 0 e) ∙ no_bits_of_zero b))
    go true e false f ih = rw (e, f) ih
    go false e true f ih = rw (e, f) (ap (λ v. cleared a ∷ v) ih)
    go false e false f ih = rw (e, f) ih

-- after the last place the rows are those of the list without its empty ACEs
pub rows_in_place : (b : ℕ) (xs : List Ace) (i : ℕ) (rows : List TableRow) → length xs ≤ i
    → AreRows b xs (with_bit b (all_cleared (take i xs))) rows
    → AreRows b xs (with_bit b (all_cleared (left xs))) rows
rows_in_place b xs i rows end so =
    subst (λ v. AreRows b xs v rows) (ap (λ v. with_bit b (all_cleared v)) (take_all i xs end) ∙ empty_apart b xs) so
