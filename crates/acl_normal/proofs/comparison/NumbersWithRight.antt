-- The numbers of the principals that have a right.
use Rattle.acl_normal.proofs.Common.{[], AllByRecursion, ap, arith, cases_eq, cases_lt, false, false≢true, get_or-append_seam, get_or-map, get_or-set_other, get_or-set_same, get_or_append_left, has_bit, inl, inr, length, length-append, length-set, List, Mask, slice_index_or, slice_set, subst, sym, true, ℕ, ◌++◌, ◌+◌, ◌<◌, ◌∙◌, ◌∷◌, ◌≡◌, ◌≤◌, ◌⊎◌}
use Rattle.acl_normal.proofs.Each.{all_from}
use Rattle.acl_normal.specs.internal.comparison.Columns.{AreNumbersOf, mask_at_number}

-- a number without the right changes nothing
pub numbers_skip : (rights : List Mask) {bit n : ℕ} {d : Mask} {numbers places : List ℕ}
    → n < length rights → d ≡ slice_index_or rights n d → has_bit d.bits bit ≡ false
    → AreNumbersOf rights bit n numbers places → AreNumbersOf rights bit (n + 1) numbers places
numbers_skip rights {bit} {n} {d} {numbers} {places} lt read absent h = record {
  count = h.count;
  below = λ j l. omega (arith, h.below j l);
  rising = h.rising;
  place = λ k l has. at k l has (cases_eq k n);
}
  where
    here : mask_at_number rights n ≡ d.bits
    here = get_or-map (λ (v : Mask). v.bits) rights n d 0 lt ∙ ap (λ (v : Mask). v.bits) (sym read)

    at : (k : ℕ) → k < n + 1 → has_bit (mask_at_number rights k) bit ≡ true → (k ≡ n) ⊎ (k ≡ n → ⊥)
        → (slice_index_or places k 0 < length numbers) × (slice_index_or numbers (slice_index_or places k 0) 0 ≡ k)
    at k l has (inl e) =
        absurd (false≢true (sym absent ∙ ap (λ v. has_bit v bit) (sym here)
        ∙ sym (ap (λ v. has_bit (mask_at_number rights v) bit) e) ∙ has))
    at k l has (inr o) = h.place k (omega (arith, l, o)) has

-- a number with the right comes after the others
pub numbers_more : {rights : List Mask} {bit n : ℕ} (m : ℕ) {numbers more places new : List ℕ} → n < length rights
    → m ≡ length numbers → more ≡ numbers ++ n ∷ [] → new ≡ slice_set places n m
    → AreNumbersOf rights bit n numbers places → AreNumbersOf rights bit (n + 1) more new
numbers_more {rights} {bit} {n} m {numbers} {more} {places} {new} lt last is put h = record {
  count = ap length put ∙ length-set places n m ∙ h.count;
  below = λ j l. at_below j l (cases_lt j (length numbers));
  rising = λ i j l lj. at_rising i j l lj (cases_lt j (length numbers));
  place = λ k l has. at_place k l has (cases_eq k n);
}
  where
    long : length more ≡ length numbers + 1
    long = ap length is ∙ length-append numbers (n ∷ [])

    old_at : (j : ℕ) → j < length numbers → slice_index_or more j 0 ≡ slice_index_or numbers j 0
    old_at j l = ap (λ v. slice_index_or v j 0) is ∙ get_or_append_left numbers (n ∷ []) 0 j l

    new_at : (j : ℕ) → j ≡ length numbers → slice_index_or more j 0 ≡ n
    new_at j e = ap (λ v. slice_index_or v j 0) is ∙ ap (λ v. slice_index_or (numbers ++ n ∷ []) v 0) e
        ∙ get_or-append_seam numbers n [] 0

    at_below : (j : ℕ) → j < length more → (j < length numbers) ⊎ (length numbers ≤ j)
        → slice_index_or more j 0 < n + 1
    at_below j l (inl b) = omega (arith, old_at j b, h.below j b)
    at_below j l (inr p) = omega (arith, new_at j (omega (arith, p, l, long)))

    at_rising : (i j : ℕ) → i < j → j < length more → (j < length numbers) ⊎ (length numbers ≤ j)
        → slice_index_or more i 0 < slice_index_or more j 0
    at_rising i j l lj (inl b) =
        omega (arith, old_at j b, old_at i (omega (arith, l, b)), h.rising i j l b)
    at_rising i j l lj (inr p) =
        let end : j ≡ length numbers = omega (arith, p, lj, long) in
        let inside : i < length numbers = omega (arith, l, end) in
        omega (arith, new_at j end, old_at i inside, h.below i inside)

    at_place : (k : ℕ) → k < n + 1 → has_bit (mask_at_number rights k) bit ≡ true → (k ≡ n) ⊎ (k ≡ n → ⊥)
        → (slice_index_or new k 0 < length more) × (slice_index_or more (slice_index_or new k 0) 0 ≡ k)
    at_place k l has (inl e) =
        let value : slice_index_or new k 0 ≡ length numbers =
        ap (λ v. slice_index_or v k 0) put ∙ ap (λ v. slice_index_or (slice_set places n m) v 0) e
        ∙ get_or-set_same places n m 0 (omega (arith, lt, h.count)) ∙ last in
        (omega (arith, value, long), new_at _ value ∙ sym e)
    at_place k l has (inr o) =
        let value : slice_index_or new k 0 ≡ slice_index_or places k 0 =
        ap (λ v. slice_index_or v k 0) put ∙ get_or-set_other places n k m 0 o in
        let old = h.place k (omega (arith, l, o)) has in
        let inside = old.0 in (
          omega (arith, value, inside, long),
          ap (λ v. slice_index_or more v 0) value ∙ old_at _ inside ∙ old.1,
        )

-- the numbers are those of principals
pub numbers_below : {rights : List Mask} {bit n m : ℕ} {numbers places shown : List ℕ} → shown ≡ numbers → n ≡ m
    → AreNumbersOf rights bit n numbers places → AllByRecursion (λ k. k < m) shown
numbers_below {rights} {bit} {n} {m} {numbers} {places} {shown} is e h =
    subst (AllByRecursion (λ k. k < m)) (sym is)
    (all_from (λ k. k < m) numbers 0 (λ j lj. omega (arith, e, h.below j lj)))
