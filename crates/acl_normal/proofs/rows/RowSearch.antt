-- The search for the row of a principal, along the places in their order.
use Rattle.acl_normal.proofs.Common.{Ace, AreRowNumbers, Equal, Greater, IsByPrincipal, IsRowOf, Less, List, Ordering, Principal, ap, arith, cases_lt, false, false_from_ne_true, get_or_default, inl, inr, is_le, is_lt, is_principal_of, key_here, length, ordering_reverse, principal_cmp, principal_exact, principal_order, principal_total, refl, row_of, slice_index_or, subst, sym, true, ℕ, ◌+◌, ◌<◌, ◌∙◌, ◌≡◌, ◌≤◌, ◌⊎◌}
use Rattle.std.specs.List.{HoldsAt}
use Rattle.std.specs.List.Sorted.{IsNonDecreasingBy, IsPartitionPoint}
use Rattle.std.specs.Ordering.{ordering_index}
use Rattle.std.proofs.lemmas.List.Sorted.{searchable_from_sorted}
use Rattle.acl_normal.proofs.rows.Rows.{named_here, row_below}

-- in the order of the places, each principal is below, equal to or above a given one, in this order
search_rises : (xs : List Ace) (order : List ℕ) (p : Principal) → IsByPrincipal xs order
    → IsNonDecreasingBy (λ y. ordering_index (principal_cmp (key_here xs y).0 p)) order
search_rises xs order p o =
    searchable_from_sorted principal_total (λ y. (key_here xs y).0) order p
    (λ k d z l. let lx : k + 1 < length xs = omega (arith, l, o.count) in
    let here : slice_index_or order k d ≡ slice_index_or order k 0 = get_or_default order k d 0 (omega (arith, l)) in
    let next : slice_index_or order (k + 1) d ≡ slice_index_or order (k + 1) 0 = get_or_default order (k + 1) d 0 l in
    rw (here, next)
    (not_back (key_here xs (slice_index_or order k 0)).0 (key_here xs (slice_index_or order (k + 1) 0)).0
    (o.rising k (k + 1) (omega arith) lx)))
  where
    not_back : (a b : Principal) → is_le (principal_cmp a b) ≡ true → is_lt (principal_cmp b a) ≡ false
    not_back a b h = go (principal_cmp b a) refl
      where
        go : (w : Ordering) → principal_cmp b a ≡ w → is_lt w ≡ false
        go Less e =
            let turned : principal_cmp a b ≡ Greater = principal_order.reversed b a ∙ ap ordering_reverse e in
            absurd (cc)
        go Equal e = refl
        go Greater e = refl

-- what is found is the principal's row
pub found_row : (xs : List Ace) (rows order : List ℕ) (p : Principal) (i : ℕ) → AreRowNumbers xs rows
    → IsByPrincipal xs order → i < length order
    → HoldsAt (λ y. principal_cmp (key_here xs y).0 p ≡ Equal) order i
    → IsRowOf (slice_index_or rows (slice_index_or order i 0) 0) p xs
found_row xs rows order p i r o l h =
    let place : slice_index_or order i 0 < length xs = o.within i (omega (arith, l, o.count)) in
    let is : (key_here xs (slice_index_or order i 0)).0 ≡ p =
    principal_exact (key_here xs (slice_index_or order i 0)).0 p (h 0) in
    record {
      named = subst (λ v. is_principal_of v xs ≡ true) is (named_here xs (slice_index_or order i 0) place);
      is = r.at (slice_index_or order i 0) place ∙ ap (λ v. row_of v xs) is;
    }

-- a principal that a search in the order does not find is not named
pub missing_row : (xs : List Ace) (order : List ℕ) (p : Principal) (i : ℕ) → IsByPrincipal xs order
    → (IsNonDecreasingBy (λ y. ordering_index (principal_cmp (key_here xs y).0 p)) order
    → IsPartitionPoint (λ y. principal_cmp (key_here xs y).0 p ≡ Less)
    (λ y. principal_cmp (key_here xs y).0 p ≡ Greater) order i)
    → is_principal_of p xs ≡ false
missing_row xs order p i o h = false_from_ne_true (is_principal_of p xs) named
  where
    point : IsPartitionPoint (λ y. principal_cmp (key_here xs y).0 p ≡ Less)
        (λ y. principal_cmp (key_here xs y).0 p ≡ Greater) order i
    point = h (search_rises xs order p o)

    named : is_principal_of p xs ≡ true → ⊥
    named n = go (cases_lt begin i)
      where
        begin : ℕ
        begin = row_of p xs

        inside : begin < length order
        inside = omega (arith, row_below p xs n, o.count)

        equal : principal_cmp (key_here xs (slice_index_or order begin 0)).0 p ≡ Equal
        equal = ap (λ v. principal_cmp v p) (o.first p n) ∙ (principal_order.equal p p).1 refl

        go : (begin < i) ⊎ (i ≤ begin) → ⊥
        go (inl l) = let both : Equal ≡ Less = sym equal ∙ point.0 begin 0 (omega arith) l in cc
        go (inr l) = let both : Equal ≡ Greater = sym equal ∙ point.1 begin 0 l inside in cc
