-- Places that are sorted by heads and whos are in the order of the principals.
use Rattle.acl_normal.proofs.Common.{Ace, Equal, IsByPrincipal, Less, List, Ordering, Principal, [], ap, arith, cases_lt, false, get_or-map, get_or_default, inl, inr, is_le, is_lt, is_principal_of, key_here, length, length-map, map, nat_cmp, nat_cmp_is, ordering_reverse, principal_cmp, principal_here, principal_order, refl, row_of, slice_cmp, slice_index_or, subst, sym, true, ℕ, ◌+◌, ◌<◌, ◌∙◌, ◌∷◌, ◌≡◌, ◌≤◌, ◌⊎◌}
use Rattle.std.specs.List.{Contains}
use Rattle.std.specs.List.Sorted.{IsPermutation, IsSortedByKey}
use Rattle.std.specs.Cmp.{IsTotalOrder}
use Rattle.std.specs.Ordering.{on, ordering_then, then_cmp}
use Rattle.std.proofs.lemmas.Cmp.{nat_cmp_total, nat_list_cmp_total, on_total, then_total}
use Rattle.std.proofs.lemmas.List.Sorted.{Contains-permutation, IsPermutation-map, IsPermutation-sym}
use Rattle.acl_normal.specs.internal.rows.RowNumbers.{AreHeaded, AreSorted, AreSortedNames, DoHeadsTell, named_at, tail_here}
use Rattle.acl_normal.specs.declared.rows.numbers.HeadedPlace.{HeadedPlace}
use Rattle.acl_normal.proofs.rows.Rows.{place_of_named, not_below, row_below}
use Rattle.acl_normal.proofs.rows.SortedNames.{names_far, names_length, names_true, names_whole, neither_below, no_name, not_above, row_parts}

-- by the heads, and then by the whos
abbrev pub head_cmp : ℕ × List ℕ → ℕ × List ℕ → Ordering
head_cmp = then_cmp (on (λ n. n.0) nat_cmp) (on (λ n. n.1) (slice_cmp nat_cmp))

-- that is an order
pub head_total : IsTotalOrder head_cmp
head_total = then_total (on_total (λ n. n.0) nat_cmp_total) (on_total (λ n. n.1) nat_list_cmp_total)

-- there are as many names as ACEs
in_names : (xs : List Ace) (names : List (Principal × ℕ)) → AreSortedNames xs names → (k : ℕ) → k < length xs
    → k < length names
in_names xs names s k l = omega (arith, l, names_length xs names s)

-- the place at a number is that of the name there
place_named : (xs : List Ace) (names : List (Principal × ℕ)) → AreSortedNames xs names → (k : ℕ) → k < length xs
    → slice_index_or (map (λ n. n.1) names) k 0 ≡ (slice_index_or names k no_name).1
place_named xs names s k l = get_or-map (λ n. n.1) names k no_name 0 (in_names xs names s k l)

-- the ACE of the place at a number names the principal of the name there
principal_there : (xs : List Ace) (names : List (Principal × ℕ)) → AreSortedNames xs names → (k : ℕ) → k < length xs
    → (key_here xs (slice_index_or (map (λ n. n.1) names) k 0)).0 ≡ (slice_index_or names k no_name).0
principal_there xs names s k l =
    ap (λ v. (key_here xs v).0) (place_named xs names s k l)
    ∙ sym (names_true xs names s k (in_names xs names s k l)).1

-- the row of a principal is not after a number whose name is of the principal
row_before : (xs : List Ace) (names : List (Principal × ℕ)) → AreSortedNames xs names → (p : Principal) (k : ℕ)
    → k < length names → (slice_index_or names k no_name).0 ≡ p → (k < row_of p xs) ⊎ (row_of p xs ≤ k)
    → row_of p xs ≤ k
row_before xs names s p k l is (inr m) = m
row_before xs names s p k l is (inl m) =
    let at : Principal = (slice_index_or names k no_name).0 in
    let below : is_lt (principal_cmp at p) ≡ true = (row_parts xs names s p).0 k no_name (omega arith) m in
    let not : is_lt (principal_cmp at p) ≡ false = ap (λ v. is_lt (principal_cmp v p)) is ∙ not_below p in
    absurd (cc)

-- the row of a principal begins with a place that names it
first_of_row : (xs : List Ace) (names : List (Principal × ℕ)) → AreSortedNames xs names → (p : Principal)
    → is_principal_of p xs ≡ true
    → (key_here xs (slice_index_or (map (λ n. n.1) names) (row_of p xs) 0)).0 ≡ p
first_of_row xs names s p h =
    let n = place_of_named p xs h in
    let w = names_whole xs names s n.place n.within in
    let is : (slice_index_or names w.0 no_name).0 ≡ p = w.2 ∙ n.is in
    let row : row_of p xs < length xs = row_below p xs h in
    let le : row_of p xs ≤ w.0 = row_before xs names s p w.0 w.1 is (cases_lt w.0 (row_of p xs)) in
    let at : Principal = (slice_index_or names (row_of p xs) no_name).0 in
    principal_there xs names s (row_of p xs) row
    ∙ neither_below at p
    ((row_parts xs names s p).1 (row_of p xs) no_name (omega arith) (in_names xs names s (row_of p xs) row))
    (subst (λ v. is_lt (principal_cmp v at) ≡ false) is (names_far xs names s (row_of p xs) w.0 le w.1))

-- the places of the sorted names are in the order of the principals
pub places_by_principal : (xs : List Ace) (names : List (Principal × ℕ)) → AreSortedNames xs names
    → IsByPrincipal xs (map (λ n. n.1) names)
places_by_principal xs names s = record {
  count = length-map names (λ n. n.1) ∙ names_length xs names s;
  within = λ i l. subst (λ v. v < length xs) (sym (place_named xs names s i l))
      (names_true xs names s i (in_names xs names s i l)).0;
  rising = λ i j le l. rising i j le (omega (arith, le, l)) l;
  first = first_of_row xs names s;
  whole = λ i l.
      let w = names_whole xs names s i l in
      let inside : w.0 < length xs = omega (arith, w.1, names_length xs names s) in (
        w.0,
        row_before xs names s (key_here xs i).0 w.0 w.1 w.2 (cases_lt w.0 (row_of (key_here xs i).0 xs)),
        inside,
        place_named xs names s w.0 inside ∙ w.3,
      );
}
  where
    rising : (i j : ℕ) → i ≤ j → i < length xs → j < length xs
        → is_le (principal_cmp (key_here xs (slice_index_or (map (λ n. n.1) names) i 0)).0
        (key_here xs (slice_index_or (map (λ n. n.1) names) j 0)).0) ≡ true
    rising i j le li lj =
        rw (principal_there xs names s i li, principal_there xs names s j lj)
        (not_above (slice_index_or names i no_name).0 (slice_index_or names j no_name).0
        (names_far xs names s i j le (in_names xs names s j lj)))

-- the places that the code sorted are in the order of the principals
pub sorted_by_principal : (xs : List Ace) (places : List HeadedPlace) → AreSorted xs places
    → IsByPrincipal xs (map (λ n. n.place) places)
sorted_by_principal xs places s =
    subst (IsByPrincipal xs) (seconds places) (places_by_principal xs (map (named_at xs) places) s.names)
  where
    seconds : (ns : List HeadedPlace) → map (λ n. n.1) (map (named_at xs) ns) ≡ map (λ n. n.place) ns
    seconds [] = refl
    seconds (n ∷ ns) = ap (λ v. n.place ∷ v) (seconds ns)

-- where the heads and the whos do not fall, the principals do not
heads_in_order : (xs : List Ace) (places : List HeadedPlace) → DoHeadsTell xs places → (m n : HeadedPlace)
    → Contains places m → Contains places n
    → is_lt (head_cmp (m.head, tail_here xs m) (n.head, tail_here xs n)) ≡ false
    → is_lt (principal_cmp (principal_here xs m.place) (principal_here xs n.place)) ≡ false
heads_in_order xs places tell m n c d e = go (cases_lt m.head n.head) (cases_lt n.head m.head)
  where
    whos : Ordering
    whos = slice_cmp nat_cmp (tail_here xs m) (tail_here xs n)

    heads : (o : Ordering) → o ≡ nat_cmp m.head n.head → is_lt (ordering_then o whos) ≡ false
    heads o is = subst (λ o. is_lt (ordering_then o whos) ≡ false) (sym is) e

    go : (m.head < n.head) ⊎ (n.head ≤ m.head) → (n.head < m.head) ⊎ (m.head ≤ n.head)
        → is_lt (principal_cmp (principal_here xs m.place) (principal_here xs n.place)) ≡ false
    go (inl l) _ = let clash : true ≡ false = heads Less (nat_cmp_is m.head n.head Less l) in absurd (cc)
    go (inr _) (inl l) =
        ap is_lt (principal_order.reversed (principal_here xs n.place) (principal_here xs m.place)
        ∙ ap ordering_reverse (tell.lesser n m d c l))
    go (inr l) (inr u) =
        let same : m.head ≡ n.head = omega (arith, l, u) in
        ap is_lt (tell.same m n c d same) ∙ heads Equal (nat_cmp_is m.head n.head Equal same)

-- heads tell the order of the principals in whatever order the places are
heads_tell : (xs : List Ace) (places new : List HeadedPlace) → DoHeadsTell xs places → IsPermutation places new
    → DoHeadsTell xs new
heads_tell xs places new tell p = record {
  lesser = λ m n c d. tell.lesser m n (before m c) (before n d);
  same = λ m n c d. tell.same m n (before m c) (before n d);
}
  where
    before : (n : HeadedPlace) → Contains new n → Contains places n
    before n c = Contains-permutation new places n (IsPermutation-sym places new p) c

-- places that were sorted by their heads and whos are sorted by principals
pub sorted_names : (xs : List Ace) (places new : List HeadedPlace) → AreHeaded xs places → IsPermutation places new
    → IsSortedByKey (λ n. (n.head, tail_here xs n)) head_cmp new → AreSorted xs new
sorted_names xs places new h p s = record {
  names = record {
    permutation = subst (λ v. IsPermutation v (map (named_at xs) new)) h.names
        (IsPermutation-map (named_at xs) places new p);
    sorted = λ k d le l. let lower : k + 1 < length new = omega (arith, l, length-map new (named_at xs)) in
        rw (
          get_or-map (named_at xs) new (k + 1) none d lower,
          get_or-map (named_at xs) new k none d
              (omega (arith, lower)),
        )
        (heads_in_order xs new tell (slice_index_or new (k + 1) none) (slice_index_or new k none)
        (here (k + 1) lower) (here k (omega (arith, lower))) (s k none le lower));
  };
  heads = tell;
}
  where
    none : HeadedPlace
    none = record { head = 0; place = 0 }

    here : (k : ℕ) → k < length new → Contains new (slice_index_or new k none)
    here k l = (k, l, get_or_default new k (slice_index_or new k none) none l)

    tell : DoHeadsTell xs new
    tell = heads_tell xs places new h.heads p
