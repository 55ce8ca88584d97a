-- Rows of ACEs whose principals do not fall, made ACE by ACE.
use Rattle.acl_normal.proofs.Common.{[], Ace, ace, AceRef, aces_in, ap, AreRowNumbers, arith, cases_lt, cond, Equal, false, false_from_ne_true, get_or-append_seam, get_or_append_left, Greater, inl, inr, is_lt, IsByPrincipal, length, length-append, length-map, length-take-le, List, map, map-append, named_from, ordering_reverse, Principal, principal_cmp, principal_exact, principal_here, principal_of, principal_order, refl, row_of, slice_index_or, subst, suc, sym, take, take_more, true, zero, ℕ, ◌++◌, ◌+◌, ◌<◌, ◌∙◌, ◌∷◌, ◌≡◌, ◌≤◌, ◌⊎◌}
use Rattle.std.specs.List.{range_with_len}
use Rattle.std.proofs.lemmas.List.Sorted.{IsPermutation-refl}
use Rattle.acl_normal.specs.internal.rows.RowNumbers.{DoNotFall}
use Rattle.acl_normal.proofs.rows.SortedNames.{le_then_less, named_length, named_place}
use Rattle.acl_normal.proofs.rows.SortedPlaces.{places_by_principal}
use Rattle.acl_normal.proofs.rows.Rows.{not_below}

-- the principals so far do not fall, these are their rows, and none is above the last, whose row this is
pub record AreRisingTo (xs : List Ace) (numbers : List ℕ) (now : ℕ) (last : Principal) : Type 0 where
  pub order : DoNotFall xs
  pub rows : AreRowNumbers xs numbers
  pub top : (k : ℕ) → k < length xs → is_lt (principal_cmp last (principal_here xs k)) ≡ false
  pub row : now ≡ row_of last xs

-- the ACEs of a list name the same principals with one ACE more after them
here_before : (xs : List Ace) (a : Ace) (k : ℕ) → k < length xs
    → principal_here (xs ++ a ∷ []) k ≡ principal_here xs k
here_before [] a k l = absurd (omega (arith, l))
here_before (b ∷ xs) a zero l = refl
here_before (b ∷ xs) a (suc k) l = here_before xs a k (omega (arith, l))

-- one ACE more after a list is at the place of its length
here_last : (xs : List Ace) (a : Ace) → principal_here (xs ++ a ∷ []) (length xs) ≡ principal_of a
here_last [] a = refl
here_last (b ∷ xs) a = here_last xs a

-- the row of a principal stays the same with one ACE more that names no lower one
row_kept : (q : Principal) (xs : List Ace) (a : Ace) → is_lt (principal_cmp (principal_of a) q) ≡ false
    → row_of q (xs ++ a ∷ []) ≡ row_of q xs
row_kept q [] a h = rw h refl
row_kept q (b ∷ xs) a h =
    ap (λ n. cond (is_lt (principal_cmp (principal_of b) q)) (suc n) n) (row_kept q xs a h)

-- the row of a principal above all of a list is the number of its ACEs
row_behind : (p : Principal) (xs : List Ace)
    → ((k : ℕ) → k < length xs → is_lt (principal_cmp (principal_here xs k) p) ≡ true) → row_of p xs ≡ length xs
row_behind p [] h = refl
row_behind p (b ∷ xs) h =
    rw (h 0 (omega arith)) (ap suc (row_behind p xs (λ k l. h (suc k) (omega (arith, l)))))

-- for rows that rise up to the row of the last principal
module _ (xs : List Ace) (rows : List ℕ) (row : ℕ) (last : Principal) (r : AreRisingTo xs rows row last) where
  -- a principal that is equal to the last one has its row
  pub row_again : (p : Principal) → principal_cmp p last ≡ Equal → row ≡ row_of p xs
  row_again p e = r.row ∙ ap (λ v. row_of v xs) (sym (principal_exact p last e))

  -- a principal above the last one has the number of ACEs as its row
  pub row_next : (p : Principal) → principal_cmp p last ≡ Greater → length xs ≡ row_of p xs
  row_next p e =
      sym (row_behind p xs (λ k l. le_then_less (principal_here xs k) last p (r.top k l)
      (ap is_lt (principal_order.reversed p last ∙ ap ordering_reverse e))))

  -- the rows with that of one ACE more, which names no lower principal, are those of the list with that ACE
  pub rising_more : (a : Ace) (now : ℕ) → is_lt (principal_cmp (principal_of a) last) ≡ false
      → now ≡ row_of (principal_of a) xs → AreRisingTo (xs ++ a ∷ []) (rows ++ now ∷ []) now (principal_of a)
  rising_more a now h is = record {
    order = λ k l. order k l (cases_lt (k + 1) (length xs));
    rows = record {
      count = length_more;
      at = λ k l. at k l (cases_lt k (length xs));
    };
    top = λ k l. top k l (cases_lt k (length xs));
    row = is ∙ sym (row_kept (principal_of a) xs a (not_below (principal_of a)));
  }
    where
      more : List Ace
      more = xs ++ a ∷ []

      length_more : length (rows ++ now ∷ []) ≡ length more
      length_more =
          omega (arith, length-append rows (now ∷ []), length-append xs (a ∷ []), r.rows.count)

      this : (k : ℕ) → k < length more → length xs ≤ k → k ≡ length xs
      this k l u = omega (arith, l, u, length-append xs (a ∷ []))

      above : (k : ℕ) → k < length xs → is_lt (principal_cmp (principal_of a) (principal_here xs k)) ≡ false
      above k l =
          false_from_ne_true (is_lt (principal_cmp (principal_of a) (principal_here xs k)))
          (λ u. let under = le_then_less last (principal_of a) (principal_here xs k) h u in
          let over = r.top k l in
          cc)

      top : (k : ℕ) → k < length more → (k < length xs) ⊎ (length xs ≤ k)
          → is_lt (principal_cmp (principal_of a) (principal_here more k)) ≡ false
      top k _ (inl l) = rw (here_before xs a k l) (above k l)
      top k l (inr u) = rw (this k l u, here_last xs a) (not_below (principal_of a))

      order : (k : ℕ) → k + 1 < length more → (k + 1 < length xs) ⊎ (length xs ≤ k + 1)
          → is_lt (principal_cmp (principal_here more (k + 1)) (principal_here more k)) ≡ false
      order k _ (inl l) =
          rw (here_before xs a (k + 1) l, here_before xs a k (omega (arith, l))) (r.order k l)
      order k l (inr u) =
          let same : k + 1 ≡ length xs = this (k + 1) l u in
          rw (same, here_last xs a, here_before xs a k (omega (arith, same))) (above k (omega (arith, same)))

      at : (k : ℕ) → k < length more → (k < length xs) ⊎ (length xs ≤ k)
          → slice_index_or (rows ++ now ∷ []) k 0 ≡ row_of (principal_here more k) more
      at k _ (inl l) =
          get_or_append_left rows (now ∷ []) 0 k (omega (arith, l, r.rows.count)) ∙ r.rows.at k l
          ∙ sym (row_kept (principal_here xs k) xs a (above k l)) ∙ ap (λ p. row_of p more) (sym (here_before xs a k l))
      at k l (inr u) =
          ap (λ v. slice_index_or (rows ++ now ∷ []) v 0) (this k l u ∙ sym r.rows.count)
          ∙ get_or-append_seam rows now [] 0 ∙ is
          ∙ sym (row_kept (principal_of a) xs a (not_below (principal_of a)))
          ∙ ap (λ p. row_of p more) (sym (ap (principal_here more) (this k l u) ∙ here_last xs a))

-- the rows with that of the next ACE, which names no lower principal, are those of one place more
pub rising_push : (aces : List AceRef) (rows new : List ℕ) (row now i : ℕ) (last next : Principal) (b : AceRef)
    → i < length aces → b ≡ slice_index_or aces i b → next ≡ principal_of (ace b) → new ≡ rows ++ now ∷ []
    → AreRisingTo (aces_in (take i aces)) rows row last → is_lt (principal_cmp next last) ≡ false
    → now ≡ row_of next (aces_in (take i aces))
    → AreRisingTo (aces_in (take (i + 1) aces)) new now next
rising_push aces rows new row now i last next b l here whom e r h is =
    subst (λ v. AreRisingTo v new now next) (sym grown)
    (subst (λ v. AreRisingTo more v now next) (sym e)
    (subst (AreRisingTo more (rows ++ now ∷ []) now) (sym whom)
    (rising_more before rows row last r (ace b) now
    (subst (λ v. is_lt (principal_cmp v last) ≡ false) whom h) (is ∙ ap (λ v. row_of v before) whom))))
  where
    before : List Ace
    before = aces_in (take i aces)

    more : List Ace
    more = before ++ ace b ∷ []

    grown : aces_in (take (i + 1) aces) ≡ more
    grown =
        ap aces_in (take_more aces i b l) ∙ map-append ace (take i aces) (slice_index_or aces i b ∷ [])
        ∙ ap (λ v. aces_in (take i aces) ++ ace v ∷ []) (sym here)

-- how many ACEs there are so far
pub length_so_far : (aces : List AceRef) (i : ℕ) → i ≤ length aces → length (aces_in (take i aces)) ≡ i
length_so_far aces i l = length-map (take i aces) ace ∙ length-take-le i aces l

-- the places of ACEs whose principals do not fall are in the order of the principals as they are
pub in_turn : (xs : List Ace) → DoNotFall xs → IsByPrincipal xs (range_with_len 0 (length xs))
in_turn xs h =
    subst (IsByPrincipal xs) (seconds 0 xs)
    (places_by_principal xs (named_from 0 xs)
    (record {
      permutation = IsPermutation-refl (named_from 0 xs);
      sorted = λ k d _ l. let lower : k + 1 < length xs = omega (arith, l, named_length 0 xs) in
          rw (named_place 0 (k + 1) xs d lower, named_place 0 k xs d (omega (arith, lower))) (h k lower);
    }))
  where
    seconds : (i : ℕ) (xs : List Ace) → map (λ n. n.1) (named_from i xs) ≡ range_with_len i (length xs)
    seconds i [] = refl
    seconds i (a ∷ xs) =
        let next : suc i ≡ i + 1 = omega arith in
        ap (λ v. i ∷ v) (seconds (suc i) xs ∙ ap (λ n. range_with_len n (length xs)) next)
