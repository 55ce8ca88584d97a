-- The names of the principals of a list, in order: where each principal begins, and which ACE each name comes from.
use Rattle.acl_normal.proofs.Common.{Ace, AceRef, Bool, Equal, Greater, Less, List, Ordering, Principal, [], ace, aces_in, ap, arith, cases_lt, cond, everyone, false, get_or_default, inl, inr, is_le, is_lt, key_here, length, length-map, length-take-le, map, map-append, named_from, ordering_reverse, principal_cmp, principal_exact, principal_here, principal_of, principal_order, principal_total, refl, row_of, slice_index_or, subst, suc, sym, take, take_more, true, zero, ℕ, ◌++◌, ◌+◌, ◌<◌, ◌∙◌, ◌∷◌, ◌≡◌, ◌≤◌, ◌⊎◌}
use Rattle.std.specs.List.{Contains}
use Rattle.std.specs.List.Sorted.{IsPartitionPoint, IsPartitionedBy}
use Rattle.std.proofs.lemmas.List.Sorted.{All-permutation, Contains-permutation, length_permutation, ranks_by, sorted_far}
use Rattle.acl_perm.proofs.Orders.{is_less}
use Rattle.acl_normal.specs.internal.rows.RowNumbers.{AreSortedNames, named_at}
use Rattle.acl_normal.specs.declared.rows.numbers.HeadedPlace.{HeadedPlace}
use Rattle.acl_normal.proofs.rows.Rows.{not_below}
use Rattle.acl_normal.proofs.rows.ByPlace.{named_in}
use Rattle.acl_normal.proofs.rows.PassCounts.{count, count_parts, count_permuted}

-- the name at a place where there is none: that of everyone
abbrev pub no_name : Principal × ℕ
no_name = (everyone, 0)

-- the principal of a name is below the given one
abbrev pub is_below : Principal → Principal × ℕ → Bool
is_below p n = is_lt (principal_cmp n.0 p)

-- there are as many names as ACEs
pub named_length : (i : ℕ) (xs : List Ace) → length (named_from i xs) ≡ length xs
named_length i [] = refl
named_length i (a ∷ xs) = ap suc (named_length (suc i) xs)

-- the name at a place is the principal there, with the place
pub named_place : (i k : ℕ) (xs : List Ace) (d : Principal × ℕ) → k < length xs
    → slice_index_or (named_from i xs) k d ≡ ((key_here xs k).0, i + k)
named_place i k [] d l = absurd (omega (arith, l))
named_place i zero (a ∷ xs) d l = ap (λ n. (principal_of a, n)) (omega arith)
named_place i (suc k) (a ∷ xs) d l =
    named_place (suc i) k xs d (omega (arith, l)) ∙ ap (λ n. ((key_here xs k).0, n)) (omega arith)

-- the row of a principal is the number of names below it
row_counted : (p : Principal) (i : ℕ) (xs : List Ace) → row_of p xs ≡ count (is_below p) (named_from i xs)
row_counted p i [] = refl
row_counted p i (a ∷ xs) =
    ap (λ n. cond (is_lt (principal_cmp (principal_of a) p)) (suc n) n) (row_counted p (suc i) xs)

-- a principal that is at most one below a third is below the third
pub le_then_less : (a b p : Principal) → is_lt (principal_cmp b a) ≡ false → is_lt (principal_cmp b p) ≡ true
    → is_lt (principal_cmp a p) ≡ true
le_then_less a b p h l = go (principal_cmp a b) refl
  where
    go : (o : Ordering) → principal_cmp a b ≡ o → is_lt (principal_cmp a p) ≡ true
    go Less e = ap is_lt (principal_order.transitive a b p e (is_less (principal_cmp b p) l))
    go Equal e = subst (λ v. is_lt (principal_cmp v p) ≡ true) (sym (principal_exact a b e)) l
    go Greater e =
        let turned : principal_cmp b a ≡ Less = principal_order.reversed a b ∙ ap ordering_reverse e in
        absurd (cc)

-- two principals are equal if neither is below the other
pub neither_below : (a b : Principal) → is_lt (principal_cmp a b) ≡ false → is_lt (principal_cmp b a) ≡ false → a ≡ b
neither_below a b h l = grind (arith, principal_order.reversed a b, principal_exact a b)

-- a principal that is not above another is at most that
pub not_above : (a b : Principal) → is_lt (principal_cmp b a) ≡ false → is_le (principal_cmp a b) ≡ true
not_above a b h = grind (arith, principal_order.reversed a b)

-- one ACE more after a list adds its principal, with its place, to the names
named_push : (i : ℕ) (xs : List Ace) (a : Ace)
    → named_from i (xs ++ a ∷ []) ≡ named_from i xs ++ (principal_of a, i + length xs) ∷ []
named_push i [] a = ap (λ n. (principal_of a, n) ∷ []) (omega arith)
named_push i (b ∷ xs) a =
    ap (λ v. (principal_of b, i) ∷ v)
    (named_push (suc i) xs a ∙ ap (λ n. named_from (suc i) xs ++ (principal_of a, n) ∷ []) (omega arith))

-- with the next place, the names are those of one place more
pub named_more : (aces : List AceRef) (places new : List HeadedPlace) (i : ℕ) (a : AceRef) (n : HeadedPlace)
    → i < length aces → a ≡ slice_index_or aces i a → n.place ≡ i → new ≡ places ++ n ∷ []
    → map (named_at (aces_in aces)) places ≡ named_from 0 (aces_in (take i aces))
    → map (named_at (aces_in aces)) new ≡ named_from 0 (aces_in (take (i + 1) aces))
named_more aces places new i a n l here at e before_it =
    ap (map (named_at (aces_in aces))) e ∙ map-append (named_at (aces_in aces)) places (n ∷ [])
    ∙ ap (λ v. v ++ made ∷ []) before_it ∙ ap (λ v. done ++ v ∷ []) last ∙ sym (named_push 0 before (ace b))
    ∙ ap (named_from 0) (sym (map-append ace (take i aces) (b ∷ [])))
    ∙ ap (λ v. named_from 0 (aces_in v)) (sym (take_more aces i a l))
  where
    b : AceRef
    b = slice_index_or aces i a

    before : List Ace
    before = aces_in (take i aces)

    done : List (Principal × ℕ)
    done = named_from 0 before

    long : 0 + length before ≡ i
    long = omega (arith, length-map (take i aces) ace, length-take-le i aces (omega (arith, l)))

    made : Principal × ℕ
    made = named_at (aces_in aces) n

    given : Principal × ℕ
    given = (principal_of (ace b), 0 + length before)

    last : made ≡ given
    last =
        ap (λ v. (v, n.place))
        (ap (principal_here (aces_in aces)) at ∙ sym (named_in aces i a l here) ∙ ap (λ v. principal_of (ace v)) here)
        ∙ ap (λ m. (principal_of (ace b), m)) (at ∙ sym long)

-- for the names of a list in order
module _ (xs : List Ace) (names : List (Principal × ℕ)) (s : AreSortedNames xs names) where
  -- the name at a place
  abbrev pub at : ℕ → Principal × ℕ
  at k = slice_index_or names k no_name

  -- there are as many names as ACEs
  pub names_length : length names ≡ length xs
  names_length = length_permutation (named_from 0 xs) names s.permutation ∙ named_length 0 xs

  -- no name is below an earlier one
  pub names_far : (i j : ℕ) → i ≤ j → j < length names → is_lt (principal_cmp (at j).0 (at i).0) ≡ false
  names_far i j le l =
      sorted_far (λ m n. is_lt (principal_cmp m.0 n.0)) (ranks_by principal_total (λ n. n.0)) names s.sorted i j
      no_name le l

  -- the names below a principal come first, and the row of the principal is where the others begin
  pub row_parts : (p : Principal)
      → IsPartitionPoint (λ n. is_below p n ≡ true) (λ n. is_below p n ≡ false) names (row_of p xs)
  row_parts p =
      subst (IsPartitionPoint (λ n. is_below p n ≡ true) (λ n. is_below p n ≡ false) names)
      (count_permuted (is_below p) (named_from 0 xs) names s.permutation ∙ sym (row_counted p 0 xs))
      (count_parts (is_below p) names parted)
    where
      parted : IsPartitionedBy (is_below p) names
      parted i j d le l e =
          let far =
          sorted_far (λ m n. is_lt (principal_cmp m.0 n.0)) (ranks_by principal_total (λ n. n.0)) names s.sorted i j
          d le l in
          le_then_less (slice_index_or names i d).0 (slice_index_or names j d).0 p far e

  -- the row of a name begins where no name before it is of its principal
  pub row_begins : (i : ℕ) → i < length names → ((k : ℕ) → suc k ≡ i → (at k).0 ≡ (at i).0 → ⊥) → row_of (at i).0 xs ≡ i
  row_begins i l first = go (cases_lt i row) (cases_lt row i)
    where
      p : Principal
      p = (at i).0

      row : ℕ
      row = row_of p xs

      before : (k : ℕ) → suc k ≡ i → row ≤ k → ⊥
      before k e le =
          first k e
          (neither_below (at k).0 p ((row_parts p).1 k no_name le (omega (arith, l, e)))
          (names_far k i (omega (arith, e)) l))

      last : (i : ℕ) → row < i → (k : ℕ) × (suc k ≡ i)
      last zero h = absurd (omega (arith, h))
      last (suc k) h = (k, refl)

      go : (i < row) ⊎ (row ≤ i) → (row < i) ⊎ (i ≤ row) → row ≡ i
      go (inl h) c =
          let below : is_below p (at i) ≡ true = (row_parts p).0 i no_name (omega arith) h in
          let itself = not_below p in
          absurd (cc)
      go (inr h) (inl m) = let k = last i m in absurd (before k.0 k.1 (omega (arith, m, k.1)))
      go (inr h) (inr m) = omega (arith, h, m)

  -- each name is of the ACE at its place
  pub names_true : (k : ℕ) → k < length names → ((at k).1 < length xs) × ((at k).0 ≡ (key_here xs (at k).1).0)
  names_true k l =
      All-permutation True (named_from 0 xs) names s.permutation
      (λ j d lj. let lx : j < length xs = omega (arith, lj, named_length 0 xs) in
      subst True (sym (named_place 0 j xs d lx)) (place j lx)) k no_name l
    where
      True : Principal × ℕ → Type 0
      True n = (n.1 < length xs) × (n.0 ≡ (key_here xs n.1).0)

      place : (j : ℕ) → j < length xs → True ((key_here xs j).0, 0 + j)
      place j l =
          let same : 0 + j ≡ j = omega arith in
          subst (λ n. True ((key_here xs j).0, n)) (sym same) (l, refl)

  -- each place has a name
  pub names_whole : (i : ℕ) → i < length xs
      → (k : ℕ) × (k < length names) × ((at k).0 ≡ (key_here xs i).0) × ((at k).1 ≡ i)
  names_whole i l = (c.0, c.1, ap (λ m. m.0) here, ap (λ m. m.1) here ∙ omega arith)
    where
      n : Principal × ℕ
      n = ((key_here xs i).0, 0 + i)

      c : Contains names n
      c = Contains-permutation (named_from 0 xs) names n s.permutation
          (i, omega (arith, l, named_length 0 xs), named_place 0 i xs n l)

      here : at c.0 ≡ n
      here = get_or_default names c.0 no_name n c.1 ∙ c.2
