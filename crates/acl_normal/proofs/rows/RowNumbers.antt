-- Rows of principals by number: in the order of the names, each row begins at the first name of its principal.
use Rattle.acl_normal.proofs.Common.{Ace, ap, AreRowNumbers, arith, Bool, bytes_eq, cases_eq, cases_lt, false, get_or-map, get_or-set_other, get_or-set_same, inl, inr, is_eq, IsTrue, key_here, length, length-map, length-set, List, map, ordering_reverse, Principal, principal_cmp, principal_here, principal_order, refl, row_of, slice_index_or, slice_set, subst, suc, sym, true, ℕ, ⊎_elim, ◌&&◌, ◌+◌, ◌<◌, ◌==◌, ◌↔◌, ◌∙◌, ◌≡◌, ◌≢◌, ◌≤◌, ◌⊎◌}
use Rattle.std.specs.List.{Contains}
use Rattle.std.specs.Ordering.{eq_by_cmp}
use Rattle.std.proofs.lemmas.Bool.Decides.{eqb_tells}
use Rattle.std.proofs.lemmas.Map.Text.{is_eq-slice_cmp}
use Rattle.acl_perm.proofs.Orders.{principals_same}
use Rattle.acl_normal.specs.internal.rows.RowNumbers.{AreSorted, AreSortedNames, named_at, tail_here}
use Rattle.acl_normal.specs.declared.rows.numbers.HeadedPlace.{HeadedPlace}
use Rattle.acl_normal.proofs.rows.SortedNames.{names_true, names_whole, no_name, row_begins}

-- the names below `i` have their rows at their places, and the last of these rows begins at `start`
pub record AreNumberedTo (xs : List Ace) (names : List (Principal × ℕ)) (rows : List ℕ) (start i : ℕ) : Type 0 where
  pub count : length rows ≡ length xs
  pub before : start ≤ i
  pub begins : start < length names → row_of (slice_index_or names start no_name).0 xs ≡ start
  pub last : (k : ℕ) → suc k ≡ i → (slice_index_or names k no_name).0 ≡ (slice_index_or names start no_name).0
  pub numbered : (k : ℕ) → k < i → slice_index_or rows (slice_index_or names k no_name).1 0
      ≡ row_of (slice_index_or names k no_name).0 xs

-- for the names of a list in order
module _ (xs : List Ace) (names : List (Principal × ℕ)) (s : AreSortedNames xs names) where
  -- before the first name no row is set
  pub numbered_none : (rows : List ℕ) → length rows ≡ length xs → AreNumberedTo xs names rows 0 0
  numbered_none rows count = record {
    count = count;
    before = omega arith;
    begins = λ l. row_begins xs names s 0 l (λ k e. absurd (omega (arith, e)));
    last = λ k e. absurd (omega (arith, e));
    numbered = λ k l. absurd (omega (arith, l));
  }

  -- when the row of the next name is set to `now`, where its principal begins, one name more has its row
  numbered_with : (rows : List ℕ) (start i now : ℕ) → i < length names → now ≤ i
      → (slice_index_or names i no_name).0 ≡ (slice_index_or names now no_name).0
      → row_of (slice_index_or names now no_name).0 xs ≡ now → AreNumberedTo xs names rows start i
      → AreNumberedTo xs names (slice_set rows (slice_index_or names i no_name).1 now) now (i + 1)
  numbered_with rows start i now l le same row n = record {
    count = length-set rows place now ∙ n.count;
    before = omega (arith, le);
    begins = λ _. row;
    last = λ k e. let this : k ≡ i = omega (arith, e) in subst (λ v. (at v).0 ≡ (at now).0) (sym this) same;
    numbered = λ k lk. go k (cases_lt k i) (cases_eq (at k).1 place) lk;
  }
    where
      at : ℕ → Principal × ℕ
      at k = slice_index_or names k no_name

      place : ℕ
      place = (at i).1

      fit : place < length rows
      fit = omega (arith, (names_true xs names s i l).0, n.count)

      one : (k : ℕ) → k < length names → (at k).1 ≡ place → (at k).0 ≡ (at now).0
      one k lk e =
          (names_true xs names s k lk).1 ∙ ap (λ v. (key_here xs v).0) e ∙ sym (names_true xs names s i l).1 ∙ same

      go : (k : ℕ) → (k < i) ⊎ (i ≤ k) → ((at k).1 ≡ place) ⊎ ((at k).1 ≡ place → ⊥) → k < i + 1
          → slice_index_or (slice_set rows place now) (at k).1 0 ≡ row_of (at k).0 xs
      go k c (inl e) lk =
          ap (λ v. slice_index_or (slice_set rows place now) v 0) e ∙ get_or-set_same rows place now 0 fit ∙ sym row
          ∙ ap (λ v. row_of v xs) (sym (one k (omega (arith, lk, l)) e))
      go k (inl m) (inr d) lk = get_or-set_other rows place (at k).1 now 0 d ∙ n.numbered k m
      go k (inr m) (inr d) lk =
          let this : k ≡ i = omega (arith, m, lk) in absurd (d (ap (λ v. (at v).1) this))

  -- if the next name is of the same principal, its row is the one that the last name has
  pub numbered_same : (rows : List ℕ) (start i : ℕ) → i < length names
      → (slice_index_or names i no_name).0 ≡ (slice_index_or names start no_name).0
      → AreNumberedTo xs names rows start i
      → AreNumberedTo xs names (slice_set rows (slice_index_or names i no_name).1 start) start (i + 1)
  numbered_same rows start i l same n =
      numbered_with rows start i start l n.before same (n.begins (omega (arith, l, n.before))) n

  -- if the next name is of another principal, its row begins with it
  pub numbered_other : (rows : List ℕ) (start i : ℕ) → i < length names
      → ((slice_index_or names i no_name).0 ≡ (slice_index_or names start no_name).0 → ⊥)
      → AreNumberedTo xs names rows start i
      → AreNumberedTo xs names (slice_set rows (slice_index_or names i no_name).1 i) i (i + 1)
  numbered_other rows start i l other n =
      numbered_with rows start i i l (omega arith) refl
      (row_begins xs names s i l (λ k e same. other (sym same ∙ n.last k e))) n

  -- after the last name, the rows are those of all places
  pub numbered_all : (rows : List ℕ) (start i : ℕ) → length names ≤ i → AreNumberedTo xs names rows start i
      → AreRowNumbers xs rows
  numbered_all rows start i le n = record { count = n.count; at = each }
    where
      each : (j : ℕ) → j < length xs → slice_index_or rows j 0 ≡ row_of (key_here xs j).0 xs
      each j l =
          let w = names_whole xs names s j l in
          ap (λ v. slice_index_or rows v 0) (sym w.3) ∙ n.numbered w.0 (omega (arith, w.1, le))
          ∙ ap (λ v. row_of v xs) w.2

-- for the places of a list in the order of their principals
module _ (xs : List Ace) (places : List HeadedPlace) (s : AreSorted xs places) where
  -- the names of the places of the code
  abbrev names : List (Principal × ℕ)
  names = map (named_at xs) places

  -- the name at a place is that of the code's place there
  name_at : (k : ℕ) (d : HeadedPlace) → k < length places
      → slice_index_or names k no_name ≡ named_at xs (slice_index_or places k d)
  name_at k d l = get_or-map (named_at xs) places k d no_name l

  -- there is a name for each place of the code
  named_within : (k : ℕ) → k < length places → k < length names
  named_within k l = omega (arith, l, length-map places (named_at xs))

  -- the place of a name is one of those that have a row
  pub place_within : (rows : List ℕ) (start i k end : ℕ) (n : HeadedPlace) → k < length places
      → n ≡ slice_index_or places k n → end ≡ length rows → AreNumberedTo xs names rows start i → n.place < end
  place_within rows start i k end n l is e so_far =
      let place = ap (λ m. m.1) (name_at k n l) in
      omega (
        arith,
        place,
        e,
        ap (λ (m : HeadedPlace). m.place) is,
        (names_true xs names s.names k (named_within k l)).0,
        so_far.count,
      )

  -- two places have equal heads and whos if and only if they have equal principals
  same_by_principals : (m n : HeadedPlace) → Contains places m → Contains places n
      → ((m.head == n.head) && bytes_eq (tail_here xs m) (tail_here xs n))
      ≡ eq_by_cmp principal_cmp (principal_here xs m.place) (principal_here xs n.place)
  same_by_principals m n c d = go (eqb_tells m.head n.head) (cases_lt m.head n.head)
    where
      p : Principal
      p = principal_here xs m.place

      q : Principal
      q = principal_here xs n.place

      Same : Type 0
      Same =
          ((m.head == n.head) && bytes_eq (tail_here xs m) (tail_here xs n)) ≡ eq_by_cmp principal_cmp p q

      above : (m.head ≢ n.head) → n.head ≤ m.head → n.head < m.head
      above d l = ⊎_elim (λ u. u) (λ u. absurd (d (omega (arith, l, u)))) (cases_lt n.head m.head)

      go : ((m.head == n.head) ≡ true) × (m.head ≡ n.head) ⊎ ((m.head == n.head) ≡ false) × (m.head ≢ n.head)
          → (m.head < n.head) ⊎ (n.head ≤ m.head) → Same
      go (inl e) _ =
          rw e.0
          (sym (is_eq-slice_cmp (tail_here xs m) (tail_here xs n))
          ∙ ap is_eq (sym (s.heads.same m n c d e.1)))
      go (inr e) (inl l) = rw e.0 (sym (ap is_eq (s.heads.lesser m n c d l)))
      go (inr e) (inr l) =
          rw e.0
          (sym (ap is_eq (principal_order.reversed q p ∙ ap ordering_reverse (s.heads.lesser n m d c (above e.1 l)))))

  module _ (rows : List ℕ) (start i : ℕ) (n first : HeadedPlace) (l : i < length places)
      (here : n ≡ slice_index_or places i n) (there : first ≡ slice_index_or places start first) (alike : Bool)
      (passes : alike ≡ ((n.head == first.head) && bytes_eq (tail_here xs n) (tail_here xs first)))
      (so_far : AreNumberedTo xs names rows start i) where
    -- the name at a place
    abbrev name : ℕ → Principal × ℕ
    name k = slice_index_or names k no_name

    -- the next name is that of the code's next place
    this : name i ≡ named_at xs n
    this = name_at i n l ∙ ap (named_at xs) (sym here)

    -- the name at `start` is that of the code's place there
    that : name start ≡ named_at xs first
    that = name_at start first (omega (arith, l, so_far.before)) ∙ ap (named_at xs) (sym there)

    -- the test is passed if the next place and the one at `start` have one principal
    by_principals : alike ≡ eq_by_cmp principal_cmp (principal_here xs n.place) (principal_here xs first.place)
    by_principals =
        let low : start < length places = omega (arith, l, so_far.before) in
        passes ∙ same_by_principals n first (i, l, sym here) (start, low, sym there)

    -- two principals are equal in their order if and only if they are the same
    both : IsTrue (eq_by_cmp principal_cmp (principal_here xs n.place) (principal_here xs first.place))
        ↔ (principal_here xs n.place ≡ principal_here xs first.place)
    both = principals_same (principal_here xs n.place) (principal_here xs first.place)

    -- if the test fails, the row of the next place begins with it
    numbered_unlike : (now : ℕ) → alike ≡ false → now ≡ i
        → AreNumberedTo xs names (slice_set rows n.place now) now (i + 1)
    numbered_unlike now h e =
        rw e
        (subst (λ v. AreNumberedTo xs names (slice_set rows v i) i (i + 1)) (ap (λ m. m.1) this)
        (numbered_other xs names s.names rows start i (named_within i l) other so_far))
      where
        other : (name i).0 ≡ (name start).0 → ⊥
        other same =
            let alike_is : alike ≡ true =
            by_principals ∙ both.1 (ap (λ m. m.0) (sym this) ∙ same ∙ ap (λ m. m.0) that) in
            let clash : false ≡ true = sym h ∙ alike_is in
            cc

    -- if the test is passed, the row of the next place is the one that begins at `start`
    numbered_like : (now : ℕ) → alike ≡ true → now ≡ start
        → AreNumberedTo xs names (slice_set rows n.place now) now (i + 1)
    numbered_like now h e =
        rw e
        (subst (λ v. AreNumberedTo xs names (slice_set rows v start) start (i + 1))
        (ap (λ m. m.1) this) (numbered_same xs names s.names rows start i (named_within i l) same so_far))
      where
        same : (name i).0 ≡ (name start).0
        same = ap (λ m. m.0) this ∙ both.0 (sym by_principals ∙ h) ∙ ap (λ m. m.0) (sym that)

    -- the row of the next place is the one that begins at `start` if the test is passed, and else begins with the place
    pub numbered_next : (now : ℕ) → (alike ≡ true) × (now ≡ start) ⊎ (alike ≡ false) × (now ≡ i)
        → AreNumberedTo xs names (slice_set rows n.place now) now (i + 1)
    numbered_next now (inl h) = numbered_like now h.0 h.1
    numbered_next now (inr h) = numbered_unlike now h.0 h.1
