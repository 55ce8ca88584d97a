-- What comes first in a list, found ACE by ACE from the front.
use Rattle.acl_normal.proofs.Common.{Ace, Bool, Column, ColumnKey, Equal, Greater, HasEmptyColumns, HasOnceColumns, IsOnce, Kind, Less, List, None, Option, Ordering, Principal, Some, [], ace_key, and_false_right, and_parts, ap, append-nil, arith, bit_or, column, compare_keys, cond, conflicts, conflicts_before, false, false_from_ne_true, false≢true, first_kind, flags_for, has_bit, has_bit-or, has_opposite, is_either, is_free, is_le, key_eq, key_order, key_record, may_overlap, not, or_cases, ordering_reverse, other_kind, principal_of, refl, same_answers, subst, sym, true, ℕ, ⊎_elim, ◌&&◌, ◌++◌, ◌||◌, ◌∙◌, ◌∷◌, ◌≡◌, ◌≢◌}
use Rattle.std.proofs.Math.Bool.{or_assoc, or-false}
use Rattle.acl_normal.specs.declared.reduce.needless.Later.{Later}
use Rattle.acl_normal.specs.internal.Needed.{HasNoLater, NotesLater, is_of_kind_and_class, later_mask, opposes, some_of}
use Rattle.acl_normal.specs.internal.emit.Short.{AreFreeAfter, ComesFirst, IsFirstLeft, lesser_by, lesser_of}
use Rattle.acl_normal.proofs.reduce.Passes.{free-append}
use Rattle.acl_normal.proofs.reduce.Unneeded.{AreLater, opposite_is}
use Rattle.acl_normal.proofs.unique.Bits.{no_bits, no_bits_of_zero}
use Rattle.acl_normal.proofs.unique.Candidates.{lt_le}
use Rattle.acl_normal.proofs.unique.Columns.{column-append, column-cons, column_with}
use Rattle.acl_normal.proofs.unique.Free.{head_is_free}
use Rattle.acl_normal.proofs.unique.Keys.{key_equal, key_itself}
use Rattle.acl_normal.proofs.unique.Names.{key_eq_itself, key_eq_same, overlaps_back}
use Rattle.acl_normal.proofs.unique.Shorter.{once_before}

-- of two keys, not each is above the other
greater_once : (k l : ColumnKey) → compare_keys k l ≡ Greater → compare_keys l k ≡ Greater → ⊥
greater_once k l h i = clash (sym i ∙ key_order.reversed (key_record k) (key_record l) ∙ ap ordering_reverse h)
  where
    clash : Greater ≡ Less → ⊥
    clash e = cc

-- ---- where the next ACE is free

-- one key after a column is free if it is the key, and no key of the column conflicts with it
free_last : (c : Column) (k e : ColumnKey)
    → is_free (c ++ k ∷ []) e ≡ (is_free c e || (key_eq k e && not (conflicts_before c k)))
free_last c k e = free-append e c (k ∷ []) ∙ go (key_eq k e) refl
  where
    go : (t : Bool) → key_eq k e ≡ t
        → (is_free c e || (is_free (k ∷ []) e && not (conflicts_before c e)))
        ≡ (is_free c e || (t && not (conflicts_before c k)))
    go true h =
        rw (h, key_eq_same k e h) refl
    go false h = rw (h, and_false_right (not (conflicts k e))) refl

-- the column of a list with one ACE more has its key at the end if the ACE has the right
column_last : (seen : List Ace) (y : Ace) (b : ℕ) → y.flags ≡ flags_for (principal_of y)
    → column (seen ++ y ∷ []) b ≡ column seen b ++ cond (has_bit y.mask b) (ace_key y ∷ []) []
column_last seen y b flags =
    column-append b seen (y ∷ []) ∙ ap (λ c. column seen b ++ c) (column-cons b y [] flags)

-- for an ACE behind those that were seen, with the same key as the first
module _ (seen : List Ace) (y z : Ace) (flags : y.flags ≡ flags_for (principal_of y)) (key : ace_key z ≡ ace_key y)
    (free : AreFreeAfter seen y z.mask) where
  -- with one ACE more, its own key is also free on the rights on which nothing before it conflicts
  free_next : (e : ColumnKey) (b : ℕ)
      → is_free (column (seen ++ y ∷ []) b) e
      ≡ (is_free (column seen b) e || (key_eq (ace_key z) e && has_bit z.mask b))
  free_next e b = ap (λ c. is_free c e) (column_last seen y b flags) ∙ go (has_bit y.mask b) refl
    where
      marked : (t : Bool) → has_bit y.mask b ≡ t
          → has_bit z.mask b ≡ (t && not (conflicts_before (column seen b) (ace_key y)))
      marked t h = free b ∙ ap (λ s. s && not (conflicts_before (column seen b) (ace_key y))) h

      go : (t : Bool) → has_bit y.mask b ≡ t
          → is_free (column seen b ++ cond t (ace_key y ∷ []) []) e
          ≡ (is_free (column seen b) e || (key_eq (ace_key z) e && has_bit z.mask b))
      go true h =
          free_last (column seen b) (ace_key y) e
          ∙ ap (λ k. is_free (column seen b) e || (key_eq k e && not (conflicts_before (column seen b) (ace_key y))))
          (sym key)
          ∙ ap (λ s. is_free (column seen b) e || (key_eq (ace_key z) e && s)) (sym (marked true h))
      go false h =
          ap (λ c. is_free c e) (append-nil (column seen b))
          ∙ sym (ap (λ s. is_free (column seen b) e || (key_eq (ace_key z) e && s)) (marked false h)
          ∙ ap (λ s. is_free (column seen b) e || s) (and_false_right (key_eq (ace_key z) e))
          ∙ or-false (is_free (column seen b) e))

  -- a key that is free with the ACE was free before, or is its own on one of these rights
  free_cases : (P : ColumnKey → Type 0) (e : ColumnKey) (b : ℕ) → (is_free (column seen b) e ≡ true → P e)
      → (has_bit z.mask b ≡ true → P (ace_key z)) → is_free (column (seen ++ y ∷ []) b) e ≡ true → P e
  free_cases P e b before own h =
      ⊎_elim before
      (λ (i : (key_eq (ace_key z) e && has_bit z.mask b) ≡ true).
      let both = and_parts (key_eq (ace_key z) e) (has_bit z.mask b) i in
      subst P (key_eq_same (ace_key z) e both.0) (own both.1))
      (or_cases (is_free (column seen b) e) (key_eq (ace_key z) e && has_bit z.mask b) (sym (free_next e b) ∙ h))

  -- a key other than that of the ACE is free where it was
  free_other : (e : ColumnKey) (b : ℕ) → key_eq (ace_key z) e ≡ false
      → is_free (column (seen ++ y ∷ []) b) e ≡ is_free (column seen b) e
  free_other e b h = free_next e b ∙ rw h (or-false (is_free (column seen b) e))

  -- the key of the ACE is free where it was, and on these rights
  free_own : (e : ColumnKey) (b : ℕ) → ace_key z ≡ e
      → is_free (column (seen ++ y ∷ []) b) e ≡ (is_free (column seen b) e || has_bit z.mask b)
  free_own e b h =
      free_next e b
      ∙ ap (λ t. is_free (column seen b) e || (t && has_bit z.mask b))
      (ap (λ k. key_eq k e) h ∙ key_eq_itself e)

  -- ---- an ACE that is free nowhere

  module _ (none : z.mask ≡ 0) where
    -- every key is free where it was
    free_same : (e : ColumnKey) (b : ℕ) → is_free (column (seen ++ y ∷ []) b) e ≡ is_free (column seen b) e
    free_same e b =
        free_next e b
        ∙ ap (λ v. is_free (column seen b) e || (key_eq (ace_key z) e && v))
        (ap (λ m. has_bit m b) none ∙ no_bits_of_zero b)
        ∙ ap (λ v. is_free (column seen b) e || v) (and_false_right (key_eq (ace_key z) e))
        ∙ or-false (is_free (column seen b) e)

    -- what came first still comes first
    pub first_kept : (o : Option Ace) → IsFirstLeft seen o → IsFirstLeft (seen ++ y ∷ []) o
    first_kept None empty = λ b. go b (column (seen ++ y ∷ []) b) refl
      where
        go : (b : ℕ) (c : Column) → column (seen ++ y ∷ []) b ≡ c → column (seen ++ y ∷ []) b ≡ []
        go b [] e = e
        go b (k ∷ c) e =
            let free : is_free (column (seen ++ y ∷ []) b) k ≡ true = ap (λ v. is_free v k) e ∙ head_is_free k c in
            absurd (false≢true (ap (λ v. is_free v k) (sym (empty b)) ∙ sym (free_same k b) ∙ free))
    first_kept (Some a) h = record {
      flags = h.flags;
      mask = h.mask;
      least = λ e b i. h.least e b (sym (free_same e b) ∙ i);
      all = λ b. h.all b ∙ sym (free_same (ace_key a) b);
    }

  -- ---- an ACE that is free somewhere

  module _ (own : z.flags ≡ flags_for (principal_of z)) (some : z.mask ≢ 0) where
    itself : is_le (compare_keys (ace_key z) (ace_key z)) ≡ true
    itself = ap is_le (key_itself (ace_key z))

    -- the first of all comes first
    only_first : HasEmptyColumns seen → ComesFirst (seen ++ y ∷ []) z
    only_first empty = record {
      flags = own;
      mask = some;
      least = λ e b. free_cases (λ e. is_le (compare_keys (ace_key z) e) ≡ true) e b
          (λ i. absurd (false≢true (sym (ap (λ c. is_free c e) (empty b)) ∙ i))) (λ i. itself);
      all = λ b. sym (free_own (ace_key z) b refl
          ∙ ap (λ c. is_free c (ace_key z) || has_bit z.mask b) (empty b));
    }

    -- an ACE that came first, with a lesser key, still comes first
    first_less : (a : Ace) → ComesFirst seen a → compare_keys (ace_key a) (ace_key z) ≡ Less
        → ComesFirst (seen ++ y ∷ []) a
    first_less a h less = record {
      flags = h.flags;
      mask = h.mask;
      least = λ e b. free_cases (λ e. is_le (compare_keys (ace_key a) e) ≡ true) e b (h.least e b)
          (λ i. ap is_le less);
      all = λ b. h.all b ∙ sym (free_other (ace_key a) b (false_from_ne_true _ (λ same. apart same)));
    }
      where
        clash : Equal ≡ Less → ⊥
        clash e = cc

        apart : key_eq (ace_key z) (ace_key a) ≡ true → ⊥
        apart same =
            clash (sym (key_itself (ace_key a))
            ∙ ap (compare_keys (ace_key a)) (sym (key_eq_same (ace_key z) (ace_key a) same)) ∙ less)

    -- an ACE that came first, with the same key, comes first with the rights of both
    first_equal : (a : Ace) → ComesFirst seen a → compare_keys (ace_key a) (ace_key z) ≡ Equal
        → ComesFirst (seen ++ y ∷ []) (record a { mask = bit_or a.mask z.mask })
    first_equal a h equal = record {
      flags = h.flags;
      mask = λ none. h.mask (no_bits a.mask (λ b. either_none (has_bit a.mask b) (has_bit z.mask b)
          (sym (has_bit-or a.mask z.mask b) ∙ ap (λ m. has_bit m b) none ∙ no_bits_of_zero b)));
      least = λ e b. free_cases (λ e. is_le (compare_keys (ace_key a) e) ≡ true) e b (h.least e b)
          (λ i. ap is_le equal);
      all = λ b. has_bit-or a.mask z.mask b ∙ ap (λ t. t || has_bit z.mask b) (h.all b)
          ∙ sym (free_own (ace_key a) b (sym (key_equal (ace_key a) (ace_key z) equal)));
    }
      where
        either_none : (s t : Bool) → (s || t) ≡ false → s ≡ false
        either_none s t e = grind arith

    -- an ACE with a lesser key than the one that came first comes first
    first_greater : (a : Ace) → ComesFirst seen a → compare_keys (ace_key a) (ace_key z) ≡ Greater
        → compare_keys (ace_key z) (ace_key a) ≡ Less → ComesFirst (seen ++ y ∷ []) z
    first_greater a h greater less = record {
      flags = own;
      mask = some;
      least = λ e b. free_cases (λ e. is_le (compare_keys (ace_key z) e) ≡ true) e b
          (λ i. lt_le (ace_key z) (ace_key a) e less (h.least e b i)) (λ i. itself);
      all = λ b. sym (free_own (ace_key z) b refl
          ∙ ap (λ t. t || has_bit z.mask b) (false_from_ne_true _ (λ i. clash
          (sym (ap is_le greater) ∙ h.least (ace_key z) b i))));
    }
      where
        clash : false ≡ true → ⊥
        clash = false≢true

    -- of what came first and the ACE, the lesser comes first
    pub first_joined : (o : Option Ace) → IsFirstLeft seen o → ComesFirst (seen ++ y ∷ []) (lesser_of o z)
    first_joined None empty = only_first empty
    first_joined (Some a) h = go (compare_keys (ace_key a) (ace_key z)) (compare_keys (ace_key z) (ace_key a)) refl refl
      where
        go : (o w : Ordering) → compare_keys (ace_key a) (ace_key z) ≡ o → compare_keys (ace_key z) (ace_key a) ≡ w
            → ComesFirst (seen ++ y ∷ []) (lesser_by o a z)
        go Less w e f = first_less a h e
        go Equal w e f = first_equal a h e
        go Greater Less e f = first_greater a h e f
        go Greater Equal e f = absurd (turned e (key_equal (ace_key z) (ace_key a) f))
          where
            clash : Equal ≡ Greater → ⊥
            clash i = cc

            turned : compare_keys (ace_key a) (ace_key z) ≡ Greater → ace_key z ≡ ace_key a → ⊥
            turned i same =
                clash (sym (key_itself (ace_key a)) ∙ ap (compare_keys (ace_key a)) (sym same) ∙ i)
        go Greater Greater e f = absurd (both e f)
          where
            both : compare_keys (ace_key a) (ace_key z) ≡ Greater → compare_keys (ace_key z) (ace_key a) ≡ Greater → ⊥
            both i j = greater_once (ace_key a) (ace_key z) i j

-- ---- which rights are free, by the masks of the ACEs before

-- principals overlap either way round
overlap_turned : (p q : Principal) → may_overlap p q ≡ may_overlap q p
overlap_turned p q = same_answers (may_overlap p q) (may_overlap q p) (overlaps_back p q) (overlaps_back q p)

-- a key of a column conflicts with a key if and only if it is an opposite key
conflict_is : (c : Column) (e : ColumnKey) → conflicts_before c e ≡ has_opposite e.1 e.0 c
conflict_is [] e = refl
conflict_is (f ∷ c) e =
    rw (overlap_turned f.0 e.0, conflict_is c e) refl

-- two columns together have a key of a kind and a class if one of them has
some_append : (k : Kind) (users : Bool) (c d : Column)
    → some_of k users (c ++ d) ≡ (some_of k users c || some_of k users d)
some_append k users [] d = refl
some_append k users (f ∷ c) d =
    ap (λ t. is_of_kind_and_class k users f || t) (some_append k users c d)
    ∙ sym (or_assoc (is_of_kind_and_class k users f) (some_of k users c) (some_of k users d))

-- before the first ACE no mask has a right
pub noted_none : (l : Later) → HasNoLater l → AreLater l []
noted_none l none k users b = none k users b

-- with one ACE more, the masks have its rights too
pub noted_more : (l new : Later) (seen : List Ace) (y : Ace) → y.flags ≡ flags_for (principal_of y) → AreLater l seen
    → NotesLater (ace_key y) y.mask l new → AreLater new (seen ++ y ∷ [])
noted_more l new seen y flags so more k users b =
    more k users b
    ∙ ap (λ t. t || (is_of_kind_and_class k users (ace_key y) && has_bit y.mask b)) (so k users b)
    ∙ go (has_bit y.mask b)
    ∙ sym (some_append k users (column seen b) (cond (has_bit y.mask b) (ace_key y ∷ []) []))
    ∙ sym (ap (some_of k users) (column_last seen y b flags))
  where
    go : (t : Bool) → (some_of k users (column seen b) || (is_of_kind_and_class k users (ace_key y) && t))
        ≡ (some_of k users (column seen b) || some_of k users (cond t (ace_key y ∷ []) []))
    go true = ap (λ t. some_of k users (column seen b) || t) (last (is_of_kind_and_class k users (ace_key y)))
      where
        last : (t : Bool) → (t && true) ≡ (t || false)
        last true = refl
        last false = refl
    go false =
        ap (λ t. some_of k users (column seen b) || t) (and_false_right (is_of_kind_and_class k users (ace_key y)))

-- an ACE without rights has no right
no_rights : (y : Ace) (b : ℕ) → y.mask ≡ 0 → has_bit y.mask b ≡ false
no_rights y b none = ap (λ m. has_bit m b) none ∙ no_bits_of_zero b

-- with an ACE without rights, what came first still comes first
pub first_past : (seen : List Ace) (y : Ace) → y.flags ≡ flags_for (principal_of y) → y.mask ≡ 0 → (o : Option Ace)
    → IsFirstLeft seen o → IsFirstLeft (seen ++ y ∷ []) o
first_past seen y flags none = first_kept seen y y flags refl (λ b. free b (has_bit y.mask b) (no_rights y b none)) none
  where
    free : (b : ℕ) (t : Bool) → t ≡ false → t ≡ (t && not (conflicts_before (column seen b) (ace_key y)))
    free b false e = refl
    free b true e = cc

-- with an ACE without rights, the masks have the rights that they had
pub noted_past : (l : Later) (seen : List Ace) (y : Ace) → y.flags ≡ flags_for (principal_of y) → y.mask ≡ 0
    → AreLater l seen → AreLater l (seen ++ y ∷ [])
noted_past l seen y flags none so =
    noted_more l l seen y flags so (λ k users b.
    sym (ap (λ t. has_bit (later_mask l k users) b || (is_of_kind_and_class k users (ace_key y) && t))
    (no_rights y b none)
    ∙ ap (λ t. has_bit (later_mask l k users) b || t) (and_false_right (is_of_kind_and_class k users (ace_key y)))
    ∙ or-false (has_bit (later_mask l k users) b)))

-- the rights of an ACE that no noted right of an overlapping principal opposes are those on which it is free
pub free_is : (l : Later) (whole seen rest : List Ace) (y : Ace) (m : ℕ) → whole ≡ seen ++ y ∷ rest
    → HasOnceColumns whole → y.flags ≡ flags_for (principal_of y) → AreLater l seen
    → ((b : ℕ) → has_bit m b ≡ (has_bit y.mask b && not (opposes l (ace_key y) b))) → AreFreeAfter seen y m
free_is l whole seen rest y m is once flags so marks b = marks b ∙ go (has_bit y.mask b) refl
  where
    lacks : has_bit y.mask b ≡ true → first_kind (is_either (principal_of y) (principal_of y)) (column seen b) ≡ None
    lacks h =
        once_before (column seen b) (principal_of y) y.kind (column rest b)
        (subst IsOnce (ap (λ v. column v b) is ∙ column-append b seen (y ∷ rest)
        ∙ ap (λ c. column seen b ++ c) (column_with b y rest flags h)) (once b))

    go : (t : Bool) → has_bit y.mask b ≡ t → (t && not (opposes l (ace_key y) b))
        ≡ (t && not (conflicts_before (column seen b) (ace_key y)))
    go false h = refl
    go true h =
        ap not (rw (so (other_kind y.kind) false b, so (other_kind y.kind) true b) refl
        ∙ sym (opposite_is y.kind (principal_of y) (column seen b) (lacks h))
        ∙ sym (conflict_is (column seen b) (ace_key y)))
