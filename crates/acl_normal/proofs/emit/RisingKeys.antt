-- A list whose keys rise is in the order of its normal form.
use Rattle.acl_normal.proofs.Common.{Ace, AllByRecursion, Bool, ColumnKey, Equal, HasNoEmptyMask, HasNormalFlags, HasOnceColumns, IsAlike, IsEmission, IsIrreducibleList, IsNormal, IsOnce, IsQuiet, Less, List, SameGrants, [], ace_key, all_cleared, all_rights, and_parts, ap, bytes_eq, cleared, column, compare_keys, conflicts, eqb-false, everyone_name, false, false_from_ne_true, flags_for, group_name, has_bit, identifier_group, is_free, is_le, kind_eq, left, not, or_cases, owner_name, principal_eq, principal_of, refl, subst, sym, true, ℕ, ⊎_elim, ◌&&◌, ◌==◌, ◌∙◌, ◌∷◌, ◌≡◌}
use Rattle.std.specs.List.Sorted.{IsStrictlySortedBy}
use Rattle.acl_normal.specs.Normal.{IsOrdered}
use Rattle.acl_normal.specs.internal.emit.Rising.{IsRising}
use Rattle.acl_normal.proofs.unique.Names.{kind_eq_same, principal_eq_same}
use Rattle.acl_normal.proofs.unique.Free.{free_among, head_is_free}
use Rattle.acl_normal.proofs.unique.Columns.{column_has, column_lacking, column_lacks, column_with}
use Rattle.acl_normal.proofs.unique.Normal.{counts_mask}
use Rattle.acl_normal.proofs.emit.Leaving.{column_left, left_normal, quiet_left}
use Rattle.acl_normal.proofs.unique.Keys.{key_itself}

-- the key of an ACE is at most itself
at_most_itself : (a : Ace) (e : ColumnKey) → (principal_eq (principal_of a) e.0 && kind_eq a.kind e.1) ≡ true
    → is_le (compare_keys (ace_key a) e) ≡ true
at_most_itself a e f =
    let both = and_parts (principal_eq (principal_of a) e.0) (kind_eq a.kind e.1) f in
    let who = principal_eq_same (principal_of a) e.0 both.0 in
    let kind = kind_eq_same a.kind e.1 both.1 in
    let same : ace_key a ≡ e = λ i. (who i, kind i) in
    subst (λ k. is_le (compare_keys (ace_key a) k) ≡ true) same (ap (λ o. is_le o) (key_itself (ace_key a)))

-- a list whose keys rise, with normal flags, is in the order of a normal form
pub rising_ordered : (xs : List Ace) → HasNormalFlags xs → IsRising xs → IsOrdered xs
unfolding IsStrictlySortedBy
rising_ordered [] flags rising = tt
rising_ordered (a ∷ xs) flags rising = (
  λ e b free. least e b (has_bit a.mask b) refl free,
  λ b. all b (has_bit a.mask b) refl,
  rising_ordered xs flags.1 rising.1,
)
  where
    behind : (e : ColumnKey) (b : ℕ) → is_free (column xs b) e ≡ true → compare_keys (ace_key a) e ≡ Less
    behind e b free = free_among (λ k. compare_keys (ace_key a) k ≡ Less) xs b e rising.0 free

    at_most : (e : ColumnKey) (b : ℕ) → is_free (column xs b) e ≡ true → is_le (compare_keys (ace_key a) e) ≡ true
    at_most e b free = ap (λ o. is_le o) (behind e b free)

    least : (e : ColumnKey) (b : ℕ) (t : Bool) → has_bit a.mask b ≡ t → is_free (column (a ∷ xs) b) e ≡ true
        → is_le (compare_keys (ace_key a) e) ≡ true
    least e b false h free = at_most e b (subst (λ c. is_free c e ≡ true) (column_lacking b a xs flags.0 h) free)
    least e b true h free = ⊎_elim
        (λ (f : (principal_eq (principal_of a) e.0 && kind_eq a.kind e.1) ≡ true). at_most_itself a e f)
        (λ (f : (not (conflicts (ace_key a) e) && is_free (column xs b) e) ≡ true).
        at_most e b (and_parts (not (conflicts (ace_key a) e)) (is_free (column xs b) e) f).1)
        (or_cases (principal_eq (principal_of a) e.0 && kind_eq a.kind e.1)
        (not (conflicts (ace_key a) e) && is_free (column xs b) e)
        (subst (λ c. is_free c e ≡ true) (column_with b a xs flags.0 h) free))

    all : (b : ℕ) (t : Bool) → has_bit a.mask b ≡ t → has_bit a.mask b ≡ is_free (column (a ∷ xs) b) (ace_key a)
    all b true h =
        h ∙ sym (ap (λ c. is_free c (ace_key a)) (column_with b a xs flags.0 h)
        ∙ head_is_free (ace_key a) (column xs b))
    all b false h =
        h ∙ sym (ap (λ c. is_free c (ace_key a)) (column_lacking b a xs flags.0 h)
        ∙ false_from_ne_true _ (λ f. absurd (clash (sym (key_itself (ace_key a)) ∙ behind (ace_key a) b f))))
      where
        clash : Equal ≡ Less → ⊥
        clash e = cc

-- ---- with the flags cleared

-- an ACE with cleared flags has the principal that it had
pub named_again : (a : Ace) → principal_of (cleared a) ≡ principal_of a
named_again a = go (bytes_eq a.who owner_name) refl (bytes_eq a.who group_name) refl (bytes_eq a.who everyone_name)
    refl (has_bit a.flags identifier_group) refl
  where
    go : (o : Bool) → bytes_eq a.who owner_name ≡ o → (g : Bool) → bytes_eq a.who group_name ≡ g
        → (e : Bool) → bytes_eq a.who everyone_name ≡ e → (f : Bool) → has_bit a.flags identifier_group ≡ f
        → principal_of (cleared a) ≡ principal_of a
    go true h g i e j f k = rw h refl
    go false h true i e j f k = rw (h, i) refl
    go false h false i true j f k = rw (h, i, j) refl
    go false h false i false j true k = rw (h, i, j, k) refl
    go false h false i false j false k = rw (h, i, j, k) refl

-- an ACE with cleared flags has the key that it had
cleared_key : (a : Ace) → ace_key (cleared a) ≡ ace_key a
cleared_key a = ap (λ p. (p, a.kind)) (named_again a)

-- an ACE with cleared flags has the flags that its principal needs
cleared_flags : (a : Ace) → (cleared a).flags ≡ flags_for (principal_of (cleared a))
cleared_flags a = ap flags_for (sym (named_again a))

-- flags that play no part change no column
column_cleared : (b : ℕ) (xs : List Ace) → IsQuiet xs → column (all_cleared xs) b ≡ column xs b
column_cleared b [] quiet = refl
column_cleared b (a ∷ xs) quiet = go (has_bit a.mask b) refl (column_cleared b xs quiet.1)
  where
    go : (t : Bool) → has_bit a.mask b ≡ t → column (all_cleared xs) b ≡ column xs b
        → column (cleared a ∷ all_cleared xs) b ≡ column (a ∷ xs) b
    go true h ih =
        column_with b (cleared a) (all_cleared xs) (cleared_flags a) h
        ∙ rw (cleared_key a, ih) refl
        ∙ sym (column_has b a xs (counts_mask b a quiet.0 ∙ h))
    go false h ih =
        column_lacking b (cleared a) (all_cleared xs) (cleared_flags a) h
        ∙ ih
        ∙ sym (column_lacks b a xs (counts_mask b a quiet.0 ∙ h))

-- a list with cleared flags has normal flags
normal_flags : (xs : List Ace) → HasNormalFlags (all_cleared xs)
normal_flags [] = tt
normal_flags (a ∷ xs) = (cleared_flags a, normal_flags xs)

-- a key less than each key of a list is less than each with cleared flags
rising_behind : (k : ColumnKey) (xs : List Ace) → AllByRecursion (λ a. compare_keys k (ace_key a) ≡ Less) xs
    → AllByRecursion (λ a. compare_keys k (ace_key a) ≡ Less) (all_cleared xs)
rising_behind k [] h = tt
rising_behind k (a ∷ xs) h =
    (ap (λ e. compare_keys k e) (cleared_key a) ∙ h.0, rising_behind k xs h.1)

-- a list whose keys rise does so with cleared flags
rising_cleared : (xs : List Ace) → IsRising xs → IsRising (all_cleared xs)
unfolding IsStrictlySortedBy
rising_cleared [] h = tt
rising_cleared (a ∷ xs) h = (
  subst (λ k. AllByRecursion (λ x. compare_keys k (ace_key x) ≡ Less) (all_cleared xs)) (sym (cleared_key a))
      (rising_behind (ace_key a) xs h.0),
  rising_cleared xs h.1,
)

-- what is left of a list has no empty mask, with cleared flags too
masks_left : (xs : List Ace) → HasNoEmptyMask (all_cleared (left xs))
masks_left [] = tt
masks_left (a ∷ xs) = go (a.mask == 0) refl (masks_left xs)
  where
    go : (t : Bool) → (a.mask == 0) ≡ t → HasNoEmptyMask (all_cleared (left xs))
        → HasNoEmptyMask (all_cleared (left (a ∷ xs)))
    go true h ih = rw h ih
    go false h ih = rw h (eqb-false a.mask 0 h, ih)

-- what is left of a quiet list has its columns, with cleared flags
pub columns_left : (b : ℕ) (xs : List Ace) → IsQuiet xs → column (all_cleared (left xs)) b ≡ column xs b
columns_left b xs quiet = column_cleared b (left xs) (quiet_left xs quiet) ∙ column_left b xs

-- if the keys of what is left rise, what is left is what is emitted, with cleared flags
pub rising_emission : (xs : List Ace) → HasOnceColumns xs → IsQuiet xs → IsRising (left xs)
    → IsEmission xs (all_cleared (left xs))
rising_emission xs once quiet rising = record {
  alike = λ b. subst (λ c. IsAlike (column xs b) c) (sym (same b)) (λ p q o. refl);
  once = λ b. subst (λ c. IsOnce c) (sym (same b)) (once b);
  ordered =
      rising_ordered (all_cleared (left xs)) (normal_flags (left xs)) (rising_cleared (left xs) rising);
  flags = normal_flags (left xs);
  masks = masks_left xs;
}
  where
    same : (b : ℕ) → column (all_cleared (left xs)) b ≡ column xs b
    same b = columns_left b xs quiet

-- what is left of an irreducible list is normal, with cleared flags, and grants the same, if its keys rise
pub rising_form : (xs : List Ace) → IsIrreducibleList (left xs) → HasOnceColumns xs → IsQuiet xs
    → IsRising (left xs) → IsNormal (all_cleared (left xs)) × SameGrants all_rights xs (all_cleared (left xs))
rising_form xs irr once quiet rising = left_normal xs (all_cleared (left xs)) irr (rising_emission xs once quiet rising)
