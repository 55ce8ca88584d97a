-- Which keys are free in what is left of merged rows.
use Rattle.std.proofs.Common.{Bool, List, [], false, length, refl, true, ℕ, ◌+◌, ◌<◌, ◌≡◌, ◌≤◌}
use Rattle.acl_normal.proofs.Common.{Ace, AceRef, Allow, ColumnKey, Deny, IsIrreducibleList, IsTrue, IsUnion, Kind, Principal, Some, ace, ace_key, aces_in, all_rights, ap, arith, cases_eq, cases_lt, column, cond, false≢true, first_at, get_or-map, has_bit, inl, inr, is_free, kind_eq, left, nothing_left, one_bit, only_bit, other_kind, same_answers, slice_index_or, subst, sym, take_out, without_principal, ◌^◌, ◌||◌, ◌↔◌, ◌∙◌, ◌≢◌, ◌⊎◌}
use Rattle.acl_normal.specs.Left.{HasFree}
use Rattle.acl_normal.specs.internal.Best.{HasRowColumns}
use Rattle.acl_normal.proofs.emit.Leaving.{column_left}
use Rattle.acl_normal.proofs.plain.PlainForm.{irreducible_once}
use Rattle.acl_normal.proofs.rows.ByPlace.{index_is, length_of}
use Rattle.acl_normal.proofs.rows.FreeByPlaces.{free_at_first}
use Rattle.acl_normal.proofs.rows.TakeOut.{column_taken, once_taken}
use Rattle.acl_normal.proofs.unique.Bits.{no_right}
use Rattle.acl_normal.proofs.unique.IrreducibleLists.{no_other_bits}
use Rattle.acl_normal.proofs.unique.Outline.{length_alike}

-- ---- the columns of rows

-- an irreducible list has the columns of rows
pub irreducible_rows : (xs : List Ace) → IsIrreducibleList (left xs) → HasRowColumns xs
irreducible_rows xs irr = record {
  once = irreducible_once xs irr;
  rights = λ b out. sym (column_left b xs) ∙ no_other_bits (left xs) b irr out;
}

-- rows keep such columns when rights are taken out
pub rows_taken : (p : Principal) (m : ℕ) (xs : List Ace) → HasRowColumns xs → HasRowColumns (take_out p m xs)
rows_taken p m xs h = record {
  once = once_taken p m xs h.once;
  rights = λ b out. column_taken b p m xs
      ∙ ap (λ c. cond (has_bit m b) (without_principal p c) c) (h.rights b out) ∙ both (has_bit m b);
}
  where
    both : (t : Bool) → cond t (without_principal p []) [] ≡ []
    both true = refl
    both false = refl

-- ---- the ACE at a place

-- an ACE of the outline at a place has the key of the ACE of the code there
pub key_there : (xs : List Ace) (aces : List AceRef) (i : ℕ) (y : AceRef)
    → nothing_left xs ≡ nothing_left (aces_in aces)
    → i < length aces → y ≡ slice_index_or aces i y → ace_key (slice_index_or xs i (ace y)) ≡ ace_key (ace y)
key_there xs aces i y outline l is =
    ap ace_key (sym (get_or-map nothing xs i (ace y) (ace y) within))
    ∙ ap (λ v. ace_key (slice_index_or v i (ace y))) outline
    ∙ ap ace_key (get_or-map nothing (aces_in aces) i (ace y) (ace y) (omega (arith, l, length_of aces)))
    ∙ ap ace_key (index_is aces i y l is)
  where
    nothing : Ace → Ace
    nothing a = record a { mask = 0 }

    within : i < length xs
    within = omega (arith, l, length_alike xs (aces_in aces) outline, length_of aces)

-- ---- one key

-- kinds that are not equal by the test are different
pub kind_other : (j k : Kind) → kind_eq j k ≡ false → k ≢ j
kind_other Deny Deny h e = cc
kind_other Deny Allow h e = cc
kind_other Allow Deny h e = cc
kind_other Allow Allow h e = cc

-- for a principal whose first ACE with the right is in a row
module _ (xs : List Ace) (b : ℕ) (p : Principal) (j : Kind) (i : ℕ) (h : HasRowColumns xs)
    (first : first_at b p xs ≡ Some (j, i)) where
  -- the principal is not free with the other kind
  pub other_not_free : (k : Kind) → k ≢ j → is_free (column xs b) (p, k) ≡ false
  other_not_free k apart =
      subst (λ v. is_free (column xs b) (p, v) ≡ false) (sym (other k j apart))
      (free_at_first b p xs j i (h.once b) first).1
    where
      other : (k j : Kind) → k ≢ j → k ≡ other_kind j
      other Deny Deny n = absurd (n refl)
      other Deny Allow n = refl
      other Allow Deny n = refl
      other Allow Allow n = absurd (n refl)

  -- the principal is free at the bit if and only if it is with its own kind
  pub own_free : (t : Bool) → (IsTrue t ↔ HasFree xs p (2 ^ b)) → t ≡ is_free (column xs b) (p, j)
  own_free t is = same_answers t (is_free (column xs b) (p, j)) there back
    where
      there : t ≡ true → is_free (column xs b) (p, j) ≡ true
      there e =
          let (bit, kind, has, free) = is.0 e in
          let here : is_free (column xs b) (p, kind) ≡ true =
          subst (λ v. is_free (column xs v) (p, kind) ≡ true) (only_bit b bit has) free in
          same kind here (cases kind j)
        where
          cases : (k l : Kind) → (k ≡ l) ⊎ (k ≢ l)
          cases Deny Deny = inl refl
          cases Deny Allow = inr (λ e. cc)
          cases Allow Deny = inr (λ e. cc)
          cases Allow Allow = inl refl

          same : (k : Kind) → is_free (column xs b) (p, k) ≡ true → (k ≡ j) ⊎ (k ≢ j)
              → is_free (column xs b) (p, j) ≡ true
          same k free (inl e) = subst (λ v. is_free (column xs b) (p, v) ≡ true) e free
          same k free (inr n) = absurd (false≢true (sym (other_not_free k n) ∙ free))

      back : is_free (column xs b) (p, j) ≡ true → t ≡ true
      back free = is.1 (b, j, one_bit b, free)

-- the key is free at a right alone
pub free_is_right : (xs : List Ace) (b : ℕ) (e : ColumnKey) → HasRowColumns xs → is_free (column xs b) e ≡ true
    → has_bit all_rights b ≡ true
free_is_right xs b e h free = go (has_bit all_rights b) refl
  where
    go : (t : Bool) → has_bit all_rights b ≡ t → has_bit all_rights b ≡ true
    go true is = is
    go false is = absurd (false≢true (sym (ap (λ c. is_free c e) (h.rights b is)) ∙ free))

-- ---- the rights, bit by bit

-- below a bit, the set has the bits at which the key is free, and it has no others
pub record HasFreeBelow (xs : List Ace) (e : ColumnKey) (m n : ℕ) : Type 0 where
  pub below : (b : ℕ) → b < n → has_bit m b ≡ is_free (column xs b) e
  pub above : (b : ℕ) → n ≤ b → has_bit m b ≡ false

-- with the next bit, if the key is free there
pub free_below_more : (xs : List Ace) (e : ColumnKey) (m own u n : ℕ) → HasFreeBelow xs e m n
    → has_bit own n ≡ is_free (column xs n) e → ((b : ℕ) → b ≢ n → has_bit own b ≡ false) → IsUnion m own u
    → HasFreeBelow xs e u (n + 1)
free_below_more xs e m own u n h here others both = record {
  below = λ b l. both b ∙ at b l (cases_eq b n);
  above = λ b l. both b ∙ rw (h.above b (omega (arith, l)), others b (λ s. omega (arith, s, l))) refl;
}
  where
    at : (b : ℕ) → b < n + 1 → (b ≡ n) ⊎ (b ≢ n) → (has_bit m b || has_bit own b) ≡ is_free (column xs b) e
    at b l (inl s) =
        ap (λ v. v || has_bit own b) (h.above b (omega (arith, s)))
        ∙ subst (λ v. has_bit own v ≡ is_free (column xs v) e) (sym s) here
    at b l (inr o) =
        ap (λ v. has_bit m b || v) (others b o) ∙ or_false (has_bit m b)
        ∙ h.below b (omega (arith, l, o))
      where
        or_false : (t : Bool) → (t || false) ≡ t
        or_false true = refl
        or_false false = refl

-- after all bits, the set has all bits at which the key is free
pub free_below_all : (xs : List Ace) (e : ColumnKey) (m n : ℕ) → 21 ≤ n → HasRowColumns xs → HasFreeBelow xs e m n
    → (b : ℕ) → has_bit m b ≡ is_free (column xs b) e
free_below_all xs e m n end rows h b = elim (cases_lt b n) [
  | inl l ↦ h.below b l
  | inr l ↦ h.above b l
      ∙ ap (λ c. is_free c e) (sym (rows.rights b (no_right b (omega (arith, end, l)))))
]
