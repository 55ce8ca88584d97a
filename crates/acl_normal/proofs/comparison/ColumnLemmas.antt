-- The columns of a right, as the code makes them.
use Rattle.acl_normal.proofs.Common.{[], Ace, ace, AceRef, aces_in, ap, append-nil, append_assoc, AreWhoms, arith, at_drop_more, Bool, cond, drop, drop_all, drop_more, false, has_bit, inl, inr, length, List, map, map-append, Mask, Nobody, principals, refl, slice_index_or, subst, sym, true, TwoLists, Whom, ℕ, ◌++◌, ◌+◌, ◌<◌, ◌∙◌, ◌∷◌, ◌≡◌, ◌≤◌, ◌⊎◌}
use Rattle.acl_normal.specs.internal.comparison.Columns.{AreColumnsOf, AreNumbersOf, AreRightsByNumber, IsLeftOut, all_renumbered, mask_at_number, renumbered, with_right}
use Rattle.acl_normal.specs.internal.comparison.TwoLists.{all_mentioned, principal_at}
use Rattle.acl_normal.specs.declared.comparison.columns.Columns.{Columns}
use Rattle.acl_normal.proofs.comparison.RenumberedWhoms.{whoms_renumbered}

-- an ACE with the right is the first of those that have it
taken : (bit : ℕ) (a : Ace) (list : List Ace) → has_bit a.mask bit ≡ true
    → with_right bit (a ∷ list) ≡ a ∷ with_right bit list
taken bit a list e = ap (λ t. cond t (a ∷ with_right bit list) (with_right bit list)) e

-- an ACE without the right is left out
left : (bit : ℕ) (a : Ace) (list : List Ace) → has_bit a.mask bit ≡ false
    → with_right bit (a ∷ list) ≡ with_right bit list
left bit a list e = ap (λ t. cond t (a ∷ with_right bit list) (with_right bit list)) e

-- some ACEs, and after them those of the rest of a list that have a right, are all that have it
pub record IsColumnSoFar (bit i : ℕ) (refs found : List AceRef) : Type 0 where
  pub is : aces_in found ++ with_right bit (aces_in (drop i refs)) ≡ with_right bit (aces_in refs)

-- the rest of a list begins with the ACE at its place
rest_is : (bit i : ℕ) (refs : List AceRef) {x : AceRef} → i < length refs → x ≡ slice_index_or refs i x
    → with_right bit (aces_in (drop i refs)) ≡ with_right bit (ace x ∷ aces_in (drop (i + 1) refs))
rest_is bit i refs {x} lt at = at_drop_more (λ r. with_right bit (aces_in r)) refs i x lt
    ∙ sym (ap (λ a. with_right bit (ace a ∷ aces_in (drop (i + 1) refs))) at)

-- one more ACE that has the right is in the column
pub column_more : {bit i : ℕ} (refs : List AceRef) {x : AceRef} {old new : List AceRef} → i < length refs
    → x ≡ slice_index_or refs i x → has_bit x.mask.bits bit ≡ true → new ≡ old ++ x ∷ []
    → IsColumnSoFar bit i refs old → IsColumnSoFar bit (i + 1) refs new
column_more {bit} {i} refs {x} {old} {new} lt at has is h =
    let rest : List Ace = with_right bit (aces_in (drop (i + 1) refs)) in
    record {
      is = ap (λ v. aces_in v ++ rest) is ∙ ap (λ v. v ++ rest) (map-append ace old (x ∷ []))
          ∙ append_assoc (aces_in old) (ace x ∷ []) rest
          ∙ ap (λ v. aces_in old ++ v)
          (sym (rest_is bit i refs lt at ∙ taken bit (ace x) (aces_in (drop (i + 1) refs)) has))
          ∙ h.is;
    }

-- an ACE without the right leaves the column as it is
pub column_same : {bit i : ℕ} (refs : List AceRef) {x : AceRef} {found : List AceRef} → i < length refs
    → x ≡ slice_index_or refs i x → has_bit x.mask.bits bit ≡ false
    → IsColumnSoFar bit i refs found → IsColumnSoFar bit (i + 1) refs found
column_same {bit} {i} refs {x} {found} lt at has h = record {
  is = ap (λ v. aces_in found ++ v)
      (sym (rest_is bit i refs lt at ∙ left bit (ace x) (aces_in (drop (i + 1) refs)) has)) ∙ h.is;
}

-- after the last ACE, the column has the ACEs that have the right
pub column_done : {bit i : ℕ} (refs : List AceRef) {found : List AceRef} → length refs ≤ i
    → IsColumnSoFar bit i refs found → aces_in found ≡ with_right bit (aces_in refs)
column_done {bit} {i} refs {found} past h =
    sym (append-nil (aces_in found))
    ∙ sym (ap (λ v. aces_in found ++ with_right bit (aces_in v)) (drop_all i refs past)) ∙ h.is

-- the same for whom these ACEs name
pub record AreWhomsSoFar (places : List ℕ) (bit i : ℕ) (refs : List AceRef) (ws found : List Whom) : Type 0 where
  pub is : found ++ all_renumbered places bit (aces_in (drop i refs)) (drop i ws)
      ≡ all_renumbered places bit (aces_in refs) ws

-- the columns of the ACEs from a place on begin with the ACE at the place
whoms_rest : (places : List ℕ) (bit i : ℕ) (refs : List AceRef) (ws : List Whom) {x : AceRef} → i < length refs
    → length ws ≡ length refs → x ≡ slice_index_or refs i x
    → all_renumbered places bit (aces_in (drop i refs)) (drop i ws)
    ≡ all_renumbered places bit (ace x ∷ aces_in (drop (i + 1) refs)) (slice_index_or ws i Nobody ∷ drop (i + 1) ws)
whoms_rest places bit i refs ws {x} lt count at =
    at_drop_more (λ r. all_renumbered places bit (aces_in r) (drop i ws)) refs i x lt
    ∙ sym (ap (λ a. all_renumbered places bit (ace a ∷ aces_in (drop (i + 1) refs)) (drop i ws)) at)
    ∙ ap (λ v. all_renumbered places bit (ace x ∷ aces_in (drop (i + 1) refs)) v)
    (drop_more ws i Nobody (omega (arith, lt, count)))

-- one more ACE that has the right adds whom it names, by its new number
pub whoms_more : {places : List ℕ} {bit i : ℕ} (refs : List AceRef) (ws : List Whom) {x : AceRef} {w : Whom}
    {old new : List Whom} → i < length refs → length ws ≡ length refs → x ≡ slice_index_or refs i x
    → has_bit x.mask.bits bit ≡ true → w ≡ renumbered places (slice_index_or ws i Nobody) → new ≡ old ++ w ∷ []
    → AreWhomsSoFar places bit i refs ws old → AreWhomsSoFar places bit (i + 1) refs ws new
whoms_more {places} {bit} {i} refs ws {x} {w} {old} {new} lt count at has named is h =
    let rest : List Whom = all_renumbered places bit (aces_in (drop (i + 1) refs)) (drop (i + 1) ws) in
    record {
      is = ap (λ v. v ++ rest) is ∙ ap (λ v. (old ++ v ∷ []) ++ rest) named
          ∙ append_assoc old (renumbered places (slice_index_or ws i Nobody) ∷ []) rest
          ∙ ap (λ v. old ++ v) (sym (whoms_rest places bit i refs ws lt count at
          ∙ ap (λ t. cond t (renumbered places (slice_index_or ws i Nobody) ∷ rest) rest) has))
          ∙ h.is;
    }

-- an ACE without the right adds nobody
pub whoms_same : {places : List ℕ} {bit i : ℕ} (refs : List AceRef) (ws : List Whom) {x : AceRef}
    {found : List Whom} → i < length refs → length ws ≡ length refs → x ≡ slice_index_or refs i x
    → has_bit x.mask.bits bit ≡ false
    → AreWhomsSoFar places bit i refs ws found → AreWhomsSoFar places bit (i + 1) refs ws found
whoms_same {places} {bit} {i} refs ws {x} {found} lt count at has h =
    let rest : List Whom = all_renumbered places bit (aces_in (drop (i + 1) refs)) (drop (i + 1) ws) in
    record {
      is = ap (λ v. found ++ v) (sym (whoms_rest places bit i refs ws lt count at
          ∙ ap (λ t. cond t (renumbered places (slice_index_or ws i Nobody) ∷ rest) rest) has)) ∙ h.is;
    }

-- after the last ACE, these are all whom the ACEs of the right name
pub whoms_done : {places : List ℕ} {bit i : ℕ} (refs : List AceRef) (ws : List Whom) {found : List Whom}
    → length refs ≤ i → AreWhomsSoFar places bit i refs ws found
    → found ≡ all_renumbered places bit (aces_in refs) ws
whoms_done {places} {bit} {i} refs ws {found} past h =
    sym (append-nil found)
    ∙ sym (ap (λ v. found ++ all_renumbered places bit (aces_in v) (drop i ws)) (drop_all i refs past)) ∙ h.is

-- what the code makes are the columns
pub columns_made : (both : TwoLists) (bit : ℕ) (rights : List Mask) (c : Columns) (places : List ℕ)
    (first second : List Whom) → AreRightsByNumber both rights
    → AreNumbersOf rights bit (length rights) c.numbers.items places
    → principals c.principals.items ≡ map (principal_at both) c.numbers.items
    → aces_in c.first.aces.items ≡ with_right bit both.first → aces_in c.second.aces.items ≡ with_right bit both.second
    → c.first.whoms.items ≡ all_renumbered places bit both.first first
    → c.second.whoms.items ≡ all_renumbered places bit both.second second
    → AreWhoms (all_mentioned both) both.first first → AreWhoms (all_mentioned both) both.second second
    → AreColumnsOf both bit c
columns_made both bit rights c places first second r n whole one two heres theres here there = record {
  below = below;
  rising = n.rising;
  whole = whole;
  first = one;
  second = two;
  here = subst (λ ps. AreWhoms ps (aces_in c.first.aces.items) c.first.whoms.items) (sym whole)
      (subst (λ v. AreWhoms (map (principal_at both) c.numbers.items) v c.first.whoms.items) (sym one)
      (subst (λ v. AreWhoms (map (principal_at both) c.numbers.items) (with_right bit both.first) v) (sym heres)
      (whoms_renumbered (all_mentioned both) c.numbers.items places below n.rising bit both.first first here
      (λ k l. elim (place k l) [
        | inl out ↦ inl out.first
        | inr there ↦ inr there
      ]))));
  there = subst (λ ps. AreWhoms ps (aces_in c.second.aces.items) c.second.whoms.items) (sym whole)
      (subst (λ v. AreWhoms (map (principal_at both) c.numbers.items) v c.second.whoms.items) (sym two)
      (subst (λ v. AreWhoms (map (principal_at both) c.numbers.items) (with_right bit both.second) v) (sym theres)
      (whoms_renumbered (all_mentioned both) c.numbers.items places below n.rising bit both.second second there
      (λ k l. elim (place k l) [
        | inl out ↦ inl out.second
        | inr there ↦ inr there
      ]))));
  others = λ k l. elim (place k l) [
    | inl out ↦ inr out
    | inr there ↦ inl (slice_index_or places k 0, there.0, there.1)
  ];
}
  where
    below : (j : ℕ) → j < length c.numbers.items → slice_index_or c.numbers.items j 0 < length (all_mentioned both)
    below j l = omega (arith, n.below j l, r.count)

    place_by : (k : ℕ) → k < length rights → (t : Bool) → has_bit (mask_at_number rights k) bit ≡ t
        → IsLeftOut both bit k ⊎ ((slice_index_or places k 0 < length c.numbers.items)
        × (slice_index_or c.numbers.items (slice_index_or places k 0) 0 ≡ k))
    place_by k l true e = inr (n.place k l e)
    place_by k l false e = inl (r.each k bit l e)

    place : (k : ℕ) → k < length (all_mentioned both)
        → IsLeftOut both bit k ⊎ ((slice_index_or places k 0 < length c.numbers.items)
        × (slice_index_or c.numbers.items (slice_index_or places k 0) 0 ≡ k))
    place k l = place_by k (omega (arith, l, r.count)) (has_bit (mask_at_number rights k) bit) refl
