-- Sets of the places that wait.
use Rattle.acl_normal.proofs.Common.{[], Ace, AceRef, ace, and_parts, ap, arith, Bool, cases_eq, cond, false, false_from_ne_true, get_or-set_other, get_or-set_same, has_bit, is_at, is_user, is_waiting, IsQuiet, Kind, kind_eq, length, length-set, length-take-le, List, list_any, nat_cmp, principal_of, refl, same_class, slice_index_or, slice_set, slot_of, subst, suc, sym, take, take_more, true, waits, with_masks, zero, ℕ, ⊎_elim, ◌&&◌, ◌++◌, ◌+◌, ◌<◌, ◌||◌, ◌∙◌, ◌∷◌, ◌≡◌, ◌≢◌, get_or_default}
use Rattle.std.specs.declared.collections.BTreeSet.{BTreeSet}
use Rattle.std.proofs.Common.{Global}
use Rattle.acl_normal.specs.internal.Places.{bit_count, slot_count}
use Rattle.acl_normal.specs.internal.rows.Waiting.{has_place, HoldWaiting, NoPlaces, PutsBelow}
use Rattle.acl_normal.proofs.rows.ByPlace.{masked, masked_at, quiet_index}
use Rattle.acl_normal.proofs.unique.Normal.{counts_mask}
use Rattle.acl_normal.proofs.unique.Outline.{length_shown}
use Rattle.acl_normal.proofs.unique.Names.{kind_eq_itself, kind_eq_same}
use Rattle.acl_normal.proofs.rows.Slots.{class_same, is_eq_itself, is_eq_same, same_class_itself, slot_below, slot_same}

-- before bit 0 the place was put into no set
pub puts_none : (place : ℕ) (kind : Kind) (users : Bool) (mask : ℕ) (sets : List (BTreeSet ℕ Global))
    → length sets ≡ slot_count → PutsBelow place kind users mask 0 sets sets
puts_none place kind users mask sets count = record {
  slots = count;
  below = λ k u b i l. absurd (omega (arith, l));
  above = λ k u b i l. refl;
}

-- if the mask lacks bit n, the place was put into the sets of its bits below n + 1
pub puts_absent : (place : ℕ) (kind : Kind) (users : Bool) (mask : ℕ) (old new : List (BTreeSet ℕ Global)) (n : ℕ)
    → PutsBelow place kind users mask n old new → has_bit mask n ≡ false
    → PutsBelow place kind users mask (n + 1) old new
puts_absent place kind users mask old new n before lacks = record {
  slots = before.slots;
  below = λ k u b i l. ⊎_elim
      (λ (e : b ≡ n). before.above k u b i (omega (arith, e)) ∙ rw (e, lacks) refl)
      (λ (other : b ≡ n → ⊥). before.below k u b i (grind arith)) (cases_eq b n);
  above = λ k u b i l. before.above k u b i (omega (arith, l));
}

-- if the place was put into the sets of the bits below n, the sets of the bits below n + 1 have it, but for that of bit
-- n itself
puts_elsewhere : (place : ℕ) (kind : Kind) (users : Bool) (mask : ℕ) (old sets : List (BTreeSet ℕ Global)) (n : ℕ)
    → PutsBelow place kind users mask n old sets → (k : Kind) (u : Bool) (b i : ℕ) → b < n + 1
    → slot_of k u b ≢ slot_of kind users n
    → has_place sets (slot_of k u b) i
    ≡ cond ((has_bit mask b && (kind_eq kind k && same_class users u)) && is_at (nat_cmp place) i) true
    (has_place old (slot_of k u b) i)
puts_elsewhere place kind users mask old sets n before k u b i l m =
    ⊎_elim (λ e. at e) (λ o. before.below k u b i (grind arith)) (cases_eq b n)
  where
    differs : b ≡ n → (kind_eq kind k && same_class users u) ≡ false
    differs e = false_from_ne_true _ (λ t. m (both (and_parts (kind_eq kind k) (same_class users u) t)))
      where
        both : (kind_eq kind k ≡ true) × (same_class users u ≡ true) → slot_of k u b ≡ slot_of kind users n
        both (f, g) = rw (← kind_eq_same kind k f, ← class_same users u g, e) refl

    at : b ≡ n → has_place sets (slot_of k u b) i
        ≡ cond ((has_bit mask b && (kind_eq kind k && same_class users u)) && is_at (nat_cmp place) i) true
        (has_place old (slot_of k u b) i)
    at e = before.above k u b i (omega (arith, e)) ∙ grind (arith, differs e)

-- if the place was put into the set of bit n, it was put into those of the bits below n + 1
pub puts_more : (place : ℕ) (kind : Kind) (users : Bool) (mask : ℕ) (old sets : List (BTreeSet ℕ Global)) (n slot : ℕ)
    (got set d : BTreeSet ℕ Global) → PutsBelow place kind users mask n old sets → has_bit mask n ≡ true
    → n < bit_count → slot ≡ slot_of kind users n → got ≡ slice_index_or sets slot d
    → ((i : ℕ) → list_any (is_at (nat_cmp i)) set.keys
    ≡ cond (is_at (nat_cmp place) i) true (list_any (is_at (nat_cmp i)) got.keys))
    → PutsBelow place kind users mask (n + 1) old (slice_set sets slot set)
puts_more place kind users mask old sets n slot got set d before has low is here put = record {
  slots = length-set sets slot set ∙ before.slots;
  below = λ k u b i l. ⊎_elim (λ e. same k u b i e) (λ m. kept k u b i m
      ∙ puts_elsewhere place kind users mask old sets n before k u b i l (λ e. m (e ∙ sym is)))
      (cases_eq (slot_of k u b) slot);
  above = λ k u b i l. kept k u b i (λ e. omega (arith, l, (slot_same k kind u users b n (e ∙ is)).2))
      ∙ before.above k u b i (omega (arith, l));
}
  where
    within : slot < length sets
    within = omega (arith, is, slot_below kind users n low, before.slots)

    kept : (k : Kind) (u : Bool) (b i : ℕ) → slot_of k u b ≢ slot
        → has_place (slice_set sets slot set) (slot_of k u b) i ≡ has_place sets (slot_of k u b) i
    kept k u b i m =
        ap (λ v. list_any (is_at (nat_cmp i)) v.keys) (get_or-set_other sets slot (slot_of k u b) set NoPlaces m)

    same : (k : Kind) (u : Bool) (b i : ℕ) → slot_of k u b ≡ slot
        → has_place (slice_set sets slot set) (slot_of k u b) i
        ≡ cond ((has_bit mask b && (kind_eq kind k && same_class users u)) && is_at (nat_cmp place) i) true
        (has_place old (slot_of k u b) i)
    same k u b i e =
        let parts = slot_same k kind u users b n (e ∙ is) in
        ap (λ v. has_place (slice_set sets slot set) v i) e
        ∙ ap (λ v. list_any (is_at (nat_cmp i)) v.keys) (get_or-set_same sets slot set NoPlaces within)
        ∙ put i
        ∙ ap (λ v. cond (is_at (nat_cmp place) i) true (list_any (is_at (nat_cmp i)) v.keys))
        (here ∙ get_or_default sets slot d NoPlaces within)
        ∙ ap (λ v. cond (is_at (nat_cmp place) i) true (has_place sets v i)) is
        ∙ ap (λ v. cond (is_at (nat_cmp place) i) true v) (before.above kind users n i (omega arith))
        ∙ rw (parts.0, parts.1, parts.2, has, kind_eq_itself kind, same_class_itself users) refl

-- two places are the same if and only if the places after them are
same_next : (i n : ℕ) → is_at (nat_cmp (suc i)) (suc n) ≡ is_at (nat_cmp i) n
same_next i n = ⊎_elim
    (λ e. ap (λ v. is_at (nat_cmp (suc v)) (suc n)) e ∙ is_eq_itself (suc n) ∙ sym (is_eq_itself n)
    ∙ sym (ap (λ v. is_at (nat_cmp v) n) e))
    (λ d. false_from_ne_true _ (λ t. d (suc_same (is_eq_same (suc i) (suc n) t)))
    ∙ sym (false_from_ne_true _ (λ t. d (is_eq_same i n t)))) (cases_eq i n)
  where
    suc_same : suc i ≡ suc n → i ≡ n
    suc_same e = omega (arith, e)

-- with one ACE more after a list the same places wait, and the last if that ACE does
waits_more : (k : Kind) (u : Bool) (b : ℕ) (xs : List Ace) (a : Ace) (i : ℕ)
    → waits k u b (xs ++ a ∷ []) i ≡ (waits k u b xs i || (is_at (nat_cmp (length xs)) i && is_waiting k u b a))
waits_more k u b [] a zero = refl
waits_more k u b [] a (suc i) = grind arith
waits_more k u b (x ∷ xs) a zero =
    let apart : is_at (nat_cmp (suc (length xs))) 0 ≡ false =
    false_from_ne_true _ (λ t. clash (is_eq_same (suc (length xs)) 0 t)) in
    rw apart (bools (is_waiting k u b x))
  where
    clash : suc (length xs) ≡ 0 → ⊥
    clash e = omega (arith, e)

    bools : (t : Bool) → t ≡ (t || false)
    bools true = refl
    bools false = refl
waits_more k u b (x ∷ xs) a (suc i) =
    waits_more k u b xs a i ∙ ap (λ t. waits k u b xs i || (t && is_waiting k u b a)) (sym (same_next (length xs) i))

-- when the next place was put into its sets, they have the places that wait of one ACE more
pub holds_next : (aces : List AceRef) (masks : List ℕ) (place m : ℕ) (x : AceRef) (users : Bool)
    (old new : List (BTreeSet ℕ Global)) → IsQuiet (with_masks aces masks) → length masks ≡ length aces
    → place < length aces → x ≡ slice_index_or aces place x → slice_index_or masks place 0 ≡ m
    → users ≡ is_user (principal_of (ace x)) → PutsBelow place x.kind users m bit_count old new
    → HoldWaiting (take place (with_masks aces masks)) old
    → HoldWaiting (take (place + 1) (with_masks aces masks)) new
holds_next aces masks place m x users old new quiet count l is at class put before = record {
  slots = put.slots;
  waiting = λ k u b i low. put.below k u b i low ∙ grind (
    arith,
    before.waiting k u b i low,
    class,
    counts_mask b item (quiet_index _ _ quiet within here),
    waits_more k u b (take place xs) item i,
    length-take-le place xs (omega (arith, within)),
  ) ∙ ap (λ v. waits k u b v i) (sym more);
}
  where
    xs : List Ace
    xs = with_masks aces masks

    item : Ace
    item = masked (ace x) m

    within : place < length xs
    within = omega (arith, l, length_shown aces masks count)

    here : slice_index_or xs place item ≡ item
    here =
        subst (λ v. slice_index_or xs place (masked (ace x) v) ≡ masked (ace x) v) at
        (masked_at aces masks place x l count is)

    more : take (place + 1) xs ≡ take place xs ++ item ∷ []
    more = take_more xs place item within ∙ ap (λ v. take place xs ++ v ∷ []) here
