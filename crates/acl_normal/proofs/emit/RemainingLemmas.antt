-- What remains of a list while it is emitted: masks by place, masks by row that leave a part of them, and queues of
-- places.
use Rattle.acl_normal.proofs.Common.{[], Ace, AceRef, and_parts, ap, arith, bit_and, Bool, cases_eq, counts, false, false_from_ne_true, get_or-set_other, get_or-set_same, has_bit, has_bit-without, inl, inr, is_at, is_inherit_only, is_waiting, IsQueue, IsQuiet, key_here, Kind, length, List, list_any, mask_here, masks_left, nat_cmp, not, or_cases, or_right, Principal, principal_eq, principal_of, refl, slice_index_or, slice_set, subst, suc, sym, take_out, true, waits, waits_before, with_masks, without, without_bits, zero, ℕ, ⊎_elim, ◌&&◌, ◌<◌, ◌∙◌, ◌∷◌, ◌≡◌, ◌≤◌, ◌⊎◌, ace, has_bit-and}
use Rattle.std.proofs.lemmas.Map.Keys.{sorted_head, sorted_tail}
use Rattle.acl_normal.proofs.rows.TakeOut.{waiting_left}
use Rattle.acl_normal.proofs.rows.Waits.{before_none}
use Rattle.acl_normal.proofs.rows.ByPlace.{masked}
use Rattle.acl_normal.proofs.unique.Bits.{masks_same, no_bits_of_zero}
use Rattle.acl_normal.proofs.unique.Names.{principal_eq_same, principal_eq_itself}
use Rattle.acl_normal.proofs.unique.Outline.{length_alike}
use Rattle.acl_normal.proofs.rows.Slots.{is_eq_same}
use Rattle.acl_normal.proofs.rows.PlaceLists.{front_in, later_than}
use Rattle.acl_normal.proofs.rows.RowsAlike.{outline_taken}

-- ---- masks

-- what is left of masks has as many masks
pub length_left : (masks rows left : List ℕ) → length (masks_left masks rows left) ≡ length masks
length_left [] rows left = refl
length_left (m ∷ masks) [] left = refl
length_left (m ∷ masks) (r ∷ rows) left = ap suc (length_left masks rows left)

-- the mask that is left at a place is what its row has left of the mask there
pub left_at : (masks rows left : List ℕ) (i : ℕ) → length rows ≡ length masks → i < length masks
    → slice_index_or (masks_left masks rows left) i 0
    ≡ bit_and (slice_index_or masks i 0) (slice_index_or left (slice_index_or rows i 0) 0)
left_at [] rows left i e l = absurd (omega (arith, l))
left_at (m ∷ masks) [] left i e l = absurd (omega (arith, e))
left_at (m ∷ masks) (r ∷ rows) left zero e l = refl
left_at (m ∷ masks) (r ∷ rows) left (suc i) e l = left_at masks rows left i (omega (arith, e)) (omega (arith, l))

-- the mask that is shown at a place
pub mask_shown : (aces : List AceRef) (masks : List ℕ) (i : ℕ) → length masks ≡ length aces
    → mask_here (with_masks aces masks) i ≡ slice_index_or masks i 0
mask_shown [] [] i e = refl
mask_shown [] (m ∷ masks) i e = absurd (omega (arith, e))
mask_shown (a ∷ aces) [] i e = absurd (omega (arith, e))
mask_shown (a ∷ aces) (m ∷ masks) zero e = refl
mask_shown (a ∷ aces) (m ∷ masks) (suc i) e = mask_shown aces masks i (omega (arith, e))

-- if each row has all bits of its masks left, all masks are left
pub all_left : (masks rows left : List ℕ) → length rows ≡ length masks
    → ((i : ℕ) → i < length masks → bit_and (slice_index_or masks i 0) (slice_index_or left (slice_index_or rows i 0) 0)
    ≡ slice_index_or masks i 0)
    → masks_left masks rows left ≡ masks
all_left [] rows left e h = refl
all_left (m ∷ masks) [] left e h = absurd (omega (arith, e))
all_left (m ∷ masks) (r ∷ rows) left e h =
    ap (λ v. v ∷ masks_left masks rows left) (h 0 (omega arith))
    ∙ ap (λ v. m ∷ v) (all_left masks rows left (omega (arith, e)) (λ i l. h (suc i) (omega (arith, l))))

-- to take bits out of what a row has left takes them out of its masks
and_without : (m l n : ℕ) → bit_and m (without l n) ≡ without (bit_and m l) n
and_without m l n =
    masks_same _ _ (λ b. has_bit-and m (without l n) b ∙ ap (λ t. has_bit m b && t) (has_bit-without l n b)
    ∙ bools (has_bit m b) (has_bit l b) (has_bit n b)
    ∙ ap (λ t. t && not (has_bit n b)) (sym (has_bit-and m l b))
    ∙ sym (has_bit-without (bit_and m l) n b))
  where
    bools : (s t u : Bool) → (s && (t && not u)) ≡ ((s && t) && not u)
    bools true t u = refl
    bools false t u = refl

-- the empty set without some bits is empty
nothing_without : (n : ℕ) → without 0 n ≡ 0
nothing_without n =
    masks_same _ _ (λ b. has_bit-without 0 n b ∙ rw (no_bits_of_zero b) refl)

-- what is left of a row's mask loses the bits that are taken out of the row
mask_taken : (m row n r : ℕ) (left : List ℕ) → row < length left → r ≡ row
    → bit_and n (slice_index_or (slice_set left row (without (slice_index_or left row 0) m)) r 0)
    ≡ without (bit_and n (slice_index_or left r 0)) m
mask_taken m row n r left l s =
    ap (λ v. bit_and n (slice_index_or (slice_set left row (without (slice_index_or left row 0) m)) v 0)) s
    ∙ ap (bit_and n) (get_or-set_same left row (without (slice_index_or left row 0) m) 0 l)
    ∙ ap (λ v. bit_and n (without (slice_index_or left v 0) m)) (sym s)
    ∙ and_without n (slice_index_or left r 0) m

-- if a row leaves out bits, the list is without these bits of its principal
pub row_taken : (p : Principal) (m row : ℕ) (aces : List AceRef) (masks rows left : List ℕ) → row < length left
    → length rows ≡ length masks → IsQuiet (with_masks aces (masks_left masks rows left))
    → ((i : ℕ) → i < length (with_masks aces (masks_left masks rows left)) → slice_index_or rows i 0 ≡ row
    → (key_here (with_masks aces (masks_left masks rows left)) i).0 ≡ p)
    → ((i : ℕ) → i < length (with_masks aces (masks_left masks rows left))
    → (key_here (with_masks aces (masks_left masks rows left)) i).0 ≡ p → slice_index_or rows i 0 ≡ row)
    → with_masks aces (masks_left masks rows (slice_set left row (without (slice_index_or left row 0) m)))
    ≡ take_out p m (with_masks aces (masks_left masks rows left))
row_taken p m row [] masks rows left l e quiet there back = refl
row_taken p m row (x ∷ aces) [] rows left l e quiet there back = refl
row_taken p m row (x ∷ aces) (n ∷ masks) [] left l e quiet there back = absurd (omega (arith, e))
row_taken p m row (x ∷ aces) (n ∷ masks) (r ∷ rows) left l e quiet there back =
    ap (λ v. v ∷ with_masks aces (masks_left masks rows new)) (here (cases_eq r row))
    ∙ ap (λ v. without_bits p m head ∷ v)
    (row_taken p m row aces masks rows left l (omega (arith, e)) quiet.1
    (λ i h. there (suc i) (omega (arith, h))) (λ i h. back (suc i) (omega (arith, h))))
  where
    new : List ℕ
    new = slice_set left row (without (slice_index_or left row 0) m)

    head : Ace
    head = masked (ace x) (bit_and n (slice_index_or left r 0))

    here : (r ≡ row) ⊎ (r ≡ row → ⊥) → masked (ace x) (bit_and n (slice_index_or new r 0)) ≡ without_bits p m head
    here (inr d) =
        ap (λ v. masked (ace x) (bit_and n v)) (get_or-set_other left row r _ 0 d) ∙ rw apart refl
      where
        apart : principal_eq (principal_of head) p ≡ false
        apart = false_from_ne_true _ (λ t. d (back 0 (omega arith) (principal_eq_same (principal_of head) p t)))
    here (inl s) = ap (masked (ace x)) (mask_taken m row n r left l s) ∙ go (is_inherit_only head) refl
      where
        named : principal_eq (principal_of head) p ≡ true
        named = ap (λ v. principal_eq v p) (there 0 (omega arith) s) ∙ principal_eq_itself p

        go : (t : Bool) → is_inherit_only head ≡ t → masked (ace x) (without head.mask m) ≡ without_bits p m head
        go false f = rw (named, f) refl
        go true f =
            rw (named, f) (ap (masked (ace x))
            (ap (λ v. without v m) (quiet.0 f) ∙ nothing_without m ∙ sym (quiet.0 f)))

-- ---- queues

-- a place that waits with a bit has the bit
pub waits_has : (k : Kind) (u : Bool) (b : ℕ) (xs : List Ace) (i : ℕ) → waits k u b xs i ≡ true
    → has_bit (mask_here xs i) b ≡ true
waits_has k u b [] i h = cc
waits_has k u b (a ∷ xs) zero h =
    let parts = and_parts (counts b a) _ h in
    let both = and_parts (has_bit a.mask b) (not (is_inherit_only a)) parts.0 in
    both.0
waits_has k u b (a ∷ xs) (suc i) h = waits_has k u b xs i h

-- a place that waits after bits were taken out has waited before
pub waited_before : (k : Kind) (u : Bool) (b : ℕ) (p : Principal) (m : ℕ) (xs : List Ace) (i : ℕ)
    → waits k u b (take_out p m xs) i ≡ true → waits k u b xs i ≡ true
waited_before k u b p m [] i h = h
waited_before k u b p m (a ∷ xs) zero h =
    let parts = and_parts (is_waiting k u b a) _ (sym (waiting_left k u b p m a) ∙ h) in
    parts.0
waited_before k u b p m (a ∷ xs) (suc i) h = waited_before k u b p m xs i h

-- a place that waits if and only if it has the bit does so after bits were taken out
pub listed_taken : (k : Kind) (u : Bool) (b : ℕ) (p : Principal) (m : ℕ) (xs : List Ace) (i : ℕ)
    → waits k u b xs i ≡ has_bit (mask_here xs i) b
    → waits k u b (take_out p m xs) i ≡ has_bit (mask_here (take_out p m xs) i) b
listed_taken k u b p m [] i h = h
listed_taken k u b p m (a ∷ xs) zero h = go (principal_eq (principal_of a) p) refl (is_inherit_only a) refl
  where
    go : (s : Bool) → principal_eq (principal_of a) p ≡ s → (t : Bool) → is_inherit_only a ≡ t
        → is_waiting k u b (without_bits p m a) ≡ has_bit (without_bits p m a).mask b
    go true e false f =
        waiting_left k u b p m a ∙ ap (λ t. t && not (principal_eq (principal_of a) p && has_bit m b)) h
        ∙ rw (e, f) (sym (has_bit-without a.mask m b))
    go true e true f =
        let same : without_bits p m a ≡ a = rw (e, f) refl in
        subst (λ v. is_waiting k u b v ≡ has_bit v.mask b) (sym same) h
    go false e t f = rw e h
listed_taken k u b p m (a ∷ xs) (suc i) h = listed_taken k u b p m xs i h

-- a queue of a list is a queue of what is left of the list
pub queue_taken : (k : Kind) (u : Bool) (b : ℕ) (p : Principal) (m : ℕ) (xs : List Ace) (places : List ℕ)
    → IsQueue k u b xs places → IsQueue k u b (take_out p m xs) places
queue_taken k u b p m xs places q = record {
  sorted = q.sorted;
  within = λ i h. omega (arith, q.within i h, length_alike (take_out p m xs) xs (outline_taken p m xs));
  listed = λ i h. listed_taken k u b p m xs i (q.listed i h);
  all = λ i h. q.all i (waited_before k u b p m xs i h);
}

-- a queue whose first place no longer waits continues after that place
pub queue_on : (k : Kind) (u : Bool) (b : ℕ) (xs : List Ace) (place : ℕ) (places : List ℕ)
    → IsQueue k u b xs (place ∷ places) → has_bit (mask_here xs place) b ≡ false → IsQueue k u b xs places
queue_on k u b xs place places q none = record {
  sorted = sorted_tail nat_cmp place places q.sorted;
  within = λ i h. q.within i (or_right (is_at (nat_cmp i) place) (list_any (is_at (nat_cmp i)) places) h);
  listed = λ i h. q.listed i (or_right (is_at (nat_cmp i) place) (list_any (is_at (nat_cmp i)) places) h);
  all = λ i h. ⊎_elim (λ e. absurd (clash i h (is_eq_same i place e))) (λ e. e)
      (or_cases (is_at (nat_cmp i) place) (list_any (is_at (nat_cmp i)) places) (q.all i h));
}
  where
    clash : (i : ℕ) → waits k u b xs i ≡ true → i ≡ place → ⊥
    clash i h e =
        let has = waits_has k u b xs i h in
        let lacks : has_bit (mask_here xs i) b ≡ false = ap (λ v. has_bit (mask_here xs v) b) e ∙ none in
        cc

-- if the queue has no place, no place waits
pub queue_empty : (k : Kind) (u : Bool) (b : ℕ) (xs : List Ace) (i : ℕ) → IsQueue k u b xs []
    → waits_before k u b xs i ≡ false
queue_empty k u b xs i q = before_none k u b xs i (λ j l. false_from_ne_true _ (λ t. clash (q.all j t)))
  where
    clash : false ≡ true → ⊥
    clash e = cc

-- no place that waits is before the first place of a queue
pub queue_before : (k : Kind) (u : Bool) (b : ℕ) (xs : List Ace) (place : ℕ) (places : List ℕ) (i : ℕ)
    → IsQueue k u b xs (place ∷ places) → i ≤ place → waits_before k u b xs i ≡ false
queue_before k u b xs place places i q up =
    before_none k u b xs i (λ j l. false_from_ne_true _ (λ t. ⊎_elim (λ e. same j l (is_eq_same j place e))
    (λ e. later j l (later_than place j places (sorted_head nat_cmp place places q.sorted) e))
    (or_cases (is_at (nat_cmp j) place) (list_any (is_at (nat_cmp j)) places) (q.all j t))))
  where
    same : (j : ℕ) → j < i → j ≡ place → ⊥
    same j l e = omega (arith, l, e, up)

    later : (j : ℕ) → j < i → place ≤ j → ⊥
    later j l h = omega (arith, l, h, up)

-- the first place of a queue waits if it has the bit
pub queue_first : (k : Kind) (u : Bool) (b : ℕ) (xs : List Ace) (place : ℕ) (places : List ℕ)
    → IsQueue k u b xs (place ∷ places) → has_bit (mask_here xs place) b ≡ true → waits k u b xs place ≡ true
queue_first k u b xs place places q has =
    q.listed place (front_in place places)
    ∙ has

-- the first place of a queue is one of the list
pub queue_within : (k : Kind) (u : Bool) (b : ℕ) (xs : List Ace) (place : ℕ) (places : List ℕ)
    → IsQueue k u b xs (place ∷ places) → place < length xs
queue_within k u b xs place places q =
    q.within place (front_in place places)
