-- One bit of a principal taken out of the rows.
use Rattle.acl_normal.proofs.Common.{Ace, IsOnce, and_parts, ap, arith, Bool, cases_eq, column, cond, false, false_from_ne_true, first_at, get_or-set_other, get_or-set_same, is_at, is_user, Kind, kind_eq, length, List, list_any, nat_cmp, ne_eqb, Principal, refl, same_class, slice_index_or, slice_set, slot_of, Some, sym, take_out, true, waits, ℕ, ⊎_elim, ◌&&◌, ◌<◌, ◌^◌, ◌∙◌, ◌≡◌, ◌≢◌, one_bit}
use Rattle.std.specs.Vec.{with_item}
use Rattle.std.specs.declared.collections.BTreeSet.{BTreeSet}
use Rattle.std.proofs.Common.{Global}
use Rattle.acl_normal.specs.declared.merged.MergedRows.TheInside.{Inside}
use Rattle.acl_normal.specs.internal.rows.Merged.{IsMerged}
use Rattle.acl_normal.specs.internal.rows.Waiting.{NoPlaces}
use Rattle.acl_normal.proofs.unique.Bits.{power_is}
use Rattle.acl_normal.proofs.rows.TakeOut.{waits_kept, waits_gone, waits_apart, none_taken, once_taken}
use Rattle.acl_normal.proofs.unique.Names.{kind_eq_same}
use Rattle.acl_normal.proofs.rows.Slots.{slot_below, slot_same, class_same, is_eq_itself, is_eq_same}
use Rattle.acl_normal.proofs.rows.FirstAces.{waits_first}

-- the new places are the old ones without one
abbrev pub Without : ℕ → List ℕ → List ℕ → Type 0
Without i old new =
    (q : ℕ) → list_any (is_at (nat_cmp q)) new ≡ cond (is_at (nat_cmp i) q) false (list_any (is_at (nat_cmp q)) old)

-- a place that was removed is not there any more
pub removed_here : (i : ℕ) (old new : List ℕ) → Without i old new → list_any (is_at (nat_cmp i)) new ≡ false
removed_here i old new h = h i ∙ rw (is_eq_itself i) refl

-- each other place is there as before
pub removed_apart : (i l : ℕ) (old new : List ℕ) → Without i old new → l ≢ i
    → list_any (is_at (nat_cmp l)) new ≡ list_any (is_at (nat_cmp l)) old
removed_apart i l old new h n =
    h l ∙ rw (false_from_ne_true (is_at (nat_cmp i) l) (λ t. n (sym (is_eq_same i l t)))) refl

-- without the place of the principal's ACE, the set of the bit has the places that still wait with it
set_without : (p : Principal) (b : ℕ) (xs : List Ace) (j : Kind) (i : ℕ) (old new : List ℕ) → IsOnce (column xs b)
    → first_at b p xs ≡ Some (j, i)
    → ((l : ℕ) → list_any (is_at (nat_cmp l)) old ≡ waits j (is_user p) b xs l) → Without i old new → (l : ℕ)
    → list_any (is_at (nat_cmp l)) new ≡ waits j (is_user p) b (take_out p (2 ^ b) xs) l
set_without p b xs j i old new once first was less l = ⊎_elim (λ e. here e) (λ n. there n) (cases_eq l i)
  where
    here : l ≡ i → list_any (is_at (nat_cmp l)) new ≡ waits j (is_user p) b (take_out p (2 ^ b) xs) l
    here e =
        rw e (removed_here i old new less ∙ sym (waits_gone j (is_user p) b p (2 ^ b) xs j i (one_bit b) first))

    there : (l ≡ i → ⊥) → list_any (is_at (nat_cmp l)) new ≡ waits j (is_user p) b (take_out p (2 ^ b) xs) l
    there n =
        removed_apart i l old new less n ∙ was l
        ∙ sym (waits_apart j (is_user p) b p xs j i l once first n)

-- in every other set the same places wait
waits_elsewhere : (p : Principal) (b : ℕ) (xs : List Ace) (j : Kind) (i : ℕ) → IsOnce (column xs b)
    → first_at b p xs ≡ Some (j, i) → (k : Kind) (u : Bool) (c l : ℕ)
    → (slot_of k u c ≡ slot_of j (is_user p) b → ⊥) → waits k u c (take_out p (2 ^ b) xs) l ≡ waits k u c xs l
waits_elsewhere p b xs j i once first k u c l n =
    ⊎_elim (λ e. same e) (λ m. waits_kept k u c p (2 ^ b) xs l (power_is b c ∙ ne_eqb c b m)) (cases_eq c b)
  where
    differs : c ≡ b → (kind_eq j k && same_class (is_user p) u) ≡ false
    differs e = false_from_ne_true _ (λ t. n (both (and_parts (kind_eq j k) (same_class (is_user p) u) t)))
      where
        both : (kind_eq j k ≡ true) × (same_class (is_user p) u ≡ true) → slot_of k u c ≡ slot_of j (is_user p) b
        both (f, g) = rw (← kind_eq_same j k f, ← class_same (is_user p) u g, e) refl

    same : c ≡ b → waits k u c (take_out p (2 ^ b) xs) l ≡ waits k u c xs l
    same e = rw e (⊎_elim (λ f. here f) (λ m. waits_apart k u b p xs j i l once first m) (cases_eq l i))
      where
        here : l ≡ i → waits k u b (take_out p (2 ^ b) xs) l ≡ waits k u b xs l
        here f =
            rw f (waits_gone k u b p (2 ^ b) xs j i (one_bit b) first
            ∙ sym (waits_first k u b p xs j i first ∙ differs e))

-- the sets of places are right without the bit
pub emit_right : (s : Inside) (p : Principal) (b : ℕ) (j : Kind) (i : ℕ) (set : BTreeSet ℕ Global) → IsMerged s → b < 21
    → first_at b p s.rest ≡ Some (j, i)
    → Without i (slice_index_or s.waiting.items (slot_of j (is_user p) b) NoPlaces).keys set.keys
    → IsMerged (record {
      rest = take_out p (2 ^ b) s.rest;
      waiting = with_item s.waiting (slot_of j (is_user p) b) set;
    })
emit_right s p b j i set right low first less = record {
  sets = right.sets;
  once = once_taken p (2 ^ b) s.rest right.once;
  rights = λ c h. none_taken p (2 ^ b) s.rest c (right.rights c h);
  waiting = λ k u c l h. ⊎_elim (λ e. here k u c l e) (λ n. there k u c l h n) (cases_eq (slot_of k u c) at);
}
  where
    at : ℕ
    at = slot_of j (is_user p) b

    at_below : at < length s.waiting.items
    at_below = omega (arith, slot_below j (is_user p) b low, right.sets, s.waiting.ok)

    here : (k : Kind) (u : Bool) (c l : ℕ) → slot_of k u c ≡ at
        → list_any (is_at (nat_cmp l)) (slice_index_or (slice_set s.waiting.items at set) (slot_of k u c)
        NoPlaces).keys ≡ waits k u c (take_out p (2 ^ b) s.rest) l
    here k u c l e =
        let parts = slot_same k j u (is_user p) c b e in
        ap (λ v. list_any (is_at (nat_cmp l)) (slice_index_or (slice_set s.waiting.items at set) v NoPlaces).keys) e
        ∙ ap (λ v. list_any (is_at (nat_cmp l)) v.keys) (get_or-set_same s.waiting.items at set NoPlaces at_below)
        ∙ set_without p b s.rest j i (slice_index_or s.waiting.items at NoPlaces).keys set.keys (right.once b) first
        (λ v. right.waiting j (is_user p) b v low) less l
        ∙ rw (← parts.0, ← parts.1, ← parts.2) refl

    there : (k : Kind) (u : Bool) (c l : ℕ) → c < 21 → (slot_of k u c ≡ at → ⊥)
        → list_any (is_at (nat_cmp l)) (slice_index_or (slice_set s.waiting.items at set) (slot_of k u c)
        NoPlaces).keys ≡ waits k u c (take_out p (2 ^ b) s.rest) l
    there k u c l h n =
        ap (λ v. list_any (is_at (nat_cmp l)) v.keys)
        (get_or-set_other s.waiting.items at (slot_of k u c) set NoPlaces n) ∙ right.waiting k u c l h
        ∙ sym (waits_elsewhere p b s.rest j i (right.once b) first k u c l n)
