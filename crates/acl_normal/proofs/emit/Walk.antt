-- A walk over the places of a queue: those that wait before the first that is blocked are free.
use Rattle.acl_normal.proofs.Common.{Ace, Allow, Bool, ColumnKey, Deny, Enters, Grows, IsOnce, IsQueue, Kind, List, Marked, None, Option, Principal, Some, [], and_from, and_parts, ap, arith, cases_eq, column, eq-eqb, eqb-true, false, false_from_ne_true, first_at, has_bit, inl, inr, is_at, is_blocked, is_free, is_user, is_waiting, key_eq, key_here, length, list_any, mask_here, nat_cmp, not, or_cases, or_left, or_right, other_kind, refl, subst, suc, sym, true, waits, waits_before, zero, ℕ, ⊎_elim, ◌&&◌, ◌<◌, ◌==◌, ◌∙◌, ◌∷◌, ◌≡◌, ◌≤◌, ◌⊎◌}
use Rattle.std.specs.List.Sorted.{IsStrictlySortedBy}
use Rattle.std.proofs.lemmas.Map.Keys.{sorted_head, sorted_tail}
use Rattle.acl_normal.specs.internal.emit.Ready.{AddsMark}
use Rattle.acl_normal.proofs.unique.Names.{key_eq_itself, key_eq_same, kind_eq_itself}
use Rattle.acl_normal.proofs.rows.FreeByPlaces.{free_at_first, none_free}
use Rattle.acl_normal.proofs.rows.Slots.{is_eq_same, same_class_itself}
use Rattle.acl_normal.proofs.rows.WaitingKeys.{key_at, key_from_first}
use Rattle.acl_normal.proofs.rows.PlaceLists.{front_in, later_than}
use Rattle.acl_normal.proofs.rows.FirstAces.{waits_first}

-- if a place waits before another, one waits before each later place
pub before_mono : (k : Kind) (u : Bool) (b : ℕ) (xs : List Ace) (i l : ℕ) → i ≤ l → waits_before k u b xs i ≡ true
    → waits_before k u b xs l ≡ true
before_mono k u b [] i l h w = w
before_mono k u b (a ∷ xs) zero l h w = cc
before_mono k u b (a ∷ xs) (suc i) zero h w = absurd (omega arith)
before_mono k u b (a ∷ xs) (suc i) (suc l) h w =
    ⊎_elim (λ e. or_left (is_waiting k u b a) (waits_before k u b xs l) e)
    (λ e. or_right (is_waiting k u b a) (waits_before k u b xs l) (before_mono k u b xs i l (omega arith) e))
    (or_cases (is_waiting k u b a) (waits_before k u b xs i) w)

-- if a place is blocked, each later place is
pub blocked_mono : (k : Kind) (u : Bool) (b : ℕ) (xs : List Ace) (i l : ℕ) → i ≤ l → is_blocked k u b xs i ≡ true
    → is_blocked k u b xs l ≡ true
blocked_mono k u b xs i l h w =
    ⊎_elim
    (λ e. or_left (waits_before (other_kind k) false b xs l) (not u && waits_before (other_kind k) true b xs l)
    (before_mono (other_kind k) false b xs i l h e))
    (λ e. or_right (waits_before (other_kind k) false b xs l) (not u && waits_before (other_kind k) true b xs l)
    (both (and_parts (not u) (waits_before (other_kind k) true b xs i) e)))
    (or_cases (waits_before (other_kind k) false b xs i) (not u && waits_before (other_kind k) true b xs i) w)
  where
    both : (not u ≡ true) × (waits_before (other_kind k) true b xs i ≡ true)
        → (not u && waits_before (other_kind k) true b xs l) ≡ true
    both (e, f) =
        and_from (not u) (waits_before (other_kind k) true b xs l) e (before_mono (other_kind k) true b xs i l h f)

-- the key at a place that waits and is not blocked is free
pub clear_is_free : (k : Kind) (u : Bool) (b : ℕ) (xs : List Ace) (i : ℕ) → IsOnce (column xs b)
    → waits k u b xs i ≡ true → is_blocked k u b xs i ≡ false → is_free (column xs b) (key_here xs i) ≡ true
clear_is_free k u b xs i once w clear =
    let s = key_at k u b xs i once w in
    let free = free_at_first b (key_here xs i).0 xs k i once s.first in
    let is : is_free (column xs b) ((key_here xs i).0, k) ≡ true = free.0 ∙ rw (s.class, clear) refl in
    subst (λ v. is_free (column xs b) ((key_here xs i).0, v) ≡ true) (sym s.kind) is

-- a place that waits and is not blocked, whose key has the principal and the kind
pub record FreeAt (k : Kind) (u : Bool) (b : ℕ) (xs : List Ace) (q : Principal) : Type 0 where
  pub place : ℕ
  pub waits : waits k u b xs place ≡ true
  pub clear : is_blocked k u b xs place ≡ false
  pub plain_key : key_here xs place ≡ (q, k)

-- a free key is at a place that waits and is not blocked
pub free_at : (k : Kind) (u : Bool) (b : ℕ) (xs : List Ace) (q : Principal) → IsOnce (column xs b) → is_user q ≡ u
    → is_free (column xs b) (q, k) ≡ true → FreeAt k u b xs q
free_at k u b xs q once class free = go (first_at b q xs) refl
  where
    not_true : (t : Bool) → true ≡ not t → t ≡ false
    not_true true h = h
    not_true false h = refl

    at : (j : Kind) (i : ℕ) → first_at b q xs ≡ Some (j, i) → j ≡ k → FreeAt k u b xs q
    at j i e same =
        let here = subst (λ v. first_at b q xs ≡ Some (v, i)) same e in
        let value = free_at_first b q xs k i once here in
        record {
          place = i;
          waits = waits_first k u b q xs k i here ∙ rw (kind_eq_itself k, class) (same_class_itself u);
          clear = subst (λ v. is_blocked k v b xs i ≡ false) class (not_true _ (sym free ∙ value.0));
          plain_key = key_from_first b q xs k i here;
        }

    kinds : (j : Kind) → is_free (column xs b) (q, other_kind j) ≡ false → j ≡ k
    kinds j none = by j k none free
      where
        by : (j k : Kind) → is_free (column xs b) (q, other_kind j) ≡ false → is_free (column xs b) (q, k) ≡ true
            → j ≡ k
        by Deny Deny n f = refl
        by Allow Allow n f = refl
        by Deny Allow n f = cc
        by Allow Deny n f = cc

    go : (o : Option (Kind × ℕ)) → first_at b q xs ≡ o → FreeAt k u b xs q
    go None e = absurd (clash (none_free b q k xs e))
      where
        clash : is_free (column xs b) (q, k) ≡ false → ⊥
        clash h = cc
    go (Some (j, i)) e = at j i e (kinds j (free_at_first b q xs j i once e).1)

-- if the queue has no place, no key of its kind and class is free
pub nothing_waits : (k : Kind) (u : Bool) (b : ℕ) (xs : List Ace) (places : List ℕ) (old : Marked)
    → IsOnce (column xs b) → IsQueue k u b xs places → places ≡ [] → Enters k u b xs old old
nothing_waits k u b xs places old once queue e = record {
  grows = record { kept = λ l i h. h; sound = λ l i h. inl h };
  all = λ q class free. absurd (clash q (free_at k u b xs q once class free));
}
  where
    clash : (q : Principal) → FreeAt k u b xs q → ⊥
    clash q s =
        let there = ap (list_any (is_at (nat_cmp s.place))) (sym e) ∙ queue.all s.place s.waits in
        cc there

-- the walk over a queue: only free keys were marked, and each place that waits is in the rest or has its key marked
pub record Walks (k : Kind) (u : Bool) (b : ℕ) (xs : List Ace) (rest : List ℕ) (old new : Marked) : Type 0 where
  pub grows : Grows xs old new
  pub sorted : IsStrictlySortedBy nat_cmp rest
  pub within : (i : ℕ) → list_any (is_at (nat_cmp i)) rest ≡ true → i < length xs
  pub listed : (i : ℕ) → list_any (is_at (nat_cmp i)) rest ≡ true → waits k u b xs i ≡ has_bit (mask_here xs i) b
  pub covers : (i : ℕ) → waits k u b xs i ≡ true → list_any (is_at (nat_cmp i)) rest ≡ false
      → has_bit (new (key_here xs i)) b ≡ true

-- the place that the walk has reached is one of the list
pub head_within : (k : Kind) (u : Bool) (b : ℕ) (xs : List Ace) (i : ℕ) (all rest : List ℕ) (old new : Marked)
    → Walks k u b xs all old new → all ≡ i ∷ rest → i < length xs
head_within k u b xs i all rest old new w e = w.within i (ap (list_any (is_at (nat_cmp i))) e ∙ front_in i rest)

-- the place that the walk has reached waits if its mask has the bit
pub head_waits : (k : Kind) (u : Bool) (b : ℕ) (xs : List Ace) (i : ℕ) (all rest : List ℕ) (old new : Marked)
    → Walks k u b xs all old new → all ≡ i ∷ rest → has_bit (mask_here xs i) b ≡ true → waits k u b xs i ≡ true
head_waits k u b xs i all rest old new w e has =
    w.listed i (ap (list_any (is_at (nat_cmp i))) e ∙ front_in i rest) ∙ has

-- the place that the walk has reached is of the kind if its mask has the bit
pub head_kind : (k : Kind) (u : Bool) (b : ℕ) (xs : List Ace) (i : ℕ) (all rest : List ℕ) (old new : Marked)
    → IsOnce (column xs b) → Walks k u b xs all old new → all ≡ i ∷ rest → has_bit (mask_here xs i) b ≡ true
    → (key_here xs i).1 ≡ k
head_kind k u b xs i all rest old new once w e has =
    (key_at k u b xs i once (head_waits k u b xs i all rest old new w e has)).kind

-- the walk continues after a place whose mask lacks the bit
pub walk_past : (k : Kind) (u : Bool) (b : ℕ) (xs : List Ace) (i : ℕ) (all rest : List ℕ) (old new : Marked)
    → Walks k u b xs all old new → all ≡ i ∷ rest → has_bit (mask_here xs i) b ≡ false
    → Walks k u b xs rest old new
walk_past k u b xs i all rest old new before is lacks = go (subst (λ v. Walks k u b xs v old new) is before)
  where
    go : Walks k u b xs (i ∷ rest) old new → Walks k u b xs rest old new
    go w = record {
      grows = w.grows;
      sorted = sorted_tail nat_cmp i rest w.sorted;
      within = λ j h. w.within j (or_right (is_at (nat_cmp j) i) (list_any (is_at (nat_cmp j)) rest) h);
      listed = λ j h. w.listed j (or_right (is_at (nat_cmp j) i) (list_any (is_at (nat_cmp j)) rest) h);
      covers = λ j h gone. covers j h gone (cases_eq j i);
    }
      where
        none : waits k u b xs i ≡ false
        none = w.listed i (front_in i rest) ∙ lacks

        covers : (j : ℕ) → waits k u b xs j ≡ true → list_any (is_at (nat_cmp j)) rest ≡ false → (j ≡ i) ⊎ (j ≡ i → ⊥)
            → has_bit (new (key_here xs j)) b ≡ true
        covers j h gone (inl e) = absurd (clash (sym h ∙ ap (waits k u b xs) e ∙ none))
          where
            clash : true ≡ false → ⊥
            clash h = cc
        covers j h gone (inr n) =
            let apart : is_at (nat_cmp j) i ≡ false = false_from_ne_true _ (λ t. n (is_eq_same j i t)) in
            w.covers j h (rw (apart, gone) refl)

-- where a key waits at a place that nothing blocks, a mark that was added for it is at a free key
added_sound : (k : Kind) (u : Bool) (b : ℕ) (xs : List Ace) (i : ℕ) (old new : Marked) → IsOnce (column xs b)
    → Grows xs old new → waits k u b xs i ≡ true → is_blocked k u b xs i ≡ false → (l : ColumnKey) (c : ℕ)
    → (has_bit (new l) c ≡ true) ⊎ ((key_eq l (key_here xs i) && (c == b)) ≡ true)
    → (has_bit (old l) c ≡ true) ⊎ (is_free (column xs c) l ≡ true)
added_sound k u b xs i old new once grows here clear l c (inl h) = grows.sound l c h
added_sound k u b xs i old new once grows here clear l c (inr h) =
    let both = and_parts (key_eq l (key_here xs i)) (c == b) h in
    inr (rw (key_eq_same l (key_here xs i) both.0, eqb-true c b both.1)
    (clear_is_free k u b xs i once here clear))

-- the walk continues after a place that is not blocked, when its key was marked
pub walk_on : (k : Kind) (u : Bool) (b : ℕ) (xs : List Ace) (i : ℕ) (all rest : List ℕ) (old new more : Marked)
    → IsOnce (column xs b) → Walks k u b xs all old new → all ≡ i ∷ rest → is_blocked k u b xs i ≡ false
    → has_bit (mask_here xs i) b ≡ true → AddsMark (key_here xs i) b new more → Walks k u b xs rest old more
walk_on k u b xs i all rest old new more once before is clear has adds =
    go (subst (λ v. Walks k u b xs v old new) is before)
  where
    go : Walks k u b xs (i ∷ rest) old new → Walks k u b xs rest old more
    go w = record {
      grows = record {
        kept =
            λ l c h. adds.bits l c ∙ or_left (has_bit (new l) c)
            (key_eq l (key_here xs i) && (c == b)) (w.grows.kept l c h);
        sound =
            λ l c h. added_sound k u b xs i old new once w.grows (w.listed i (front_in i rest) ∙ has) clear l c
            (or_cases (has_bit (new l) c) (key_eq l (key_here xs i) && (c == b)) (sym (adds.bits l c) ∙ h));
      };
      sorted = sorted_tail nat_cmp i rest w.sorted;
      within = λ j h. w.within j (or_right (is_at (nat_cmp j) i) (list_any (is_at (nat_cmp j)) rest) h);
      listed = λ j h. w.listed j (or_right (is_at (nat_cmp j) i) (list_any (is_at (nat_cmp j)) rest) h);
      covers = λ j h gone. covers j h gone (cases_eq j i);
    }
      where
        covers : (j : ℕ) → waits k u b xs j ≡ true → list_any (is_at (nat_cmp j)) rest ≡ false → (j ≡ i) ⊎ (j ≡ i → ⊥)
            → has_bit (more (key_here xs j)) b ≡ true
        covers j h gone (inl e) =
            adds.bits (key_here xs j) b ∙ or_right (has_bit (new (key_here xs j)) b)
            (key_eq (key_here xs j) (key_here xs i) && (b == b))
            (and_from (key_eq (key_here xs j) (key_here xs i)) (b == b)
            (subst (λ v. key_eq (key_here xs j) (key_here xs v) ≡ true) e (key_eq_itself (key_here xs j)))
            (eq-eqb b b refl))
        covers j h gone (inr n) =
            let apart : is_at (nat_cmp j) i ≡ false = false_from_ne_true _ (λ t. n (is_eq_same j i t)) in
            let out : list_any (is_at (nat_cmp j)) (i ∷ rest) ≡ false = rw (apart, gone) refl in
            adds.bits (key_here xs j) b ∙ or_left (has_bit (new (key_here xs j)) b)
            (key_eq (key_here xs j) (key_here xs i) && (b == b)) (w.covers j h out)

-- when each place of the rest is blocked, all free keys of the kind and the class are marked
pub walk_ends : (k : Kind) (u : Bool) (b : ℕ) (xs : List Ace) (rest : List ℕ) (old new : Marked)
    → IsOnce (column xs b) → Walks k u b xs rest old new
    → ((i : ℕ) → list_any (is_at (nat_cmp i)) rest ≡ true → is_blocked k u b xs i ≡ true) → Enters k u b xs old new
walk_ends k u b xs rest old new once w blocked = record {
  grows = w.grows;
  all = λ q class free. found q (free_at k u b xs q once class free);
}
  where
    found : (q : Principal) → FreeAt k u b xs q → has_bit (new (q, k)) b ≡ true
    found q s =
        let out : list_any (is_at (nat_cmp s.place)) rest ≡ false =
        false_from_ne_true _ (λ t. absurd (clash (blocked s.place t))) in
        subst (λ v. has_bit (new v) b ≡ true) s.plain_key (w.covers s.place s.waits out)
      where
        clash : is_blocked k u b xs s.place ≡ true → ⊥
        clash h = cc (s.clear)

-- the walk ends at the first place that is blocked
pub walk_stops : (k : Kind) (u : Bool) (b : ℕ) (xs : List Ace) (i : ℕ) (all rest : List ℕ) (old new : Marked)
    → IsOnce (column xs b) → Walks k u b xs all old new → all ≡ i ∷ rest → is_blocked k u b xs i ≡ true
    → Enters k u b xs old new
walk_stops k u b xs i all rest old new once before is stop =
    walk_ends k u b xs (i ∷ rest) old new once w (λ l h. blocked_mono k u b xs i l (from l h) stop)
  where
    w : Walks k u b xs (i ∷ rest) old new
    w = subst (λ v. Walks k u b xs v old new) is before

    from : (l : ℕ) → list_any (is_at (nat_cmp l)) (i ∷ rest) ≡ true → i ≤ l
    from l h =
        ⊎_elim (λ e. here (is_eq_same l i e)) (λ e. later_than i l rest (sorted_head nat_cmp i rest w.sorted) e)
        (or_cases (is_at (nat_cmp l) i) (list_any (is_at (nat_cmp l)) rest) h)
      where
        here : l ≡ i → i ≤ l
        here e = omega (arith, e)

-- the walk ends after the last place
pub walk_done : (k : Kind) (u : Bool) (b : ℕ) (xs : List Ace) (all : List ℕ) (old new : Marked) → IsOnce (column xs b)
    → Walks k u b xs all old new → all ≡ [] → Enters k u b xs old new
walk_done k u b xs all old new once before is =
    walk_ends k u b xs [] old new once (subst (λ v. Walks k u b xs v old new) is before) (λ i h. cc)
