-- One ACE more of a list is joined into an earlier one, or is kept at the end.
use Rattle.acl_contain.proofs.joins.Between.{stands}
use Rattle.acl_contain.proofs.joins.Columns.{IsJoinedColumn, join_in}
use Rattle.acl_contain.proofs.joins.Ends.{end_added, end_passed, end_raised, end_replaced, no_join_more, set_more}
use Rattle.acl_contain.proofs.joins.Moved.{IsFreeOf}
use Rattle.acl_contain.specs.Tidied.{HasNoJoin, ace_at_place}
use Rattle.acl_contain.specs.internal.Joining.{AreEnds, AreJoined, AreEndsNoted, ArePrincipalNumbers, HasAdded, IsEnd, IsKeptAce, IsPlain, has_key, is_standing, key_slot, number_at_place, right_slot}
use Rattle.acl_normal.proofs.Common.{Ace, AllByRecursion, Bool, ColumnKey, Deny, IsWithin, List, Situation, [], ace_key, add-one, and_parts, ap, append_assoc, arith, bit_at-zero, column, drop, drop_more, false, false_from_ne_true, false≢true, full, get_or-set_other, get_or-set_same, has_bit, has_bit-and, inl, inr, is_user, kind_eq, length, length-append, map, matches, max, or_cases, or_left, principal_of, refl, slice_set, subst, sym, take, true, unwrap_or, verdict, ℕ, ⊎_elim, ◌&&◌, ◌++◌, ◌+◌, ◌<◌, ◌==◌, ◌∙◌, ◌∷◌, ◌≡◌, ◌⊎◌, ◌||◌}
use Rattle.acl_normal.proofs.Each.{all_append, all_at, all_left, all_right, split_there}
use Rattle.acl_normal.proofs.unique.Bits.{no_bits}
use Rattle.acl_normal.proofs.unique.Columns.{column-append}
use Rattle.acl_normal.proofs.unique.FirstKind.{clique_of}
use Rattle.acl_normal.proofs.unique.Kept.{within_from}
use Rattle.acl_normal.proofs.unique.Names.{key_eq_itself, key_eq_same, kind_eq_same}
use Rattle.acl_normal.specs.Places.{same_class}
use Rattle.acl_normal.specs.internal.emit.Ready.{key_eq}
use Rattle.acl_perm.specs.declared.kind.Kind.{Kind}
use Rattle.acl_perm.specs.declared.kind.Kind.TheVariants.{Allow}
use Rattle.std.proofs.lemmas.List.{length-set, set_split}
use Rattle.std.specs.Prelude.{Contains}
use Rattle.acl_nfs4.specs.Who.{IsWho}
use Rattle.acl_normal.specs.Normal.{flags_for}

-- ---- the sum of two ACEs

-- an ACE with more rights names the same
sum_principal : (x sum : Ace) (mask : ℕ) → HasAdded x mask sum → principal_of sum ≡ principal_of x
sum_principal x sum mask h =
    λ i. principal_of (record { kind = Deny; flags = h.flags i; mask = 0; who = h.who i })

-- an ACE with more rights has the same key
pub sum_key : (x sum : Ace) (mask : ℕ) → HasAdded x mask sum → ace_key sum ≡ ace_key x
sum_key x sum mask h = λ i. (sum_principal x sum mask h i, h.kind i)

-- a bit of a set that is within another is one of the other
bits_within : (set n b : ℕ) → IsWithin set n → has_bit n b ≡ true → has_bit set b ≡ true
bits_within set n b is h =
    (and_parts (has_bit n b) (has_bit set b) (sym (has_bit-and n set b) ∙ ap (λ v. has_bit v b) is ∙ h)).1

-- the sum of two ACEs of one key is kept
sum_kept : (list : List Ace) (x sum a : Ace) → IsKeptAce list x → IsKeptAce list a → HasAdded x a.mask sum
    → IsKeptAce list sum
sum_kept list x sum a kx ka h = record {
  accepted = record {
    flags = subst (IsWithin full.flags) (sym h.flags) kx.accepted.flags;
    mask = within_from full.masks sum.mask (λ b has. ⊎_elim
        (λ first. bits_within full.masks x.mask b kx.accepted.mask first)
        (λ second. bits_within full.masks a.mask b ka.accepted.mask second)
        (or_cases (has_bit x.mask b) (has_bit a.mask b) (sym (h.rights b) ∙ has)));
    who = subst (λ w. IsWho w) (sym h.who) kx.accepted.who;
  };
  flags = h.flags ∙ kx.flags ∙ ap flags_for (sym (sum_principal x sum a.mask h));
  mask = λ none. kx.mask (no_bits x.mask (λ b. false_from_ne_true _ (λ has. false≢true
      (sym (ap (λ v. has_bit v b) none ∙ ap (λ v. v == 1) (bit_at-zero b))
      ∙ h.rights b ∙ or_left (has_bit x.mask b) (has_bit a.mask b) has))));
  of_list = subst (Contains (map ace_key list)) (sym (sum_key x sum a.mask h)) kx.of_list;
}

-- some situation
anyone : Situation
anyone = record { owner_name = []; owning_group = []; user_name = []; groups = [] }

-- ---- the next ACE is joined into an earlier one

-- for a list of which the ACEs before a place are joined
module _ (list kept : List Ace) (place : ℕ) (plain : IsPlain list) (joined : AreJoined list place kept)
    (lt : place < length list) where
  -- the next ACE
  abbrev pub next : Ace
  next = ace_at_place list place

  -- the ACEs after it
  abbrev pub rest : List Ace
  rest = drop (place + 1) list

  -- the next ACE is kept
  next_kept : IsKeptAce list next
  next_kept = all_at (IsKeptAce list) list place _ lt plain.each

  -- the next ACE and the rest
  next_first : drop place list ≡ next ∷ rest
  next_first = drop_more list place _ lt

  -- it is joined into the ACE at a place
  pub join_step : (j : ℕ) (sum : Ace) → j < length kept → ace_key (ace_at_place kept j) ≡ ace_key next
      → HasAdded (ace_at_place kept j) next.mask sum
      → ((b : ℕ) → has_bit next.mask b ≡ true → IsFreeOf (ace_key next) (column (drop (j + 1) kept) b))
      → AreJoined list (place + 1) (slice_set kept j sum)
  join_step j sum inside key added free = record {
    same = λ b s valid. joined.same b s valid ∙ ap (λ o. unwrap_or o Deny) (moved b s).finds;
    few = λ b. omega (arith, joined.few b, (moved b anyone).fewer);
    count = omega (arith, joined.count, length-set kept j sum);
    each = subst (AllByRecursion (IsKeptAce list)) (sym new)
        (all_append (IsKeptAce list) (take j kept) (sum ∷ after) (all_left (IsKeptAce list) (take j kept) (x ∷ after)
        each) (
          sum_kept list x sum next own next_kept added,
          (all_right (IsKeptAce list) (take j kept) (x ∷ after) each).1,
        ));
    no_join = no_join_more kept (slice_set kept j sum)
        (set_more kept j sum inside (sum_key x sum next.mask added)
        (λ b has. added.rights b ∙ or_left (has_bit x.mask b) (has_bit next.mask b) has)) joined.no_join;
  }
    where
      x : Ace
      x = ace_at_place kept j

      after : List Ace
      after = drop (j + 1) kept

      old : kept ≡ take j kept ++ x ∷ after
      old = split_there kept j _ inside

      new : slice_set kept j sum ≡ take j kept ++ sum ∷ after
      new = set_split kept j sum inside ∙ ap (λ n. take j kept ++ sum ∷ drop n kept) (sym (add-one j))

      own : IsKeptAce list x
      own = all_at (IsKeptAce list) kept j _ inside joined.each

      each : AllByRecursion (IsKeptAce list) (take j kept ++ x ∷ after)
      each = subst (AllByRecursion (IsKeptAce list)) old joined.each

      moved : (b : ℕ) (s : Situation) → IsJoinedColumn (matches s) (column kept b ++ column (drop place list) b)
          (column (slice_set kept j sum) b ++ column rest b)
      moved b s =
          subst (λ v. IsJoinedColumn (matches s) v (column (slice_set kept j sum) b ++ column rest b))
          (ap (λ v. column v b ++ column (next ∷ rest) b) (sym old)
          ∙ ap (λ v. column kept b ++ column v b) (sym next_first))
          (subst (λ v. IsJoinedColumn (matches s) (column (take j kept ++ x ∷ after) b ++ column (next ∷ rest) b)
          (column v b ++ column rest b)) (sym new)
          (join_in (matches s) b (take j kept) x sum next after rest (clique_of s) own.flags
          (sum_kept list x sum next own next_kept added).flags next_kept.flags key
          (sum_key x sum next.mask added ∙ key) (added.rights b) (free b)))

  -- it is kept at the end
  pub push_step : HasNoJoin (kept ++ next ∷ []) → AreJoined list (place + 1) (kept ++ next ∷ [])
  push_step none = record {
    same = λ b s valid. joined.same b s valid ∙ ap (verdict (matches s)) (sym (shown b));
    few = λ b. omega (arith, joined.few b, ap length (shown b));
    count = omega (arith, joined.count, length-append kept (next ∷ []));
    each = all_append (IsKeptAce list) kept (next ∷ []) joined.each (next_kept, tt);
    no_join = none;
  }
    where
      shown : (b : ℕ) → column (kept ++ next ∷ []) b ++ column rest b ≡ column kept b ++ column (drop place list) b
      shown b = ap (λ c. c ++ column rest b) (column-append b kept (next ∷ []))
          ∙ append_assoc (column kept b) (column (next ∷ []) b) (column rest b)
          ∙ ap (λ c. column kept b ++ c) (sym (column-append b (next ∷ []) rest))
          ∙ ap (λ v. column kept b ++ column v b) (sym next_first)

-- ---- the ends

-- slots of rights are different for different rights, kinds and classes
slot_parts : (b c : ℕ) (j k : Kind) (u v : Bool) → right_slot b j u ≡ right_slot c k v → (b ≡ c) × (j ≡ k) × (u ≡ v)
slot_parts b c j k u v e = by j k u v e
  where
    by : (j k : Kind) (u v : Bool) → right_slot b j u ≡ right_slot c k v → (b ≡ c) × (j ≡ k) × (u ≡ v)
    by Allow Allow true true e = (omega (arith, e), refl, refl)
    by Allow Allow true false e = absurd (omega (arith, e))
    by Allow Allow false true e = absurd (omega (arith, e))
    by Allow Allow false false e = (omega (arith, e), refl, refl)
    by Allow Deny true true e = absurd (omega (arith, e))
    by Allow Deny true false e = absurd (omega (arith, e))
    by Allow Deny false true e = absurd (omega (arith, e))
    by Allow Deny false false e = absurd (omega (arith, e))
    by Deny Allow true true e = absurd (omega (arith, e))
    by Deny Allow true false e = absurd (omega (arith, e))
    by Deny Allow false true e = absurd (omega (arith, e))
    by Deny Allow false false e = absurd (omega (arith, e))
    by Deny Deny true true e = (omega (arith, e), refl, refl)
    by Deny Deny true false e = absurd (omega (arith, e))
    by Deny Deny false true e = absurd (omega (arith, e))
    by Deny Deny false false e = (omega (arith, e), refl, refl)

-- slots of keys are different for different numbers and kinds
key_parts : (m n : ℕ) (j k : Kind) → key_slot m j ≡ key_slot n k → (m ≡ n) × (j ≡ k)
key_parts m n j k e = by j k e
  where
    by : (j k : Kind) → key_slot m j ≡ key_slot n k → (m ≡ n) × (j ≡ k)
    by Allow Allow e = (omega (arith, e), refl)
    by Allow Deny e = absurd (omega (arith, e))
    by Deny Allow e = absurd (omega (arith, e))
    by Deny Deny e = (omega (arith, e), refl)

-- the classes are the same
class_same : (u v : Bool) → same_class u v ≡ true → u ≡ v
class_same u v h = grind arith

-- the ends of the rights of an ACE that stands are noted, and the others are kept
noted_or_kept : (rights new : List ℕ) (a : Ace) (end b : ℕ) (kind : Kind) (users : Bool)
    → AreEndsNoted 21 rights a.mask a.kind (is_user (principal_of a)) end new → b < 21
    → ((is_standing b kind users a ≡ true) × (number_at_place new (right_slot b kind users)
    ≡ max (number_at_place rights (right_slot b kind users)) end))
    ⊎ ((is_standing b kind users a ≡ false)
    × (number_at_place new (right_slot b kind users) ≡ number_at_place rights (right_slot b kind users)))
noted_or_kept rights new a end b kind users noted small = go (is_standing b kind users a) refl
  where
    Goal : Type 0
    Goal = ((is_standing b kind users a ≡ true) × (number_at_place new (right_slot b kind users)
        ≡ max (number_at_place rights (right_slot b kind users)) end))
        ⊎ ((is_standing b kind users a ≡ false)
        × (number_at_place new (right_slot b kind users) ≡ number_at_place rights (right_slot b kind users)))

    go : (t : Bool) → is_standing b kind users a ≡ t → Goal
    go true e =
        let parts = and_parts (has_bit a.mask b) _ e in
        let more = and_parts (kind_eq a.kind kind) _ parts.1 in
        let slot : right_slot b a.kind (is_user (principal_of a)) ≡ right_slot b kind users =
        ap (λ k. right_slot b k (is_user (principal_of a))) (kind_eq_same a.kind kind more.0)
        ∙ ap (right_slot b kind) (class_same (is_user (principal_of a)) users more.1) in
        inl (
          e,
          subst (λ s. number_at_place new s ≡ max (number_at_place rights s) end) slot (noted.noted b small
              parts.0),
        )
    go false e = inr (
      e,
      noted.else_kept (right_slot b kind users) (λ c l has same.
          let parts = slot_parts b c kind a.kind users (is_user (principal_of a)) same in
          false≢true (sym e ∙ stands b kind users a (subst (λ v. has_bit a.mask v ≡ true) (sym parts.0) has)
          (sym parts.1) (sym parts.2))),
    )

-- the ends where an ACE is joined into one at a place
pub ends_joined : (list kept : List Ace) (numbers keys rights new : List ℕ) (j : ℕ) (sum a : Ace)
    → AreEnds list numbers kept keys rights → j < length kept → ace_key (ace_at_place kept j) ≡ ace_key a
    → HasAdded (ace_at_place kept j) a.mask sum
    → AreEndsNoted 21 rights a.mask a.kind (is_user (principal_of a)) (j + 1) new
    → AreEnds list numbers (slice_set kept j sum) keys new
ends_joined list kept numbers keys rights new j sum a ends inside key added noted = record {
  of_keys = λ i l. end_replaced (has_key (ace_at_place list i)) kept j sum _ inside
      (ap (key_eq (ace_key (ace_at_place list i))) (sum_key (ace_at_place kept j) sum a.mask added)) (ends.of_keys i l);
  of_rights = λ b small kind users. ⊎_elim
      (λ h. subst (IsEnd (is_standing b kind users) (slice_set kept j sum)) (sym h.1)
      (end_raised (is_standing b kind users) kept j sum _ inside (standing b kind users h.0)
      (ends.of_rights b small kind users)))
      (λ h. subst (IsEnd (is_standing b kind users) (slice_set kept j sum)) (sym h.1)
      (end_replaced (is_standing b kind users) kept j sum _ inside (alike b kind users h.0)
      (ends.of_rights b small kind users)))
      (noted_or_kept rights new a (j + 1) b kind users noted small);
}
  where
    x : Ace
    x = ace_at_place kept j

    test : Kind → Bool → ColumnKey → Bool
    test kind users k = kind_eq k.1 kind && same_class (is_user k.0) users

    shown : (b : ℕ) (kind : Kind) (users : Bool) → is_standing b kind users sum
        ≡ ((has_bit x.mask b || has_bit a.mask b) && test kind users (ace_key a))
    shown b kind users = ap (λ v. v && test kind users (ace_key sum)) (added.rights b)
        ∙ ap (λ k. (has_bit x.mask b || has_bit a.mask b) && test kind users k) (sum_key x sum a.mask added ∙ key)

    own : (b : ℕ) (kind : Kind) (users : Bool)
        → is_standing b kind users x ≡ (has_bit x.mask b && test kind users (ace_key a))
    own b kind users = ap (λ k. has_bit x.mask b && test kind users k) key

    both : (s t u : Bool) → (t && u) ≡ true → ((s || t) && u) ≡ true
    both s t u h = grind arith

    neither : (s t u : Bool) → (t && u) ≡ false → ((s || t) && u) ≡ (s && u)
    neither s t u h = grind arith

    standing : (b : ℕ) (kind : Kind) (users : Bool) → is_standing b kind users a ≡ true
        → is_standing b kind users sum ≡ true
    standing b kind users h = shown b kind users ∙ both (has_bit x.mask b) (has_bit a.mask b) _ h

    alike : (b : ℕ) (kind : Kind) (users : Bool) → is_standing b kind users a ≡ false
        → is_standing b kind users sum ≡ is_standing b kind users x
    alike b kind users h = shown b kind users ∙ neither (has_bit x.mask b) (has_bit a.mask b) _ h
        ∙ sym (own b kind users)

-- the ends where the ACE at a place is kept at the end
pub ends_pushed : (list kept : List Ace) (count : ℕ) (numbers keys rights new : List ℕ) (place : ℕ)
    → ArePrincipalNumbers list count numbers → AreEnds list numbers kept keys rights → place < length list
    → key_slot (number_at_place numbers place) (ace_at_place list place).kind < length keys
    → AreEndsNoted 21 rights (ace_at_place list place).mask (ace_at_place list place).kind
    (is_user (principal_of (ace_at_place list place))) (length kept + 1) new
    → AreEnds list numbers (kept ++ ace_at_place list place ∷ [])
    (slice_set keys (key_slot (number_at_place numbers place) (ace_at_place list place).kind) (length kept + 1)) new
ends_pushed list kept count numbers keys rights new place numbered ends lt room noted = record {
  of_keys = λ i l. at i l (has_key (ace_at_place list i) a) refl;
  of_rights = λ b small kind users. ⊎_elim
      (λ h. subst (IsEnd (is_standing b kind users) (kept ++ a ∷ []))
      (sym (h.1 ∙ greater b kind users small))
      (end_added (is_standing b kind users) kept a h.0))
      (λ h. subst (IsEnd (is_standing b kind users) (kept ++ a ∷ [])) (sym h.1)
      (end_passed (is_standing b kind users) kept a _ h.0 (ends.of_rights b small kind users)))
      (noted_or_kept rights new a (length kept + 1) b kind users noted small);
}
  where
    a : Ace
    a = ace_at_place list place

    slot : ℕ
    slot = key_slot (number_at_place numbers place) a.kind

    greater : (b : ℕ) (kind : Kind) (users : Bool) → b < 21
        → max (number_at_place rights (right_slot b kind users)) (length kept + 1) ≡ length kept + 1
    greater b kind users small = omega (arith, (ends.of_rights b small kind users).within)

    at : (i : ℕ) → i < length list → (t : Bool) → has_key (ace_at_place list i) a ≡ t
        → IsEnd (has_key (ace_at_place list i)) (kept ++ a ∷ [])
        (number_at_place (slice_set keys slot (length kept + 1)) (key_slot (number_at_place numbers i) (ace_at_place
        list i).kind))
    at i l true e =
        let same : ace_key (ace_at_place list i) ≡ ace_key a = key_eq_same (ace_key (ace_at_place list i)) (ace_key a)
        e in
        let numbers_same = numbered.alike i place l lt (ap (λ k. k.0) same) in
        let place_same : key_slot (number_at_place numbers i) (ace_at_place list i).kind ≡ slot =
        ap (λ n. key_slot n (ace_at_place list i).kind) numbers_same
        ∙ ap (λ (k : ColumnKey). key_slot (number_at_place numbers place) k.1) same in
        subst (IsEnd (has_key (ace_at_place list i)) (kept ++ a ∷ []))
        (sym (ap (number_at_place (slice_set keys slot (length kept + 1))) place_same
        ∙ get_or-set_same keys slot (length kept + 1) 0 room))
        (end_added (has_key (ace_at_place list i)) kept a e)
    at i l false e =
        let apart : key_slot (number_at_place numbers i) (ace_at_place list i).kind ≡ slot → ⊥ = λ same.
        let parts = key_parts (number_at_place numbers i) (number_at_place numbers place) (ace_at_place list i).kind
        a.kind same in
        false≢true (sym e ∙ subst (λ k. key_eq (ace_key (ace_at_place list i)) k ≡ true)
        (λ d. (numbered.same i place l lt parts.0 d, parts.1 d)) (key_eq_itself (ace_key (ace_at_place list i)))) in
        subst (IsEnd (has_key (ace_at_place list i)) (kept ++ a ∷ []))
        (sym (get_or-set_other keys slot (key_slot (number_at_place numbers i) (ace_at_place list i).kind) (length
        kept + 1) 0
        apart))
        (end_passed (has_key (ace_at_place list i)) kept a _ e (ends.of_keys i l))
