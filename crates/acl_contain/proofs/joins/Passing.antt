-- The state of the pass over a list, one ACE after the other, and the ACEs with needed rights that it goes over.
use Rattle.acl_contain.proofs.joins.Between.{barred_behind, free_after}
use Rattle.acl_contain.proofs.joins.Ends.{no_join_added}
use Rattle.acl_contain.proofs.joins.Steps.{ends_joined, ends_pushed, join_step, push_step}
use Rattle.acl_contain.proofs.joins.Moved.{IsFreeOf}
use Rattle.acl_contain.specs.Tidied.{ace_at_place}
use Rattle.acl_contain.specs.internal.Joining.{AreEnds, AreJoined, AreEndsNoted, ArePrincipalNumbers, HasAdded, IsBarred, IsEnd, IsFreeBelow, IsPlain, has_key, key_slot, number_at_place}
use Rattle.acl_normal.proofs.Common.{Ace, AceRef, Bool, List, [], ace, ace_key, aces_in, aces_with, ap, append-nil, arith, column, drop, false, get_or-map, get_or_read, inl, inr, is_user, left, length, length-map, map-append, ne_eqb, principal_of, refl, slice_index_or, slice_set, subst, suc, sym, take, take_all, take_more, true, zero, ℕ, ⊎_elim, ◌*◌, ◌++◌, ◌+◌, ◌-◌, ◌<◌, ◌==◌, ◌∙◌, ◌∷◌, ◌≡◌, ◌≢◌, ◌≤◌, ◌⊎◌}
use Rattle.acl_normal.proofs.unique.Names.{key_eq_same}
use Rattle.acl_normal.specs.internal.emit.Rising.{all_cleared, cleared}
use Rattle.acl_perm.specs.declared.kind.Kind.{Kind}
use Rattle.acl_perm.specs.declared.kind.Kind.TheVariants.{Allow, Deny}
use Rattle.acl_perm.specs.declared.mask.Mask.{Mask}

-- the ACE of the code at a place is the one of the list there
pub shown_at : (aces : List AceRef) (i : ℕ) (x : AceRef) → i < length aces → x ≡ slice_index_or aces i x
    → ace x ≡ ace_at_place (aces_in aces) i
shown_at aces i x l is = ap ace is ∙ sym (get_or-map ace aces i x _ l)

-- the next ACE is joined into the one before an end
pub pass_joined : (list kept new : List Ace) (numbers keys rights noted : List ℕ) (place end : ℕ) (sum : Ace)
    → IsPlain list → AreJoined list place kept → AreEnds list numbers kept keys rights → place < length list
    → end ≡ number_at_place keys (key_slot (number_at_place numbers place) (ace_at_place list place).kind) → 0 < end
    → IsFreeBelow 21 rights (ace_at_place list place).mask (ace_at_place list place).kind
    (is_user (principal_of (ace_at_place list place))) end
    → HasAdded (ace_at_place kept (end - 1)) (ace_at_place list place).mask sum
    → AreEndsNoted 21 rights (ace_at_place list place).mask (ace_at_place list place).kind
    (is_user (principal_of (ace_at_place list place))) end noted
    → new ≡ slice_set kept (end - 1) sum
    → AreJoined list (place + 1) new × AreEnds list numbers new keys noted
pass_joined list kept new numbers keys rights noted place end sum plain joined ends lt is some free added notes so = (
  subst (AreJoined list (place + 1)) (sym so)
      (join_step list kept place plain joined lt (end - 1) sum inside key added
      (λ b has. subst (λ n. IsFreeOf (ace_key a) (column (drop n kept) b)) (sym next)
      (free_after list kept numbers keys rights place end plain joined ends lt free b has))),
  subst (λ v. AreEnds list numbers v keys noted) (sym so)
      (ends_joined list kept numbers keys rights noted (end - 1) sum a ends inside key added
      (subst (λ n. AreEndsNoted 21 rights a.mask a.kind (is_user (principal_of a)) n noted) (sym next) notes)),
)
  where
    a : Ace
    a = ace_at_place list place

    own : IsEnd (has_key a) kept end
    own = subst (IsEnd (has_key a) kept) (sym is) (ends.of_keys place lt)

    next : end - 1 + 1 ≡ end
    next = omega (arith, some)

    inside : end - 1 < length kept
    inside = omega (arith, some, own.within)

    key : ace_key (ace_at_place kept (end - 1)) ≡ ace_key a
    key = sym (key_eq_same (ace_key a) (ace_key (ace_at_place kept (end - 1))) (own.last (end - 1) (sym next)))

-- the next ACE is kept at the end
pub pass_pushed : (list kept new : List Ace) (count : ℕ) (numbers keys rights slots noted : List ℕ) (place end : ℕ)
    → IsPlain list → ArePrincipalNumbers list count numbers → AreJoined list place kept
    → AreEnds list numbers kept keys rights
    → place < length list → end ≡ number_at_place keys (key_slot (number_at_place numbers place) (ace_at_place list
    place).kind)
    → key_slot (number_at_place numbers place) (ace_at_place list place).kind < length keys
    → (end ≡ 0) ⊎ IsBarred rights (ace_at_place list place).mask (ace_at_place list place).kind
    (is_user (principal_of (ace_at_place list place))) end
    → new ≡ kept ++ ace_at_place list place ∷ []
    → slots ≡ slice_set keys (key_slot (number_at_place numbers place) (ace_at_place list place).kind) (length kept + 1)
    → AreEndsNoted 21 rights (ace_at_place list place).mask (ace_at_place list place).kind
    (is_user (principal_of (ace_at_place list place))) (length kept + 1) noted
    → AreJoined list (place + 1) new × AreEnds list numbers new slots noted
pass_pushed list kept new count numbers keys rights slots noted place end plain numbered joined ends lt is room barred
    so put notes = (
      subst (AreJoined list (place + 1)) (sym so)
          (push_step list kept place plain joined lt (no_join_added kept a joined.no_join
          (barred_behind list kept numbers keys rights place end a ends
          (subst (IsEnd (has_key a) kept) (sym is) (ends.of_keys place lt)) barred))),
      subst (λ v. AreEnds list numbers v slots noted) (sym so)
          (subst (λ v. AreEnds list numbers (kept ++ a ∷ []) v noted) (sym put)
          (ends_pushed list kept count numbers keys rights noted place numbered ends lt room notes)),
    )
  where
    a : Ace
    a = ace_at_place list place

-- ---- the ACEs with needed rights

-- two lists without their empty ACEs are both together without them
left_append : (xs ys : List Ace) → left (xs ++ ys) ≡ left xs ++ left ys
left_append [] ys = refl
left_append (a ∷ xs) ys = go (a.mask == 0) refl (left_append xs ys)
  where
    go : (t : Bool) → (a.mask == 0) ≡ t → left (xs ++ ys) ≡ left xs ++ left ys
        → left ((a ∷ xs) ++ ys) ≡ left (a ∷ xs) ++ left ys
    go true e rest = rw e rest
    go false e rest = rw e (ap (λ v. a ∷ v) rest)

-- the ACE at a place with the mask at the place
with_at : (aces : List AceRef) (masks : List Mask) (i : ℕ) (x : AceRef) (m : Mask) (d : Ace) → i < length aces
    → length masks ≡ length aces → x ≡ slice_index_or aces i x → m ≡ slice_index_or masks i m
    → slice_index_or (aces_with aces masks) i d ≡ record (ace x) { mask = m.bits }
with_at [] masks i x m d l same is its = absurd (omega (arith, l))
with_at (a ∷ aces) [] i x m d l same is its = absurd (omega (arith, same))
with_at (a ∷ aces) (n ∷ masks) zero x m d l same is its =
    λ t. record {
      kind = (sym is t).kind;
      flags = (sym is t).flags.bits;
      mask = (sym its t).bits;
      who = (sym is
          t).who.now;
    }
with_at (a ∷ aces) (n ∷ masks) (suc i) x m d l same is its =
    with_at aces masks i x m d (omega (arith, l)) (omega (arith, same)) is its

-- a list with masks is as long as the list
with_length : (aces : List AceRef) (masks : List Mask) → length masks ≡ length aces
    → length (aces_with aces masks) ≡ length aces
with_length [] masks same = refl
with_length (a ∷ aces) [] same = absurd (omega (arith, same))
with_length (a ∷ aces) (m ∷ masks) same = ap suc (with_length aces masks (omega (arith, same)))

-- the ACEs up to a place, with the one at the place
next_with : (aces : List AceRef) (masks : List Mask) (i : ℕ) (x : AceRef) (m : Mask) → i < length aces
    → length masks ≡ length aces → x ≡ slice_index_or aces i x → m ≡ slice_index_or masks i m
    → all_cleared (left (take (i + 1) (aces_with aces masks)))
    ≡ all_cleared (left (take i (aces_with aces masks)) ++ left (record (ace x) { mask = m.bits } ∷ []))
next_with aces masks i x m l same is its =
    ap (λ v. all_cleared (left v)) (take_more (aces_with aces masks) i (ace x) (omega (
      arith,
      l,
      with_length aces
          masks same,
    ))
    ∙ ap (λ (v : Ace). take i (aces_with aces masks) ++ v ∷ []) (with_at aces masks i x m (ace x) l same is its))
    ∙ ap all_cleared (left_append (take i (aces_with aces masks)) (record (ace x) { mask = m.bits } ∷ []))

-- an ACE with rights is the next one
pub next_taken : (aces : List AceRef) (masks : List Mask) (i : ℕ) (x y : AceRef) (m : Mask) (list : List Ace)
    → i < length aces → length masks ≡ length aces → x ≡ slice_index_or aces i x → m ≡ slice_index_or masks i m
    → m.bits ≢ 0 → ace y ≡ cleared (record (ace x) { mask = m.bits })
    → list ≡ all_cleared (left (take i (aces_with aces masks)))
    → list ++ ace y ∷ [] ≡ all_cleared (left (take (i + 1) (aces_with aces masks)))
next_taken aces masks i x y m list l same is its some own so =
    ap (λ v. list ++ v ∷ []) own
    ∙ ap (λ v. v ++ cleared z ∷ []) so
    ∙ sym (map-append cleared (left (take i (aces_with aces masks))) (z ∷ []))
    ∙ ap (λ v. all_cleared (left (take i (aces_with aces masks)) ++ v)) (sym one)
    ∙ sym (next_with aces masks i x m l same is its)
  where
    z : Ace
    z = record (ace x) { mask = m.bits }

    one : left (z ∷ []) ≡ z ∷ []
    one = rw (ne_eqb m.bits 0 some) refl

-- an ACE without rights is left out
pub next_passed : (aces : List AceRef) (masks : List Mask) (i : ℕ) (x : AceRef) (m : Mask) (list : List Ace)
    → i < length aces → length masks ≡ length aces → x ≡ slice_index_or aces i x → m ≡ slice_index_or masks i m
    → m.bits ≡ 0 → list ≡ all_cleared (left (take i (aces_with aces masks)))
    → list ≡ all_cleared (left (take (i + 1) (aces_with aces masks)))
next_passed aces masks i x m list l same is its none so =
    so ∙ ap all_cleared (sym (append-nil (left (take i (aces_with aces masks))))
    ∙ ap (λ v. left (take i (aces_with aces masks)) ++ v) (sym gone))
    ∙ sym (next_with aces masks i x m l same is its)
  where
    gone : left (record (ace x) { mask = m.bits } ∷ []) ≡ []
    gone = ap (λ n. left (record (ace x) { mask = n } ∷ [])) none

-- all ACEs
pub all_taken : (aces : List AceRef) (masks : List Mask) (i : ℕ) (list : List Ace) → length masks ≡ length aces
    → length aces ≤ i → list ≡ all_cleared (left (take i (aces_with aces masks)))
    → list ≡ all_cleared (left (aces_with aces masks))
all_taken aces masks i list same past so =
    so ∙ ap (λ v. all_cleared (left v)) (take_all i (aces_with aces masks) (omega (
      arith,
      past,
      with_length aces masks
          same,
    )))

-- ---- by what the code reads

-- what the code reads at the next place: its ACE, whether that is of a user, its number and slot, and the end there
pub record IsRead (list : List Ace) (numbers keys : List ℕ) (place : ℕ) (a : Ace) (users : Bool) (slot end : ℕ) :
    Type 0 where
  pub is_ace : a ≡ ace_at_place list place
  pub is_class : users ≡ is_user (principal_of a)
  pub is_slot : slot ≡ key_slot (number_at_place numbers place) a.kind
  pub is_end : end ≡ number_at_place keys slot

-- the slot is that of the next ACE
slot_read : (list : List Ace) (numbers keys : List ℕ) (place : ℕ) (a : Ace) (users : Bool) (slot end : ℕ)
    → IsRead list numbers keys place a users slot end
    → slot ≡ key_slot (number_at_place numbers place) (ace_at_place list place).kind
slot_read list numbers keys place a users slot end read =
    read.is_slot ∙ ap (λ (v : Ace). key_slot (number_at_place numbers place) v.kind) read.is_ace

-- what holds of the rights, kind and class that the code reads holds of those of the next ACE
of_next : (P : ℕ → Kind → Bool → Type 0) (list : List Ace) (numbers keys : List ℕ) (place : ℕ) (a : Ace) (users : Bool)
    (slot end : ℕ) → IsRead list numbers keys place a users slot end → P a.mask a.kind users
    → P (ace_at_place list place).mask (ace_at_place list place).kind (is_user (principal_of (ace_at_place list place)))
of_next P list numbers keys place a users slot end read h =
    subst (λ (v : Ace). P v.mask v.kind (is_user (principal_of v))) read.is_ace (subst (P a.mask a.kind) read.is_class
    h)

-- the ACE that the code reads is joined
pub read_joined : (list kept new : List Ace) (numbers keys rights noted : List ℕ) (place slot end : ℕ) (users : Bool)
    (a x sum : Ace) → IsRead list numbers keys place a users slot end
    → IsPlain list → AreJoined list place kept → AreEnds list numbers kept keys rights → place < length list
    → 0 < end → IsFreeBelow 21 rights a.mask a.kind users end → x ≡ ace_at_place kept (end - 1) → HasAdded x a.mask sum
    → AreEndsNoted 21 rights a.mask a.kind users end noted → new ≡ slice_set kept (end - 1) sum
    → AreJoined list (place + 1) new × AreEnds list numbers new keys noted
read_joined list kept new numbers keys rights noted place slot end users a x sum read plain joined ends lt some free
    own added notes so =
    pass_joined list kept new numbers keys rights noted place end sum plain joined ends lt
    (read.is_end ∙ ap (number_at_place keys) (slot_read list numbers keys place a users slot end read)) some
    (of_next (λ m k u. IsFreeBelow 21 rights m k u end) list numbers keys place a users slot end read free)
    (subst (λ v. HasAdded v (ace_at_place list place).mask sum) own (subst (λ (v : Ace). HasAdded x v.mask sum)
    read.is_ace
    added))
    (of_next (λ m k u. AreEndsNoted 21 rights m k u end noted) list numbers keys place a users slot end read notes) so

-- the ACE that the code reads is kept at the end
pub read_pushed : (list kept new : List Ace) (count : ℕ) (numbers keys rights slots noted : List ℕ)
    (place slot end last : ℕ) (users : Bool) (a : Ace) → IsRead list numbers keys place a users slot end
    → IsPlain list → ArePrincipalNumbers list count numbers → AreJoined list place kept
    → AreEnds list numbers kept keys rights
    → place < length list → slot < length keys → (end ≡ 0) ⊎ IsBarred rights a.mask a.kind users end
    → last ≡ length kept + 1 → new ≡ kept ++ a ∷ [] → slots ≡ slice_set keys slot last
    → AreEndsNoted 21 rights a.mask a.kind users last noted
    → AreJoined list (place + 1) new × AreEnds list numbers new slots noted
read_pushed list kept new count numbers keys rights slots noted place slot end last users a read plain numbered joined
    ends lt room barred count_is so put notes =
    pass_pushed list kept new count numbers keys rights slots noted place end plain numbered joined ends lt
    (read.is_end ∙ ap (number_at_place keys) at) (subst (λ n. n < length keys) at room)
    (⊎_elim (λ none. inl none) (λ h. inr (of_next (λ m k u. IsBarred rights m k u end) list numbers keys place a users
    slot end
    read h)) barred)
    (so ∙ ap (λ v. kept ++ v ∷ []) read.is_ace)
    (put ∙ (λ t. slice_set keys (at t) (count_is t)))
    (of_next (λ m k u. AreEndsNoted 21 rights m k u (length kept + 1) noted) list numbers keys place a users slot end
    read
    (subst (λ n. AreEndsNoted 21 rights a.mask a.kind users n noted) count_is notes))
  where
    at : slot ≡ key_slot (number_at_place numbers place) (ace_at_place list place).kind
    at = slot_read list numbers keys place a users slot end read

-- the slot of a key is within the table
pub slot_within : (n count : ℕ) (k : Kind) → n < count → key_slot n k < 2 * count
slot_within n count Allow l = omega (arith, l)
slot_within n count Deny l = omega (arith, l)

-- what the code reads at the next place, where the slot is within the table of keys
pub is_read : (aces : List AceRef) (count : ℕ) (numbers keys : List ℕ) (place : ℕ) (item : AceRef) (users : Bool)
    (number slot end : ℕ) → ArePrincipalNumbers (aces_in aces) count numbers → length keys ≡ 2 * count
    → place < length aces → item ≡ slice_index_or aces place item → users ≡ is_user (principal_of (ace item))
    → number ≡ slice_index_or numbers place number → slot ≡ key_slot number item.kind
    → end ≡ slice_index_or keys slot end
    → IsRead (aces_in aces) numbers keys place (ace item) users slot end × (slot < length keys)
is_read aces count numbers keys place item users number slot end numbered size lt at class num where_is end_is = (
  record {
    is_ace = shown_at aces place item lt at;
    is_class = class;
    is_slot = slot_is;
    is_end = get_or_read keys slot end room end_is 0;
  },
  room,
)
  where
    inside : place < length (aces_in aces)
    inside = omega (arith, lt, length-map aces ace)

    slot_is : slot ≡ key_slot (number_at_place numbers place) item.kind
    slot_is = where_is ∙ ap (λ n. key_slot n item.kind)
        (get_or_read numbers place number (omega (arith, inside, numbered.all)) num 0)

    room : slot < length keys
    room = omega (
      arith,
      slot_is,
      size,
      slot_within (number_at_place numbers place) count item.kind (numbered.within place inside),
    )
