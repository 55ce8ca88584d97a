-- The needless bits dropped, from the last ACE to the first.
use Rattle.acl_normal.proofs.Common.{Ace, AceRef, Bool, Column, ColumnKey, HasOnceColumns, IsDifference, IsOnce, IsTidy, KeepsFirsts, Kind, List, Mask, None, Principal, Some, [], ace, ace_key, and_parts, ap, arith, column, counts, default, default_at, drop, false, first_at, first_kind, get_or-set_other, get_or-set_same, has_bit, has_bit-without, has_opposite, is_either, is_inherit_only, is_needed, is_user, kind_eq, length, length-set, mask_here, mask_numbers, needed_keys, not, other_kind, principal_eq, principal_here, principal_of, refl, same_class, slice_index_or, slice_set, subst, suc, sym, take_out, true, with_masks, without, without_bits, zero, ℕ, ⊎_elim, ◌&&◌, ◌<◌, ◌||◌, ◌∙◌, ◌∷◌, ◌≡◌}
use Rattle.std.proofs.lemmas.List.{drop-set-lt}
use Rattle.acl_normal.specs.declared.reduce.needless.Later.{Later}
use Rattle.acl_normal.specs.internal.Needed.{is_kept, is_of_kind_and_class, later_mask, opposes, some_of}
use Rattle.acl_normal.proofs.unique.Bits.{difference_is, masks_same}
use Rattle.acl_normal.proofs.unique.Columns.{column_first, column_has}
use Rattle.acl_normal.proofs.unique.Names.{principal_eq_same, principal_eq_turned}
use Rattle.acl_normal.proofs.unique.Normal.{counts_mask}
use Rattle.acl_normal.proofs.unique.Outline.{length_shown}
use Rattle.acl_normal.proofs.rows.ByPlace.{mask_there, masked, masked_at, masks_none, quiet_index}
use Rattle.acl_normal.proofs.rows.MaskNumbers.{bits_at, bits_length, bits_set}
use Rattle.acl_normal.proofs.rows.FirstPlaces.{first_by_place, first_here}
use Rattle.acl_normal.proofs.rows.Quiet.{tidy_taken}
use Rattle.acl_normal.proofs.rows.TakeOut.{first_gone, first_kept, take_absent, without_absent_bits}
use Rattle.acl_normal.proofs.rows.FirstAces.{IsHere, IsThere, first_cases, none_behind, once_rest}
use Rattle.acl_normal.proofs.rows.FreeByPlaces.{not_kind, overlap_by_class}

-- ---- what opposes a key

-- an opposite key of a column is the first one, or one of the rest, of others or of users
opposite_bools : (up uq k x y : Bool)
    → ((not (up && uq) && k) || (x || (not up && y)))
    ≡ (((k && same_class uq false) || x) || (not up && ((k && same_class uq true) || y)))
opposite_bools up uq k x y = grind arith

-- if a column lacks a principal, an opposite key is one of the other kind in a class that overlaps
pub opposite_is : (d : Kind) (p : Principal) (c : Column) → first_kind (is_either p p) c ≡ None
    → has_opposite d p c ≡ (some_of (other_kind d) false c || (not (is_user p) && some_of (other_kind d) true c))
opposite_is d p [] h = grind arith
opposite_is d p ((q, j) ∷ c) h = go (principal_eq q p) refl (opposite_is d p c)
  where
    go : (t : Bool) → principal_eq q p ≡ t
        → (first_kind (is_either p p) c ≡ None → has_opposite d p c
        ≡ (some_of (other_kind d) false c || (not (is_user p) && some_of (other_kind d) true c))) → has_opposite d p
        ((q, j) ∷ c) ≡ (some_of (other_kind d) false ((q, j) ∷ c)
        || (not (is_user p) && some_of (other_kind d) true ((q, j) ∷ c)))
    go true e ih = cc (rw e at h)
    go false e ih =
        rw (overlap_by_class p q (principal_eq_turned p q ∙ e), not_kind j d, ih (rw e at h))
        (opposite_bools (is_user p) (is_user q) (kind_eq j (other_kind d)) (some_of (other_kind d) false c)
        (some_of (other_kind d) true c))

-- if a column lacks a principal, what the masks say of a key is whether it is needed
kept_is : (d k : Kind) (p : Principal) (c : Column) (o : Bool) → first_kind (is_either p p) c ≡ None
    → o ≡ (some_of (other_kind k) false c || (not (is_user p) && some_of (other_kind k) true c))
    → is_kept d (p, k) o ≡ is_needed d p k c
kept_is d k p c o h is = grind (arith, opposite_is d p c h)

-- ---- one key more is dealt with

-- the bits of a mask for which the masks of later keys and of what everyone is allowed say that the key is not needed
abbrev pub AreNeedless : ℕ → Later → ColumnKey → ℕ → ℕ → Type 0
AreNeedless allowed l key mask m = (b : ℕ)
    → has_bit m b ≡ (has_bit mask b && not (is_kept (default_at allowed b) key (opposes l key b)))

-- the masks show which later keys there are
abbrev pub AreLater : Later → List Ace → Type 0
AreLater l xs = (k : Kind) (users : Bool) (b : ℕ) → has_bit (later_mask l k users) b ≡ some_of k users (column xs b)

-- masks of later keys, with the bits of one more key
abbrev pub IsWith : Later → ColumnKey → ℕ → Later → Type 0
IsWith l key mask l' = (k : Kind) (users : Bool) (b : ℕ) → has_bit (later_mask l' k users) b
    ≡ (has_bit (later_mask l k users) b || (is_of_kind_and_class k users key && has_bit mask b))

-- a bit is left where it counts and is needed
left_bools : (x p m k n : Bool) → (x && p) ≡ x → m ≡ (x && not k) → ((x && p) ≡ true → k ≡ n)
    → ((x && not m) && p) ≡ ((x && p) && n)
left_bools x p m k n e f g = grind arith

-- an ACE without its needless bits, before the needed keys after it, has the needed keys of both
needed_here : (b allowed : ℕ) (l : Later) (a : Ace) (m : ℕ) (tail back : List Ace)
    → (is_inherit_only a ≡ true → a.mask ≡ 0) → IsOnce (column (a ∷ back) b) → AreLater l back
    → AreNeedless allowed l (ace_key a) a.mask m
    → column tail b ≡ needed_keys (default_at allowed b) (column back b)
    → column (masked a (without a.mask m) ∷ tail) b ≡ needed_keys (default_at allowed b) (column (a ∷ back) b)
needed_here b allowed l a m tail back quiet once later needless ih =
    grind (
      arith,
      ih,
      left,
      column_first b (masked a (without a.mask m)) tail,
      column_first b a back,
    )
  where
    d : Kind
    d = default_at allowed b

    kept : counts b a ≡ true
        → is_kept d (ace_key a) (opposes l (ace_key a) b) ≡ is_needed d (principal_of a) a.kind (column back b)
    kept e =
        kept_is d a.kind (principal_of a) (column back b) (opposes l (ace_key a) b)
        (subst IsOnce (column_has b a back e) once).0
        (rw (later (other_kind a.kind) false b, later (other_kind a.kind) true b) refl)

    left : counts b (masked a (without a.mask m))
        ≡ (counts b a && is_needed d (principal_of a) a.kind (column back b))
    left =
        rw (has_bit-without a.mask m b)
        (left_bools (has_bit a.mask b) (not (is_inherit_only a)) (has_bit m b)
        (is_kept d (ace_key a) (opposes l (ace_key a) b)) (is_needed d (principal_of a) a.kind (column back b))
        (counts_mask b a quiet) (needless b) kept)

-- with the bits of an ACE, the masks show which keys there are from that ACE on
later_more : (l l' : Later) (a : Ace) (back : List Ace) → (is_inherit_only a ≡ true → a.mask ≡ 0)
    → AreLater l back → IsWith l (ace_key a) a.mask l' → AreLater l' (a ∷ back)
later_more l l' a back quiet later more k users b =
    more k users b ∙ grind (arith, later k users b, counts_mask b a quiet, column_first b a back)

-- ---- bits are cleared in one mask

-- the first ACE of a principal with a bit is the one in front, if its place is the first
first_in_front : (b : ℕ) (p : Principal) (a : Ace) (tail : List Ace)
    → (j : Kind) × (first_at b p (a ∷ tail) ≡ Some (j, 0)) → (j : Kind) × IsHere b p a j 0
first_in_front b p a tail (j, is) = (
  j,
  ⊎_elim (λ (t : IsHere b p a j 0). t) (λ (t : IsThere b p a tail j 0). absurd (omega (arith, t.place)))
      (first_cases b p a tail j 0 is),
)

-- the first ACE of a principal with a bit is behind the one in front, if its place is a later one
first_not_in_front : (b : ℕ) (p : Principal) (a : Ace) (tail : List Ace) (i : ℕ)
    → (j : Kind) × (first_at b p (a ∷ tail) ≡ Some (j, suc i)) → (j : Kind) × IsThere b p a tail j (suc i)
first_not_in_front b p a tail i (j, is) = (
  j,
  ⊎_elim (λ (t : IsHere b p a j (suc i)). absurd (omega (arith, t.place)))
      (λ (t : IsThere b p a tail j (suc i)). t) (first_cases b p a tail j (suc i) is),
)

-- to clear bits in the mask of an ACE takes them out of a principal, if the ACE is the first of it with each of them
front_cleared : (p : Principal) (m n : ℕ) (x : AceRef)
    → ((b : ℕ) → has_bit m b ≡ true → (j : Kind) × IsHere b p (masked (ace x) n) j 0)
    → masked (masked (ace x) n) (without n m) ≡ without_bits p m (masked (ace x) n)
front_cleared p m n x at_head = go (principal_eq (principal_of a) p && not (is_inherit_only a)) refl
  where
    a : Ace
    a = masked (ace x) n

    absent : (b : ℕ) (t : Bool) → has_bit m b ≡ t
        → (principal_eq (principal_of a) p && not (is_inherit_only a)) ≡ false
        → (has_bit n b && not (has_bit m b)) ≡ has_bit n b
    absent b true h e = let f = (at_head b h).1 in grind (arith, f.counts, f.same)
    absent b false h e = grind arith

    go : (t : Bool) → (principal_eq (principal_of a) p && not (is_inherit_only a)) ≡ t
        → masked a (without n m) ≡ without_bits p m a
    go true e = rw e refl
    go false e = rw e (ap (masked a) (masks_same _ _ (λ b. has_bit-without n m b ∙ absent b (has_bit m b) refl e)))

-- to clear bits in a mask takes them out of a principal, if the principal's first ACE with each is there
cleared_there : (p : Principal) (m : ℕ) (aces : List AceRef) (masks : List ℕ) (i : ℕ)
    → HasOnceColumns (with_masks aces masks)
    → ((b : ℕ) → has_bit m b ≡ true → (j : Kind) × (first_at b p (with_masks aces masks) ≡ Some (j, i)))
    → with_masks aces (slice_set masks i (without (slice_index_or masks i 0) m))
    ≡ take_out p m (with_masks aces masks)
cleared_there p m [] masks i once first = refl
cleared_there p m (x ∷ aces) [] i once first = refl
cleared_there p m (x ∷ aces) (n ∷ masks) zero once first =
    ap (λ v. v ∷ with_masks aces masks) (front_cleared p m n x at_head) ∙ ap (λ v. without_bits p m a ∷ v) (sym rest)
  where
    a : Ace
    a = masked (ace x) n

    tail : List Ace
    tail = with_masks aces masks

    at_head : (b : ℕ) → has_bit m b ≡ true → (j : Kind) × IsHere b p a j 0
    at_head b h = first_in_front b p a tail (first b h)

    rest : take_out p m tail ≡ tail
    rest = take_absent p m tail (λ b h. let f = at_head b h in none_behind b p a tail f.0 0 (once b) f.1)
cleared_there p m (x ∷ aces) (n ∷ masks) (suc i) once first =
    ap (λ v. v ∷ with_masks aces (slice_set masks i (without (slice_index_or masks i 0) m)))
    (sym (without_absent_bits p m a (λ b h. (behind b h).1.other)))
    ∙ ap (λ v. without_bits p m a ∷ v)
    (cleared_there p m aces masks i (λ b. once_rest b a tail (once b))
    (λ b h. let f = behind b h in
    let place : f.1.before ≡ i = omega (arith, f.1.place) in
    (f.0, f.1.first ∙ ap (λ v. Some (f.0, v)) place)))
  where
    a : Ace
    a = masked (ace x) n

    tail : List Ace
    tail = with_masks aces masks

    behind : (b : ℕ) → has_bit m b ≡ true → (j : Kind) × IsThere b p a tail j (suc i)
    behind b h = first_not_in_front b p a tail i (first b h)

-- to take bits of a principal out moves the first ACE of none
taken_firsts : (p : Principal) (m : ℕ) (xs : List Ace) → KeepsFirsts xs (take_out p m xs)
taken_firsts p m xs b q k i h = grind (arith, first_kept b p q m xs, first_gone b p m xs, principal_eq_same p q)

-- ---- the loop, from the last key to the first

-- the ACEs from a place on, with their masks
abbrev pub shown_from : List AceRef → List ℕ → ℕ → List Ace
shown_from aces masks i = with_masks (drop i aces) (drop i masks)

-- the ACEs from a place on are the one there with its mask, and those after it
shown_next : (aces : List AceRef) (masks : List ℕ) (i : ℕ) (x : AceRef) → i < length aces → length masks ≡ length aces
    → x ≡ slice_index_or aces i x
    → shown_from aces masks i ≡ masked (ace x) (slice_index_or masks i 0) ∷ shown_from aces masks (suc i)
shown_next [] masks i x l e is = absurd (omega (arith, l))
shown_next (y ∷ aces) [] i x l e is = absurd (omega (arith, e))
shown_next (y ∷ aces) (n ∷ masks) zero x l e is = ap (λ v. masked (ace v) n ∷ with_masks aces masks) (sym is)
shown_next (y ∷ aces) (n ∷ masks) (suc i) x l e is =
    shown_next aces masks i x (omega (arith, l)) (omega (arith, e)) is

-- the ACEs from a place on have each principal once, if the whole list has
once_from : (aces : List AceRef) (masks : List ℕ) (i b : ℕ) → IsOnce (column (with_masks aces masks) b)
    → IsOnce (column (shown_from aces masks i) b)
once_from aces masks zero b h = h
once_from [] masks (suc i) b h = tt
once_from (y ∷ aces) [] (suc i) b h = subst (λ v. IsOnce (column v b)) (sym (masks_none (drop i aces))) tt
once_from (y ∷ aces) (n ∷ masks) (suc i) b h =
    once_from aces masks i b (once_rest b (masked (ace y) n) (with_masks aces masks) h)

-- the keys from a place on are dealt with, and the masks before it are as they were given
pub record Drops (aces : List AceRef) (given masks : List ℕ) (i : ℕ) (l : Later) : Type 0 where
  pub front : (k : ℕ) → k < i → slice_index_or masks k 0 ≡ slice_index_or given k 0
  pub columns : (b : ℕ) → column (shown_from aces masks i) b
      ≡ needed_keys (default (column (with_masks aces given) b)) (column (shown_from aces given i) b)
  pub later : AreLater l (shown_from aces given i)

-- what the loop keeps, when the keys from a place on are dealt with
pub record Dropping (aces : List AceRef) (given masks : List ℕ) (place : ℕ) (l : Later) : Type 0 where
  pub drops : Drops aces given masks place l
  pub tidy : IsTidy (with_masks aces masks)
  pub firsts : KeepsFirsts (with_masks aces given) (with_masks aces masks)

-- what a turn knows: the ACE at the place, which of its bits are needless, and the masks of later keys with its own
pub record IsTurn (aces : List AceRef) (given masks : List ℕ) (place allowed m : ℕ) (x : AceRef) (l l' : Later)
    : Type 0 where
  pub within : place < length aces
  pub given_count : length given ≡ length aces
  pub count : length masks ≡ length aces
  pub is : x ≡ slice_index_or aces place x
  pub allowed_is : (b : ℕ) → default_at allowed b ≡ default (column (with_masks aces given) b)
  pub needless : AreNeedless allowed l (ace_key (ace x)) (slice_index_or masks place 0) m
  pub later : IsWith l (ace_key (ace x)) (slice_index_or masks place 0) l'

-- the masks with the bits cleared
abbrev pub clear_at : List ℕ → ℕ → ℕ → List ℕ
clear_at masks place m = slice_set masks place (without (slice_index_or masks place 0) m)

-- the ACE at a place of a tidy list takes part or has no bit
quiet_place : (aces : List AceRef) (masks : List ℕ) (place : ℕ) (x : AceRef) → IsTidy (with_masks aces masks)
    → place < length aces → length masks ≡ length aces → x ≡ slice_index_or aces place x
    → is_inherit_only (ace x) ≡ true → slice_index_or masks place 0 ≡ 0
quiet_place aces masks place x tidy within count is =
    quiet_index _ _ {a = masked (ace x) (slice_index_or masks place 0)} tidy.quiet
    (omega (arith, within, length_shown aces masks count)) (masked_at aces masks place x within count is)

-- when bits of a place are cleared, the ACEs from that place on are the one there with its new mask, and those after it
clear_shown : (aces : List AceRef) (masks : List ℕ) (place m : ℕ) (x : AceRef) → place < length aces
    → length masks ≡ length aces → x ≡ slice_index_or aces place x
    → shown_from aces (clear_at masks place m) place
    ≡ masked (ace x) (without (slice_index_or masks place 0) m) ∷ shown_from aces masks (suc place)
clear_shown aces masks place m x within count is =
    shown_next aces (clear_at masks place m) place x within (length-set masks place cleared ∙ count) is
    ∙ ap (λ v. masked (ace x) v ∷ shown_from aces (clear_at masks place m) (suc place))
    (get_or-set_same masks place cleared 0 (omega (arith, within, count)))
    ∙ ap (λ v. masked (ace x) cleared ∷ with_masks (drop (suc place) aces) v)
    (drop-set-lt (suc place) masks place cleared (omega arith))
  where
    cleared : ℕ
    cleared = without (slice_index_or masks place 0) m

-- when the needless bits of a place are cleared, the keys from that place on are dealt with
drops_more : (aces : List AceRef) (given masks : List ℕ) (place allowed m : ℕ) (x : AceRef) (l l' : Later)
    → IsTidy (with_masks aces given) → IsTidy (with_masks aces masks) → Drops aces given masks (suc place) l
    → IsTurn aces given masks place allowed m x l l' → Drops aces given (clear_at masks place m) place l'
drops_more aces given masks place allowed m x l l' whole tidy d t = record {
  front = λ k h. get_or-set_other masks place k cleared 0 (λ e. absurd (omega (arith, h, e)))
      ∙ d.front k (omega (arith, h));
  columns = λ b. ap (λ v. column v b) new_is
      ∙ subst (λ e. column (masked a cleared ∷ tail) b ≡ needed_keys e (column (a ∷ back) b)) (t.allowed_is b)
      (needed_here b allowed l a m tail back quiet
      (subst (λ v. IsOnce (column v b)) given_is (once_from aces given place b (whole.once b))) d.later t.needless
      (d.columns b ∙ ap (λ e. needed_keys e (column back b)) (sym (t.allowed_is b))))
      ∙ ap (λ v. needed_keys (default (column (with_masks aces given) b)) (column v b)) (sym given_is);
  later = subst (AreLater l') (sym given_is) (later_more l l' a back quiet d.later t.later);
}
  where
    a : Ace
    a = masked (ace x) (slice_index_or masks place 0)

    cleared : ℕ
    cleared = without (slice_index_or masks place 0) m

    tail : List Ace
    tail = shown_from aces masks (suc place)

    back : List Ace
    back = shown_from aces given (suc place)

    given_is : shown_from aces given place ≡ a ∷ back
    given_is =
        shown_next aces given place x t.within t.given_count t.is
        ∙ ap (λ v. masked (ace x) v ∷ back) (sym (d.front place (omega arith)))

    new_is : shown_from aces (clear_at masks place m) place ≡ masked a cleared ∷ tail
    new_is = clear_shown aces masks place m x t.within t.count t.is

    quiet : is_inherit_only a ≡ true → a.mask ≡ 0
    quiet = quiet_place aces masks place x tidy t.within t.count t.is

-- a turn keeps what the loop keeps
pub dropping_more : (aces : List AceRef) (given masks : List ℕ) (place allowed m : ℕ) (x : AceRef) (l l' : Later)
    → IsTidy (with_masks aces given) → Dropping aces given masks (suc place) l
    → IsTurn aces given masks place allowed m x l l' → Dropping aces given (clear_at masks place m) place l'
dropping_more aces given masks place allowed m x l l' whole d t = record {
  drops = drops_more aces given masks place allowed m x l l' whole d.tidy d.drops t;
  tidy = subst IsTidy (sym taken) (tidy_taken p m shown d.tidy);
  firsts = λ b q k i h. d.firsts b q k i (taken_firsts p m shown b q k i (ap (first_at b q) (sym taken) ∙ h));
}
  where
    shown : List Ace
    shown = with_masks aces masks

    p : Principal
    p = principal_here shown place

    inside : place < length shown
    inside = omega (arith, t.within, length_shown aces masks t.count)

    has : (b : ℕ) → has_bit m b ≡ true → has_bit (mask_here shown place) b ≡ true
    has b h = ap (λ v. has_bit v b) (sym (mask_there aces masks place 0 inside))
        ∙ (and_parts (has_bit (slice_index_or masks place 0) b) _ (sym (t.needless b) ∙ h)).0

    taken : with_masks aces (clear_at masks place m) ≡ take_out p m shown
    taken =
        cleared_there p m aces masks place d.tidy.once
        (λ b h. (
          _,
          first_by_place b p shown place (first_here b shown place (d.tidy.once b)
              d.tidy.quiet (has b h) inside),
        ))

-- a turn of the code, which holds masks, keeps what the loop keeps
pub dropping_turn : (aces : List AceRef) (given : List ℕ) (masks : List Mask) (place allowed : ℕ) (x : AceRef)
    (m dropped less : Mask) (l l' : Later) → IsTidy (with_masks aces given) → place < length aces
    → length given ≡ length aces → length masks ≡ length aces → x ≡ slice_index_or aces place x
    → m ≡ slice_index_or masks place m
    → ((b : ℕ) → default_at allowed b ≡ default (column (with_masks aces given) b))
    → AreNeedless allowed l (ace_key (ace x)) m.bits dropped.bits → IsWith l (ace_key (ace x)) m.bits l'
    → IsDifference m.bits dropped.bits less.bits → Dropping aces given (mask_numbers masks) (suc place) l
    → Dropping aces given (mask_numbers (slice_set masks place less)) place l'
dropping_turn aces given masks place allowed x m dropped less l l' tidy within given_count count is of_mask allowed_is
    needless later apart so =
    subst (λ v. Dropping aces given v place l') (sym new)
    (dropping_more aces given (mask_numbers masks) place allowed dropped.bits x l l' tidy so (record {
      within = within;
      given_count = given_count;
      count = bits_length masks ∙ count;
      is = is;
      allowed_is = allowed_is;
      needless = subst (λ n. AreNeedless allowed l (ace_key (ace x)) n dropped.bits) (sym at) needless;
      later = subst (λ n. IsWith l (ace_key (ace x)) n l') (sym at) later;
    }))
  where
    at : slice_index_or (mask_numbers masks) place 0 ≡ m.bits
    at = bits_at masks place 0 m (omega (arith, within, count)) of_mask

    new : mask_numbers (slice_set masks place less) ≡ clear_at (mask_numbers masks) place dropped.bits
    new =
        bits_set masks place less
        ∙ ap (slice_set (mask_numbers masks) place)
        (difference_is _ _ apart ∙ ap (λ v. without v dropped.bits) (sym at))

-- after the last turn each column has just its needed keys
pub dropping_end : (aces : List AceRef) (given masks : List ℕ) (l : Later) → Dropping aces given masks 0 l
    → (b : ℕ) → column (with_masks aces masks) b
    ≡ needed_keys (default (column (with_masks aces given) b)) (column (with_masks aces given) b)
dropping_end aces given masks l d b = d.drops.columns b
