-- The ACL of a shape while it is made, entry by entry.
use Rattle.std.proofs.Common.{◌≡◌, ◌≤◌, ◌<◌, ◌+◌, ℕ, Bool, true, false, cond, List, [], ◌∷◌, Option, None, Some, refl, sym, ap, subst, ◌∙◌, arith, inl, inr, length, get_or, take}
use Rattle.std.proofs.lemmas.Bool.{eq-eqb, false≢true}
use Rattle.std.proofs.lemmas.List.{get_or-map, length-map, take_all}
use Rattle.std.proofs.lemmas.List.Folds.{list_any_at, list_any_more}
use Rattle.std.proofs.lemmas.Option.{same_Some}
use Rattle.std.specs.Prelude.{◌↔◌, ◌==◌, ◌||◌, IsTrue, bit_and, is_some, unwrap_or}
use Rattle.std.specs.Int.Bits.{and_self}
use Rattle.std.specs.Ordering.{eq_by_cmp}
use Rattle.std.specs.FinMap as fin
use Rattle.acl_perm.proofs.Bools.{or_swap}
use Rattle.acl_perm.specs.Bits.{IsPerm}
use Rattle.acl_perm.specs.Mode.{group_part, mode_of_parts, others_part, owner_part}
use Rattle.acl_posix.specs.Check.{entry_contains, ids, is_contained, is_member}
use Rattle.acl_posix.specs.Create.{of_mode}
use Rattle.acl_posix.specs.Entries.{Entries}
use Rattle.acl_posix.specs.Laws.{MaskLeavesAll, MaskStays}
use Rattle.acl_posix.specs.Mask.{effective_of, with_mask}
use Rattle.acl_posix.specs.Tag.{Tag, user_obj, user, group_obj, group, mask, other, is_masked, is_named, tag_cmp}
use Rattle.acl_posix.specs.Texts.{IsAcl}
use Rattle.acl_posix.specs.declared.id.Id.{Id}
use Rattle.acl_posix.specs.internal.TagCode.{tags_total}
use Rattle.acl_posix.proofs.Exports.{is_none, same_tag}
use Rattle.acl_nfs4.specs.Ace.{Ace}
use Rattle.acl_to_posix.specs.ToPosix.{AlwaysHas, IsBest, EntryShape, is_in_shape, size_of}
use Rattle.acl_to_posix.specs.internal.ShapeBody.{HasJust, HasThree, IsEntryPut, empty_shape}
use Rattle.acl_to_posix.proofs.TagRequesters.{is_eq-nat_cmp}

-- ---- what a set has after an entry is set

-- at each tag
inserted : (E F : Entries) (t : Tag) (n : ℕ) → F ≡ fin.insert E t n → (u : Tag)
    → fin.get F u ≡ cond (eq_by_cmp tag_cmp u t) (Some n) (fin.get E u)
inserted E F t n is u = ap (λ (G : Entries). fin.get G u) is ∙ fin.get-insert tags_total E t n u

-- at any other tag, what it had before
as_before : (E F : Entries) (t : Tag) (n : ℕ) → F ≡ fin.insert E t n → (u : Tag) → eq_by_cmp tag_cmp u t ≡ false
    → fin.get F u ≡ fin.get E u
as_before E F t n is u d = inserted E F t n is u ∙ ap (λ (b : Bool). cond b (Some n) (fin.get E u)) d

-- MASK is none of the entries of a shape
not_mask : (shape : EntryShape) (t : Tag) → is_in_shape shape t ≡ true → eq_by_cmp tag_cmp t mask ≡ false
not_mask shape user_obj h = refl
not_mask shape (user id) h = refl
not_mask shape group_obj h = refl
not_mask shape (group id) h = refl
not_mask shape mask h = absurd (false≢true h)
not_mask shape other h = refl

-- ---- the three entries

-- the owner's part of a mode of three parts is the first
owner_is : (a b c : ℕ) → a < 8 → b < 8 → c < 8 → owner_part (mode_of_parts a b c) ≡ a
owner_is a b c p q r = omega (arith, p, q, r)

-- its group's part is the second
group_is : (a b c : ℕ) → a < 8 → b < 8 → c < 8 → group_part (mode_of_parts a b c) ≡ b
group_is a b c p q r = omega (arith, p, q, r)

-- its others' part is the third
others_are : (a b c : ℕ) → a < 8 → b < 8 → c < 8 → others_part (mode_of_parts a b c) ≡ c
others_are a b c p q r = omega (arith, p, q, r)

-- the entry of a tag is what was found
found_is : (list : List Ace) (shape : EntryShape) (E : Entries) (t : Tag) (n p perm : ℕ) → fin.get E t ≡ Some n → n ≡ p
    → HasJust list shape t p → fin.get E t ≡ Some perm → HasJust list shape t perm
found_is list shape E t n p perm found is just at =
    subst (HasJust list shape t) (sym is ∙ same_Some n perm (sym found ∙ at)) just

-- the ACL of a mode has the entries that the mode was made of
pub three : (list : List Ace) (shape : EntryShape) (E : Entries) (mode a b c : ℕ) → E ≡ of_mode mode
    → mode ≡ mode_of_parts a b c → IsPerm a → IsPerm b → IsPerm c
    → HasJust list shape user_obj a → HasJust list shape group_obj b → HasJust list shape other c
    → HasThree list shape E
three list shape E mode a b c is made la lb lc owner class others =
    let ps : List (Tag × ℕ) =
    (user_obj, owner_part mode) ∷ (group_obj, group_part mode) ∷ (other, others_part mode) ∷ [] in
    let at = λ (t : Tag). ap (λ (F : Entries). fin.get F t) is ∙ fin.get-from_entries tags_total ps t in
    record { there = some at; just = just at }
  where
    ps : List (Tag × ℕ)
    ps = (user_obj, owner_part mode) ∷ (group_obj, group_part mode) ∷ (other, others_part mode) ∷ []

    some : ((t : Tag) → fin.get E t ≡ fin.find tag_cmp t ps) → (t : Tag)
        → fin.contains_key E t ≡ is_in_shape empty_shape t
    some at user_obj = ap (λ (o : Option ℕ). is_some o) (at user_obj)
    some at (user id) = ap (λ (o : Option ℕ). is_some o) (at (user id))
    some at group_obj = ap (λ (o : Option ℕ). is_some o) (at group_obj)
    some at (group id) = ap (λ (o : Option ℕ). is_some o) (at (group id))
    some at mask = ap (λ (o : Option ℕ). is_some o) (at mask)
    some at other = ap (λ (o : Option ℕ). is_some o) (at other)

    just : ((t : Tag) → fin.get E t ≡ fin.find tag_cmp t ps) → (t : Tag) (perm : ℕ) → is_in_shape empty_shape t ≡ true
        → fin.get E t ≡ Some perm → HasJust list shape t perm
    just at user_obj perm h e = found_is list shape E user_obj (owner_part mode) a perm (at user_obj)
        (ap owner_part made ∙ owner_is a b c la lb lc) owner e
    just at (user id) perm h e = absurd (false≢true h)
    just at group_obj perm h e = found_is list shape E group_obj (group_part mode) b perm (at group_obj)
        (ap group_part made ∙ group_is a b c la lb lc) class e
    just at (group id) perm h e = absurd (false≢true h)
    just at mask perm h e = absurd (false≢true h)
    just at other perm h e = found_is list shape E other (others_part mode) c perm (at other)
        (ap others_part made ∙ others_are a b c la lb lc) others e

-- ---- one more entry

-- the first MASK
pub first_mask : (list : List Ace) (shape : EntryShape) (E F : Entries) → HasThree list shape E → F ≡ with_mask E
    → IsEntryPut list shape empty_shape F
first_mask list shape E F h is = record {
  there = λ t d. ap (λ (o : Option ℕ). is_some o) (as_before E F mask _ is t d) ∙ h.there t;
  just = λ t perm in_shape at. h.just t perm in_shape
      (sym (as_before E F mask _ is t (not_mask empty_shape t in_shape)) ∙ at);
  masked = ap (λ (o : Option ℕ). is_some o) (inserted E F mask _ is mask);
}

-- an entry of a user or a group
put_more : (list : List Ace) (shape done more : EntryShape) (t : Tag) (perm : ℕ) (E F : Entries)
    → eq_by_cmp tag_cmp mask t ≡ false → IsEntryPut list shape done E → HasJust list shape t perm
    → F ≡ fin.insert E t perm
    → ((u : Tag) → is_in_shape more u ≡ (eq_by_cmp tag_cmp u t || is_in_shape done u))
    → IsEntryPut list shape more F
put_more list shape done more t perm E F apart filled held is grows = record {
  there = λ u d. there u d (eq_by_cmp tag_cmp u t) refl;
  just = λ u p in_shape at. just u p (eq_by_cmp tag_cmp u t) refl (sym (grows u) ∙ in_shape)
      (sym (inserted E F t perm is u) ∙ at);
  masked = ap (λ (o : Option ℕ). is_some o) (as_before E F t perm is mask apart) ∙ filled.masked;
}
  where
    there : (u : Tag) → eq_by_cmp tag_cmp u mask ≡ false → (b : Bool) → eq_by_cmp tag_cmp u t ≡ b
        → fin.contains_key F u ≡ is_in_shape more u
    there u d true e = ap (λ (o : Option ℕ). is_some o) (inserted E F t perm is u
        ∙ ap (λ (b : Bool). cond b (Some perm) (fin.get E u)) e)
        ∙ sym (grows u ∙ ap (λ (b : Bool). b || is_in_shape done u) e)
    there u d false e = ap (λ (o : Option ℕ). is_some o) (as_before E F t perm is u e) ∙ filled.there u d
        ∙ sym (grows u ∙ ap (λ (b : Bool). b || is_in_shape done u) e)

    just : (u : Tag) (p : ℕ) (b : Bool) → eq_by_cmp tag_cmp u t ≡ b
        → (eq_by_cmp tag_cmp u t || is_in_shape done u) ≡ true
        → cond (eq_by_cmp tag_cmp u t) (Some perm) (fin.get E u) ≡ Some p → HasJust list shape u p
    just u p true e h at = subst (λ (v : Tag). HasJust list shape v p) (sym (same_tag u t e))
        (subst (HasJust list shape t)
        (same_Some perm p (sym (ap (λ (b : Bool). cond b (Some perm) (fin.get E u)) e) ∙ at)) held)
    just u p false e h at = filled.just u p (sym (ap (λ (b : Bool). b || is_in_shape done u) e) ∙ h)
        (sym (ap (λ (b : Bool). cond b (Some perm) (fin.get E u)) e) ∙ at)

-- the shape of the users that are done grows by one
more_users : (users groups : List ℕ) (i id : ℕ) → i < length users → get_or users i 0 ≡ id → (u : Tag)
    → is_in_shape (record { users = take (i + 1) users; groups = groups }) u
    ≡ (eq_by_cmp tag_cmp u (user id) || is_in_shape (record { users = take i users; groups = groups }) u)
more_users users groups i id lt at user_obj = refl
more_users users groups i id lt at (user w) =
    list_any_more (λ x. x == w) users i 0 lt ∙ or_swap (is_member w (take i users)) (get_or users i 0 == w)
    ∙ ap (λ (b : Bool). b || is_member w (take i users)) (ap (λ (x : ℕ). x == w) at ∙ sym (is_eq-nat_cmp w id))
more_users users groups i id lt at group_obj = refl
more_users users groups i id lt at (group w) = refl
more_users users groups i id lt at mask = refl
more_users users groups i id lt at other = refl

-- so does that of the groups
more_groups : (users groups : List ℕ) (i id : ℕ) → i < length groups → get_or groups i 0 ≡ id → (u : Tag)
    → is_in_shape (record { users = users; groups = take (i + 1) groups }) u
    ≡ (eq_by_cmp tag_cmp u (group id) || is_in_shape (record { users = users; groups = take i groups }) u)
more_groups users groups i id lt at user_obj = refl
more_groups users groups i id lt at (user w) = refl
more_groups users groups i id lt at group_obj = refl
more_groups users groups i id lt at (group w) =
    list_any_more (λ x. x == w) groups i 0 lt ∙ or_swap (is_member w (take i groups)) (get_or groups i 0 == w)
    ∙ ap (λ (b : Bool). b || is_member w (take i groups)) (ap (λ (x : ℕ). x == w) at ∙ sym (is_eq-nat_cmp w id))
more_groups users groups i id lt at mask = refl
more_groups users groups i id lt at other = refl

-- the id at a place
pub id_at : (list : List Id) (i : ℕ) (id : Id) → i < length list → id ≡ get_or list i id
    → get_or (ids list) i 0 ≡ id.value
id_at list i id lt at = get_or-map (λ (x : Id). x.value) list i id 0 lt ∙ ap (λ (x : Id). x.value) (sym at)

-- there are as many numbers
pub length-ids : (list : List Id) → length (ids list) ≡ length list
length-ids list = length-map list (λ (x : Id). x.value)

-- an id of the code is one of the numbers
pub member_at : (list : List Id) (i : ℕ) (id : Id) → i < length list → id ≡ get_or list i id
    → is_member id.value (ids list) ≡ true
member_at list i id lt at = list_any_at (λ x. x == id.value) (ids list) i 0 (omega (arith, lt, length-ids list))
    (eq-eqb _ _ (id_at list i id lt at))

-- the entry of the next user
pub user_put : (aces : List Ace) (shape : EntryShape) (list : List Id) (i : ℕ) (id : Id) (perm : ℕ) (E F : Entries)
    → i < length list → id ≡ get_or list i id → HasJust aces shape (user id.value) perm
    → F ≡ fin.insert E (user id.value) perm
    → IsEntryPut aces shape (record { users = take i (ids list); groups = [] }) E
    → IsEntryPut aces shape (record { users = take (i + 1) (ids list); groups = [] }) F
user_put aces shape list i id perm E F lt at held is filled =
    put_more aces shape (record { users = take i (ids list); groups = [] })
    (record { users = take (i + 1) (ids list); groups = [] }) (user id.value) perm E F refl filled held is
    (more_users (ids list) [] i id.value (omega (arith, lt, length-ids list)) (id_at list i id lt at))

-- the entry of the next group
pub group_put : (aces : List Ace) (shape : EntryShape) (users : List ℕ) (list : List Id) (i : ℕ) (id : Id) (perm : ℕ)
    (E F : Entries) → i < length list → id ≡ get_or list i id → HasJust aces shape (group id.value) perm
    → F ≡ fin.insert E (group id.value) perm
    → IsEntryPut aces shape (record { users = users; groups = take i (ids list) }) E
    → IsEntryPut aces shape (record { users = users; groups = take (i + 1) (ids list) }) F
group_put aces shape users list i id perm E F lt at held is filled =
    put_more aces shape (record { users = users; groups = take i (ids list) })
    (record { users = users; groups = take (i + 1) (ids list) }) (group id.value) perm E F refl filled held is
    (more_groups users (ids list) i id.value (omega (arith, lt, length-ids list)) (id_at list i id lt at))

-- all users
pub users_done : (aces : List Ace) (shape : EntryShape) (list : List Id) (i : ℕ) (E : Entries) → length list ≤ i
    → IsEntryPut aces shape (record { users = take i (ids list); groups = [] }) E
    → IsEntryPut aces shape (record { users = ids list; groups = [] }) E
users_done aces shape list i E le filled =
    subst (λ (xs : List ℕ). IsEntryPut aces shape (record { users = xs; groups = [] }) E)
    (take_all i (ids list) (omega (arith, le, length-ids list))) filled

-- all groups
pub groups_done : (aces : List Ace) (shape : EntryShape) (users : List ℕ) (list : List Id) (i : ℕ) (E : Entries)
    → length list ≤ i → IsEntryPut aces shape (record { users = users; groups = take i (ids list) }) E
    → IsEntryPut aces shape (record { users = users; groups = ids list }) E
groups_done aces shape users list i E le filled =
    subst (λ (xs : List ℕ). IsEntryPut aces shape (record { users = users; groups = xs }) E)
    (take_all i (ids list) (omega (arith, le, length-ids list))) filled

-- ---- the whole ACL

-- each entry of the shape has what the list grants wherever the check looks at it
each_is : (list : List Ace) (shape : EntryShape) (E : Entries) (t : Tag) → fin.contains_key E t ≡ true
    → ((perm : ℕ) → fin.get E t ≡ Some perm → HasJust list shape t perm) → (want : ℕ) → IsPerm want
    → IsTrue (entry_contains E t want) ↔ AlwaysHas list shape t want
each_is list shape E t there just want few = by (fin.get E t) refl there
  where
    by : (o : Option ℕ) → fin.get E t ≡ o → is_some o ≡ true
        → IsTrue (entry_contains E t want) ↔ AlwaysHas list shape t want
    by None e h = absurd (false≢true h)
    by (Some p) e h = subst (λ (o : Option ℕ). IsTrue (is_contained o want) ↔ AlwaysHas list shape t want) (sym e)
        (just p e want few)

-- an ACL of the shape after MASK is calculated
pub finished : (list : List Ace) (shape : EntryShape) (E F : Entries) → 0 < size_of shape
    → IsEntryPut list shape shape E → F ≡ with_mask E → MaskLeavesAll → MaskStays → IsAcl F → IsBest list shape F
finished list shape E F some filled is leaves stays acl = record {
  valid = acl;
  shaped = record {
    users = λ id. ap (λ (o : Option ℕ). is_some o) (as_before E F mask _ is (user id) refl)
        ∙ filled.there (user id) refl;
    groups = λ id. ap (λ (o : Option ℕ). is_some o) (as_before E F mask _ is (group id) refl)
        ∙ filled.there (group id) refl;
  };
  each = λ t in_shape want few.
      let same = as_before E F mask _ is t (not_mask shape t in_shape) in
      each_is list shape F t
      (ap (λ (o : Option ℕ). is_some o) same ∙ (filled.there t (not_mask shape t in_shape) ∙ in_shape))
      (λ perm at. filled.just t perm in_shape (sym same ∙ at)) want few;
  mask = inr (some, ap with_mask is ∙ stays E ∙ sym is);
  kept = λ entry at. subst (λ (G : Entries). effective_of G entry ≡ entry.1) (sym is)
      (leaves E entry (ap (λ (G : Entries). fin.get G entry.0) (sym is) ∙ at));
}

-- a shape of no users and no groups has no users
empty_users : (shape : EntryShape) → size_of shape ≤ 0 → shape.users ≡ []
empty_users shape small = by shape.users small
  where
    by : (xs : List ℕ) → length xs + length shape.groups ≤ 0 → xs ≡ []
    by [] h = refl
    by (x ∷ xs) h = absurd (omega (arith, h))

-- and no groups
empty_groups : (shape : EntryShape) → size_of shape ≤ 0 → shape.groups ≡ []
empty_groups shape small = by shape.groups small
  where
    by : (xs : List ℕ) → length shape.users + length xs ≤ 0 → xs ≡ []
    by [] h = refl
    by (x ∷ xs) h = absurd (omega (arith, h))

-- is in a shape without names
in_none : (shape : EntryShape) (t : Tag) → size_of shape ≤ 0 → is_in_shape shape t ≡ is_in_shape empty_shape t
in_none shape user_obj small = refl
in_none shape (user id) small = ap (is_member id) (empty_users shape small)
in_none shape group_obj small = refl
in_none shape (group id) small = ap (is_member id) (empty_groups shape small)
in_none shape mask small = refl
in_none shape other small = refl

-- so it has no user and no group
pub none_named : (shape : EntryShape) (t : Tag) → size_of shape ≡ 0 → is_named t ≡ true → is_in_shape shape t ≡ false
none_named shape (user id) none named = in_none shape (user id) (omega (arith, none))
none_named shape (group id) none named = in_none shape (group id) (omega (arith, none))
none_named shape user_obj none named = absurd (false≢true named)
none_named shape group_obj none named = absurd (false≢true named)
none_named shape mask none named = absurd (false≢true named)
none_named shape other none named = absurd (false≢true named)

-- without MASK an entry has its own permissions
all_kept : (o : Option ℕ) (t : Tag) (p : ℕ) → o ≡ None → cond (is_masked t) (bit_and p (unwrap_or o p)) p ≡ p
all_kept o t p e = rw e (by (is_masked t))
  where
    by : (b : Bool) → cond b (bit_and p p) p ≡ p
    by true = and_self p
    by false = refl

-- the three entries are the ACL of a shape without names
pub three_best : (list : List Ace) (shape : EntryShape) (E : Entries) → HasThree list shape E → size_of shape ≤ 0
    → IsAcl E → IsBest list shape E
three_best list shape E h small acl =
    let none : fin.get E mask ≡ None = is_none (fin.get E mask) (h.there mask) in
    record {
      valid = acl;
      shaped = record {
        users = λ id. h.there (user id) ∙ sym (in_none shape (user id) small);
        groups = λ id. h.there (group id) ∙ sym (in_none shape (group id) small);
      };
      each = λ t in_shape want few.
          let there : is_in_shape empty_shape t ≡ true = sym (in_none shape t small) ∙ in_shape in
          each_is list shape E t (h.there t ∙ there) (λ perm at. h.just t perm there at) want few;
      mask = inl (omega (arith, small), none);
      kept = λ entry at. all_kept (fin.get E mask) entry.0 entry.1 none;
    }
