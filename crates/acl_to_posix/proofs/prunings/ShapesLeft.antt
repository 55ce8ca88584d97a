-- The users and groups of the entries that are left, and those that are left without one of them.
use Rattle.std.proofs.Common.{◌≡◌, ◌<◌, ℕ, Bool, true, false, cond, List, [], ◌∷◌, None, Some, refl, sym, ap, subst, ◌∙◌, arith, inl, inr, length}
use Rattle.std.proofs.lemmas.Bool.{false≢true, true≢false, or_cases}
use Rattle.std.proofs.lemmas.Option.{same_Some}
use Rattle.std.specs.Prelude.{◌==◌, ◌&&◌, ◌||◌, not, filter}
use Rattle.std.specs.List.{AllByRecursion, find, list_all, list_any}
use Rattle.std.specs.Ordering.{eq_by_cmp}
use Rattle.acl_perm.proofs.Bools.{and_true}
use Rattle.acl_posix.specs.Check.{is_member}
use Rattle.acl_posix.specs.Tag.{Tag, user_obj, user, group_obj, group, mask, other, IsTag, is_named, tag_cmp, tag_of}
use Rattle.acl_posix.proofs.Exports.{same_tag, tag_within}
use Rattle.acl_to_posix.specs.Pruning.{is_shared, shape_without, taken_out}
use Rattle.acl_to_posix.specs.ToPosix.{EntryShape, is_in_shape}
use Rattle.acl_to_posix.specs.internal.PruningBody.{AreJudged, groups_left, has_entry, shape_left, users_left, group_before, user_before}
use Rattle.acl_to_posix.specs.declared.judged_entry.JudgedEntry.{JudgedEntry}
use Rattle.acl_to_posix.specs.declared.tag_column.TagColumns.{TagColumns}
use Rattle.acl_to_posix.proofs.no_greatest.FreeIds.{eqb_comm}
use Rattle.acl_to_posix.proofs.TagRequesters.{is_eq-nat_cmp}
use Rattle.acl_to_posix.proofs.SituationIds.{HasIds}
use Rattle.acl_to_posix.proofs.prunings.Losses.{no_longer}

-- an element that passes one test passes another that all pass, and is what all are
pub picked : {X : Type 0} (p test : X → Bool) (P : X → Type 0) (xs : List X) → list_any p xs ≡ true
    → list_all test xs ≡ true → AllByRecursion P xs → (x : X) × (p x ≡ true) × (test x ≡ true) × P x
picked p test P [] h g a = absurd (false≢true h)
picked p test P (x ∷ xs) h g a =
    let two = and_true (test x) (list_all test xs) g in
    elim (or_cases (p x) (list_any p xs) h) [
      | inl here ↦ (x, here, two.0, a.0)
      | inr more ↦ picked p test P xs more two.1 a.1
    ]

-- each element passes
pub all_pass : {X : Type 0} (test : X → Bool) (P : X → Type 0) (xs : List X) → AllByRecursion P xs
    → ((x : X) → P x → test x ≡ true) → list_all test xs ≡ true
all_pass test P [] a f = refl
all_pass test P (x ∷ xs) a f = rw (f x a.0, all_pass test P xs a.1 f) refl

-- what is true of those that are kept
pub filtered : {X : Type 0} (keep test : X → Bool) (P Q : X → Type 0) (xs : List X) → list_all test xs ≡ true
    → AllByRecursion P xs → ((x : X) → keep x ≡ true → test x ≡ true → P x → Q x) → AllByRecursion Q (filter keep xs)
filtered keep test P Q [] g a f = tt
filtered keep test P Q (x ∷ xs) g a f =
    let two = and_true (test x) (list_all test xs) g in
    by (filtered keep test P Q xs two.1 a.1 f) two.0 (keep x) refl
  where
    by : AllByRecursion Q (filter keep xs) → test x ≡ true → (b : Bool) → keep x ≡ b
        → AllByRecursion Q (cond b (x ∷ filter keep xs) (filter keep xs))
    by rest t true e = (f x e t a.0, rest)
    by rest t false e = rest

-- the first that passes
pub first_found : {X : Type 0} (test : X → Bool) (P : X → Type 0) (xs : List X) (x : X) → find test xs ≡ Some x
    → AllByRecursion P xs → (test x ≡ true) × P x
first_found test P [] x h a = absurd cc
first_found {X} test P (y ∷ xs) x h a = by (first_found test P xs x) (test y) refl h
  where
    by : (find test xs ≡ Some x → AllByRecursion P xs → (test x ≡ true) × P x) → (b : Bool) → test y ≡ b
        → cond b (Some y) (find test xs) ≡ Some x → (test x ≡ true) × P x
    by rest true e h = subst (λ (z : X). (test z ≡ true) × P z) (same_Some y x h) (e, a.0)
    by rest false e h = rest h a.1

-- no element passes
pub none_found : {X : Type 0} (test : X → Bool) (xs : List X) → find test xs ≡ None
    → list_all (λ x. not (test x)) xs ≡ true
none_found test [] h = refl
none_found test (y ∷ xs) h = by (none_found test xs) (test y) h
  where
    by : (find test xs ≡ None → list_all (λ x. not (test x)) xs ≡ true) → (b : Bool)
        → cond b (Some y) (find test xs) ≡ None → (not b && list_all (λ x. not (test x)) xs) ≡ true
    by rest true h = absurd cc
    by rest false h = rest h

-- a list is shorter without an element that was found
pub shorter : {X : Type 0} (test keep : X → Bool) (xs : List X) (x : X) → find test xs ≡ Some x → keep x ≡ false
    → length (filter keep xs) < length xs
shorter test keep [] x h k = absurd cc
shorter {X} test keep (y ∷ xs) x h k = by (shorter test keep xs x) (test y) (keep y) refl h
  where
    by : (find test xs ≡ Some x → keep x ≡ false → length (filter keep xs) < length xs) → (b c : Bool) → keep y ≡ c
        → cond b (Some y) (find test xs) ≡ Some x
        → length (cond c (y ∷ filter keep xs) (filter keep xs)) < length (y ∷ xs)
    by rest true true e h = absurd (true≢false (sym e ∙ (ap keep (same_Some y x h) ∙ k)))
    by rest true false e h = let le = no_longer keep xs in omega (arith, le)
    by rest false true e h = let lt = rest h k in omega (arith, lt)
    by rest false false e h = let lt = rest h k in omega (arith, lt)

-- ---- the shape that is left

-- an entry is kept if its tag is not that of the name
abbrev pub is_kept : Tag → JudgedEntry → Bool
is_kept name e = not (eq_by_cmp tag_cmp (tag_of e.tag) name)

-- the users with or without an entry before the others
chosen_users : (b : Bool) (e : JudgedEntry) (left : List JudgedEntry)
    → users_left (cond b (e ∷ left) left) ≡ cond b (user_before (tag_of e.tag) (users_left left)) (users_left left)
chosen_users true e left = refl
chosen_users false e left = refl

-- the groups with or without an entry before the others
chosen_groups : (b : Bool) (e : JudgedEntry) (left : List JudgedEntry)
    → groups_left (cond b (e ∷ left) left) ≡ cond b (group_before (tag_of e.tag) (groups_left left)) (groups_left left)
chosen_groups true e left = refl
chosen_groups false e left = refl

-- two choices of the same
chosen_same : (b : Bool) (xs : List ℕ) → cond b xs xs ≡ xs
chosen_same true xs = refl
chosen_same false xs = refl

-- without a number, with or without another before the others
chosen_number : (v u : ℕ) (left xs : List ℕ) → left ≡ shape_without u xs
    → cond (not (u == v)) (v ∷ left) left ≡ shape_without u (v ∷ xs)
chosen_number v u left xs h = ap (λ (b : Bool). cond (not b) (v ∷ left) left) (eqb_comm u v)
    ∙ ap (λ (ns : List ℕ). cond (not (v == u)) (v ∷ ns) ns) h

-- one entry more: the users, if one user is taken out
user_without : (u : ℕ) (t : Tag) (left xs : List ℕ) → left ≡ shape_without u xs
    → cond (not (eq_by_cmp tag_cmp t (user u))) (user_before t left) left ≡ shape_without u (user_before t xs)
user_without u user_obj left xs h = h
user_without u (user v) left xs h =
    ap (λ (b : Bool). cond (not b) (v ∷ left) left) (is_eq-nat_cmp v u) ∙ chosen_number v u left xs h
user_without u group_obj left xs h = h
user_without u (group v) left xs h = h
user_without u mask left xs h = h
user_without u other left xs h = h

-- one entry more: the users stay, if a group is taken out
user_stays : (g : ℕ) (t : Tag) (left xs : List ℕ) → left ≡ xs
    → cond (not (eq_by_cmp tag_cmp t (group g))) (user_before t left) left ≡ user_before t xs
user_stays g user_obj left xs h = h
user_stays g (user v) left xs h = ap (λ (ns : List ℕ). v ∷ ns) h
user_stays g group_obj left xs h = h
user_stays g (group v) left xs h = chosen_same _ left ∙ h
user_stays g mask left xs h = h
user_stays g other left xs h = h

-- one entry more: the groups, if one group is taken out
group_without : (g : ℕ) (t : Tag) (left xs : List ℕ) → left ≡ shape_without g xs
    → cond (not (eq_by_cmp tag_cmp t (group g))) (group_before t left) left ≡ shape_without g (group_before t xs)
group_without g user_obj left xs h = h
group_without g (user v) left xs h = h
group_without g group_obj left xs h = h
group_without g (group v) left xs h =
    ap (λ (b : Bool). cond (not b) (v ∷ left) left) (is_eq-nat_cmp v g) ∙ chosen_number v g left xs h
group_without g mask left xs h = h
group_without g other left xs h = h

-- one entry more: the groups stay, if a user is taken out
group_stays : (u : ℕ) (t : Tag) (left xs : List ℕ) → left ≡ xs
    → cond (not (eq_by_cmp tag_cmp t (user u))) (group_before t left) left ≡ group_before t xs
group_stays u user_obj left xs h = h
group_stays u (user v) left xs h = chosen_same _ left ∙ h
group_stays u group_obj left xs h = h
group_stays u (group v) left xs h = ap (λ (ns : List ℕ). v ∷ ns) h
group_stays u mask left xs h = h
group_stays u other left xs h = h

-- all entries: the users, if one user is taken out
users_without : (u : ℕ) (left : List JudgedEntry)
    → users_left (filter (is_kept (user u)) left) ≡ shape_without u (users_left left)
users_without u [] = refl
users_without u (e ∷ left) = chosen_users (is_kept (user u) e) e (filter (is_kept (user u)) left)
    ∙ user_without u (tag_of e.tag) _ _ (users_without u left)

-- all entries: the users stay, if a group is taken out
users_stay : (g : ℕ) (left : List JudgedEntry) → users_left (filter (is_kept (group g)) left) ≡ users_left left
users_stay g [] = refl
users_stay g (e ∷ left) = chosen_users (is_kept (group g) e) e (filter (is_kept (group g)) left)
    ∙ user_stays g (tag_of e.tag) _ _ (users_stay g left)

-- all entries: the groups, if one group is taken out
groups_without : (g : ℕ) (left : List JudgedEntry)
    → groups_left (filter (is_kept (group g)) left) ≡ shape_without g (groups_left left)
groups_without g [] = refl
groups_without g (e ∷ left) = chosen_groups (is_kept (group g) e) e (filter (is_kept (group g)) left)
    ∙ group_without g (tag_of e.tag) _ _ (groups_without g left)

-- all entries: the groups stay, if a user is taken out
groups_stay : (u : ℕ) (left : List JudgedEntry) → groups_left (filter (is_kept (user u)) left) ≡ groups_left left
groups_stay u [] = refl
groups_stay u (e ∷ left) = chosen_groups (is_kept (user u) e) e (filter (is_kept (user u)) left)
    ∙ group_stays u (tag_of e.tag) _ _ (groups_stay u left)

-- the shape of these users and groups
abbrev pub shape_with : List ℕ → List ℕ → EntryShape
shape_with users groups = record { users = users; groups = groups }

-- two shapes of the same numbers are the same
pub same_shape : (us vs gs hs : List ℕ) → us ≡ vs → gs ≡ hs → shape_with us gs ≡ shape_with vs hs
same_shape us vs gs hs p q = rw (p, q) refl

-- what is left without the entries of a name is the shape without the name
pub out_shape : (name : Tag) (left : List JudgedEntry) → is_named name ≡ true
    → shape_left (filter (is_kept name) left) ≡ taken_out name (shape_left left)
out_shape user_obj left n = absurd (false≢true n)
out_shape (user u) left n = same_shape _ _ _ _ (users_without u left) (groups_stay u left)
out_shape group_obj left n = absurd (false≢true n)
out_shape (group g) left n = same_shape _ _ _ _ (users_stay g left) (groups_without g left)
out_shape mask left n = absurd (false≢true n)
out_shape other left n = absurd (false≢true n)

-- ---- entries and members

-- with one tag more, a user is among the ids if the tag is that of the user or it was among them
user_has : (id : ℕ) (t : Tag) (xs : List ℕ)
    → is_member id (user_before t xs) ≡ (eq_by_cmp tag_cmp t (user id) || is_member id xs)
user_has id user_obj xs = refl
user_has id (user v) xs = ap (λ (b : Bool). b || is_member id xs) (eqb_comm v id ∙ sym (is_eq-nat_cmp v id))
user_has id group_obj xs = refl
user_has id (group v) xs = refl
user_has id mask xs = refl
user_has id other xs = refl

-- with one tag more, a group is among the ids if the tag is that of the group or it was among them
group_has : (id : ℕ) (t : Tag) (xs : List ℕ)
    → is_member id (group_before t xs) ≡ (eq_by_cmp tag_cmp t (group id) || is_member id xs)
group_has id user_obj xs = refl
group_has id (user v) xs = refl
group_has id group_obj xs = refl
group_has id (group v) xs = ap (λ (b : Bool). b || is_member id xs) (eqb_comm v id ∙ sym (is_eq-nat_cmp v id))
group_has id mask xs = refl
group_has id other xs = refl

-- a user is among the ids if and only if an entry has its tag
user_member : (id : ℕ) (left : List JudgedEntry) → is_member id (users_left left) ≡ has_entry (user id) left
user_member id [] = refl
user_member id (e ∷ left) = user_has id (tag_of e.tag) (users_left left)
    ∙ ap (λ (b : Bool). eq_by_cmp tag_cmp (tag_of e.tag) (user id) || b) (user_member id left)

-- a group is among the ids if and only if an entry has its tag
group_member : (id : ℕ) (left : List JudgedEntry) → is_member id (groups_left left) ≡ has_entry (group id) left
group_member id [] = refl
group_member id (e ∷ left) = group_has id (tag_of e.tag) (groups_left left)
    ∙ ap (λ (b : Bool). eq_by_cmp tag_cmp (tag_of e.tag) (group id) || b) (group_member id left)

-- the tag of an entry is a tag
tag_there : (t : Tag) (left : List JudgedEntry) → has_entry t left ≡ true → IsTag t
tag_there t [] h = absurd (false≢true h)
tag_there t (e ∷ left) h = elim (or_cases (eq_by_cmp tag_cmp (tag_of e.tag) t) (has_entry t left) h) [
  | inl here ↦ subst IsTag (same_tag (tag_of e.tag) t here) (tag_within e.tag)
  | inr more ↦ tag_there t left more
]

-- the users and groups of the entries that are left are ids
pub left_ids : (left : List JudgedEntry) → HasIds (shape_left left)
left_ids left = record {
  users = λ id h. tag_there (user id) left (sym (user_member id left) ∙ h);
  groups = λ id h. tag_there (group id) left (sym (group_member id left) ∙ h);
}

-- each entry of the shape but USER_OBJ is there
pub entry_there : (columns : TagColumns) (left : List JudgedEntry) (t : Tag) → AreJudged columns left
    → (is_shared t || is_named t) ≡ true → is_in_shape (shape_left left) t ≡ true → has_entry t left ≡ true
entry_there columns left user_obj j s h = absurd (false≢true s)
entry_there columns left (user id) j s h = sym (user_member id left) ∙ h
entry_there columns left group_obj j s h = j.0.owning
entry_there columns left (group id) j s h = sym (group_member id left) ∙ h
entry_there columns left mask j s h = absurd (false≢true s)
entry_there columns left other j s h = j.0.others
