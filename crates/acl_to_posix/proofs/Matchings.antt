-- Which principals match, as a function of their tags, and the entries at which the check looks then. In place of
-- situations such functions are changed freely: without groups, with another user, with one group alone.
use Rattle.std.proofs.Common.{◌≡◌, ℕ, Bool, true, false, List, refl, sym, ap, subst, ◌∙◌, inl, inr}
use Rattle.std.proofs.lemmas.Bool.{cases_Bool, eqb-true, false≢true, or_cases, true≢false}
use Rattle.std.specs.Prelude.{◌==◌, ◌||◌}
use Rattle.std.specs.List.{list_any}
use Rattle.std.specs.Ordering.{eq_by_cmp}
use Rattle.acl_posix.specs.Check.{is_member}
use Rattle.acl_posix.specs.Id.{IsId}
use Rattle.acl_posix.specs.Tag.{Tag, user_obj, user, group_obj, group, mask, other, IsTag, is_named, qualifier, tag_cmp}
use Rattle.acl_posix.proofs.Exports.{same_tag}
use Rattle.acl_to_posix.specs.Pruning.{is_shared, shape_without, taken_out}
use Rattle.acl_to_posix.specs.ToPosix.{EntryShape, is_in_shape}
use Rattle.acl_to_posix.proofs.Passes.{eq_by_cmp-refl}
use Rattle.acl_to_posix.proofs.prunings.Losses.{IsPart, but_keeps, but_lacks}
use Rattle.acl_to_posix.proofs.shapes.ShapeChecks.{any_member, some_member}

-- ---- matchings

-- the tags whose principals match a requester
abbrev pub Matching : Type 0
Matching = Tag → Bool

-- EVERYONE@ matches, at most one user does, and only users and groups that are ids
pub record IsMatching (m : Matching) : Type 0 where
  pub everyone : m other ≡ true
  pub one : (u v : ℕ) → m (user u) ≡ true → m (user v) ≡ true → u ≡ v
  pub ids : (t : Tag) → m t ≡ true → IsTag t

-- no owner, no user and no group
abbrev pub nobody : Matching
nobody user_obj = false
nobody (user id) = false
nobody group_obj = false
nobody (group id) = false
nobody mask = false
nobody other = true

-- the same without users
abbrev pub no_users : Matching → Matching
no_users m user_obj = m user_obj
no_users m (user id) = false
no_users m group_obj = m group_obj
no_users m (group id) = m (group id)
no_users m mask = m mask
no_users m other = m other

-- the same with this user in place of any other
abbrev pub with_user : ℕ → Matching → Matching
with_user u m user_obj = m user_obj
with_user u m (user id) = u == id
with_user u m group_obj = m group_obj
with_user u m (group id) = m (group id)
with_user u m mask = m mask
with_user u m other = m other

-- the same without groups
abbrev pub no_groups : Matching → Matching
no_groups m user_obj = m user_obj
no_groups m (user id) = m (user id)
no_groups m group_obj = false
no_groups m (group id) = false
no_groups m mask = m mask
no_groups m other = m other

-- the same with one group in place of any other
abbrev pub with_group : Tag → Matching → Matching
with_group d m user_obj = m user_obj
with_group d m (user id) = m (user id)
with_group d m group_obj = eq_by_cmp tag_cmp group_obj d
with_group d m (group id) = eq_by_cmp tag_cmp (group id) d
with_group d m mask = m mask
with_group d m other = m other

-- a stranger in one group alone, or in none
abbrev pub alone : Tag → Matching
alone d = with_group d nobody

-- the same with one more tag
abbrev pub also : Tag → Matching → Matching
also x m = λ t. m t || eq_by_cmp tag_cmp t x

-- two users of one tag are the same user
pub one_user : (u v : ℕ) (x : Tag) → eq_by_cmp tag_cmp (user u) x ≡ true → eq_by_cmp tag_cmp (user v) x ≡ true → u ≡ v
one_user u v x h g = ap qualifier (same_tag (user u) x h ∙ sym (same_tag (user v) x g))

-- a tag that equals a tag with an id has an id
pub IsTag-same : (t d : Tag) → IsTag d → eq_by_cmp tag_cmp t d ≡ true → IsTag t
IsTag-same t d is h = subst IsTag (sym (same_tag t d h)) is

-- a matching without its users is a matching
pub no_users_matching : (m : Matching) → IsMatching m → IsMatching (no_users m)
no_users_matching m ok = record { everyone = ok.everyone; one = λ u v h g. absurd (false≢true h); ids = by }
  where
    by : (t : Tag) → no_users m t ≡ true → IsTag t
    by user_obj h = tt
    by (user id) h = absurd (false≢true h)
    by group_obj h = tt
    by (group id) h = ok.ids (group id) h
    by mask h = tt
    by other h = tt

-- a matching with another user is a matching
pub with_user_matching : (u : ℕ) (m : Matching) → IsId u → IsMatching m → IsMatching (with_user u m)
with_user_matching u m is ok = record {
  everyone = ok.everyone;
  one = λ a b h g. sym (eqb-true u a h) ∙ eqb-true u b g;
  ids = by;
}
  where
    by : (t : Tag) → with_user u m t ≡ true → IsTag t
    by user_obj h = tt
    by (user id) h = subst IsId (eqb-true u id h) is
    by group_obj h = tt
    by (group id) h = ok.ids (group id) h
    by mask h = tt
    by other h = tt

-- a matching without its groups is a matching
pub no_groups_matching : (m : Matching) → IsMatching m → IsMatching (no_groups m)
no_groups_matching m ok = record { everyone = ok.everyone; one = ok.one; ids = by }
  where
    by : (t : Tag) → no_groups m t ≡ true → IsTag t
    by user_obj h = tt
    by (user id) h = ok.ids (user id) h
    by group_obj h = tt
    by (group id) h = absurd (false≢true h)
    by mask h = tt
    by other h = tt

-- a matching with one group in place of its groups is a matching
pub with_group_matching : (d : Tag) (m : Matching) → IsTag d → IsMatching m → IsMatching (with_group d m)
with_group_matching d m is ok = record { everyone = ok.everyone; one = ok.one; ids = by }
  where
    by : (t : Tag) → with_group d m t ≡ true → IsTag t
    by user_obj h = tt
    by (user id) h = ok.ids (user id) h
    by group_obj h = tt
    by (group id) h = IsTag-same (group id) d is h
    by mask h = tt
    by other h = tt

-- a stranger in no group is a matching
pub nobody_matching : IsMatching nobody
nobody_matching = record { everyone = refl; one = λ u v h g. absurd (false≢true h); ids = by }
  where
    by : (t : Tag) → nobody t ≡ true → IsTag t
    by user_obj h = tt
    by (user id) h = absurd (false≢true h)
    by group_obj h = tt
    by (group id) h = absurd (false≢true h)
    by mask h = tt
    by other h = tt

-- a stranger in one group alone is a matching
pub alone_matching : (d : Tag) → IsTag d → IsMatching (alone d)
alone_matching d is = with_group_matching d nobody is nobody_matching

-- a stranger in one group, with one more tag, is a matching
pub also_matching : (x e : Tag) → IsTag x → IsTag e → IsMatching (also x (alone e))
also_matching x e is there = record {
  everyone = refl;
  one = λ u v h g. one_user u v x h g;
  ids = λ t h. elim (or_cases (alone e t) (eq_by_cmp tag_cmp t x) h) [
    | inl a ↦ (alone_matching e there).ids t a
    | inr b ↦ IsTag-same t x is b
  ];
}

-- ---- shapes

-- a shape is a part of itself
pub part_itself : (shape : EntryShape) → IsPart shape shape
part_itself shape = record { users = λ id h. h; groups = λ id h. h }

-- a part of a part is a part
pub part_of_part : (one two three : EntryShape) → IsPart one two → IsPart two three → IsPart one three
part_of_part one two three p q =
    record { users = λ id h. p.users id (q.users id h); groups = λ id h. p.groups id (q.groups id h) }

-- a name that was taken out is gone
pub out_lacks : (name : Tag) (shape : EntryShape) → is_named name ≡ true
    → is_in_shape (taken_out name shape) name ≡ false
out_lacks user_obj shape n = absurd (false≢true n)
out_lacks (user u) shape n = but_lacks u shape.users
out_lacks group_obj shape n = absurd (false≢true n)
out_lacks (group g) shape n = but_lacks g shape.groups
out_lacks mask shape n = absurd (false≢true n)
out_lacks other shape n = absurd (false≢true n)

-- so an entry that stays is not the one that was taken out
pub out_differs : (name t : Tag) (shape : EntryShape) → is_named name ≡ true
    → is_in_shape (taken_out name shape) t ≡ true → eq_by_cmp tag_cmp t name ≡ false
out_differs name t shape n there = elim (cases_Bool (eq_by_cmp tag_cmp t name)) [
  | inl same ↦ absurd (true≢false (sym there
      ∙ (ap (is_in_shape (taken_out name shape)) (same_tag t name same) ∙ out_lacks name shape n)))
  | inr differ ↦ differ
]

-- a name that is gone is the one that was taken out
gone_from : (n id : ℕ) (xs : List ℕ) → is_member n xs ≡ true → is_member n (shape_without id xs) ≡ false → n ≡ id
gone_from n id xs there gone = elim (cases_Bool (n == id)) [
  | inl same ↦ eqb-true n id same
  | inr differ ↦ absurd (true≢false (sym (but_keeps n id xs there differ) ∙ gone))
]

-- a tag that a shape has, and does not have without a name, is this name
pub gone : (x y : Tag) (shape : EntryShape) → is_in_shape shape x ≡ true → is_in_shape (taken_out y shape) x ≡ false
    → x ≡ y
gone (user u) (user v) shape h g = ap user (gone_from u v shape.users h g)
gone (group u) (group v) shape h g = ap group (gone_from u v shape.groups h g)
gone x user_obj shape h g = absurd (true≢false (sym h ∙ g))
gone x group_obj shape h g = absurd (true≢false (sym h ∙ g))
gone x mask shape h g = absurd (true≢false (sym h ∙ g))
gone x other shape h g = absurd (true≢false (sym h ∙ g))
gone user_obj (user v) shape h g = absurd (true≢false g)
gone group_obj (user v) shape h g = absurd (true≢false g)
gone (group u) (user v) shape h g = absurd (true≢false (sym h ∙ g))
gone mask (user v) shape h g = absurd (false≢true h)
gone other (user v) shape h g = absurd (true≢false g)
gone user_obj (group v) shape h g = absurd (true≢false g)
gone (user u) (group v) shape h g = absurd (true≢false (sym h ∙ g))
gone group_obj (group v) shape h g = absurd (true≢false g)
gone mask (group v) shape h g = absurd (false≢true h)
gone other (group v) shape h g = absurd (true≢false g)

-- ---- the entries at which the check looks

-- the requester is neither the owner nor one of these users
pub record IsRest (users : List ℕ) (m : Matching) : Type 0 where
  pub owner : m user_obj ≡ false
  pub others : (id : ℕ) → is_member id users ≡ true → m (user id) ≡ false

-- the check looks at the entry
abbrev pub Looks : EntryShape → Matching → Tag → Type 0
Looks s m user_obj = m user_obj ≡ true
Looks s m (user id) = (m user_obj ≡ false) × (is_member id s.users ≡ true) × (m (user id) ≡ true)
Looks s m group_obj = IsRest s.users m × (m group_obj ≡ true)
Looks s m (group id) = IsRest s.users m × (is_member id s.groups ≡ true) × (m (group id) ≡ true)
Looks s m mask = ⊥
Looks s m other = IsRest s.users m × (m group_obj ≡ false)
    × ((id : ℕ) → is_member id s.groups ≡ true → m (group id) ≡ false)

-- it is an entry of the shape
pub looks_there : (s : EntryShape) (m : Matching) (e : Tag) → Looks s m e → is_in_shape s e ≡ true
looks_there s m user_obj l = refl
looks_there s m (user id) l = l.1
looks_there s m group_obj l = refl
looks_there s m (group id) l = l.1
looks_there s m mask l = absurd l
looks_there s m other l = refl

-- a shared entry is for the rest
pub looks_rest : (s : EntryShape) (m : Matching) (e : Tag) → is_shared e ≡ true → Looks s m e → IsRest s.users m
looks_rest s m user_obj h l = absurd (false≢true h)
looks_rest s m (user id) h l = absurd (false≢true h)
looks_rest s m group_obj h l = l.0
looks_rest s m (group id) h l = l.0
looks_rest s m mask h l = absurd (false≢true h)
looks_rest s m other h l = l.0

-- and the rest have shared entries alone
pub rest_shared : (s : EntryShape) (m : Matching) (e : Tag) → IsRest s.users m → Looks s m e → is_shared e ≡ true
rest_shared s m user_obj r l = absurd (true≢false (sym l ∙ r.owner))
rest_shared s m (user id) r l = absurd (true≢false (sym l.2 ∙ r.others id l.1))
rest_shared s m group_obj r l = refl
rest_shared s m (group id) r l = refl
rest_shared s m mask r l = absurd l
rest_shared s m other r l = refl

-- the rest of a shape are among the rest of a part of it
pub rest_part : (whole part : EntryShape) (m : Matching) → IsPart whole part → IsRest whole.users m
    → IsRest part.users m
rest_part whole part m p r = record { owner = r.owner; others = λ id h. r.others id (p.users id h) }

-- with fewer names, the check looks at an entry that stays in no fewer cases
pub looks_part : (whole part : EntryShape) (m : Matching) (e : Tag) → IsPart whole part → is_in_shape part e ≡ true
    → Looks whole m e → Looks part m e
looks_part whole part m user_obj p there l = l
looks_part whole part m (user id) p there l = (l.0, there, l.2)
looks_part whole part m group_obj p there l = (rest_part whole part m p l.0, l.1)
looks_part whole part m (group id) p there l = (rest_part whole part m p l.0, there, l.2)
looks_part whole part m mask p there l = absurd l
looks_part whole part m other p there l = (rest_part whole part m p l.0, l.1, λ id h. l.2 id (p.groups id h))

-- the same groups of a shape match
pub record SameGroups (groups : List ℕ) (m n : Matching) : Type 0 where
  pub owning : n group_obj ≡ m group_obj
  pub named : (id : ℕ) → is_member id groups ≡ true → n (group id) ≡ m (group id)

-- the check looks at a shared entry for each of the rest in the same groups
pub moved : (s t : EntryShape) (m n : Matching) (e : Tag) → is_shared e ≡ true → is_in_shape t e ≡ true
    → IsRest t.users n → SameGroups t.groups m n
    → ((id : ℕ) → is_member id t.groups ≡ true → is_member id s.groups ≡ true)
    → Looks s m e → Looks t n e
moved s t m n user_obj h there r g w l = absurd (false≢true h)
moved s t m n (user id) h there r g w l = absurd (false≢true h)
moved s t m n group_obj h there r g w l = (r, g.owning ∙ l.1)
moved s t m n (group id) h there r g w l = (r, there, g.named id there ∙ l.2)
moved s t m n mask h there r g w l = absurd (false≢true h)
moved s t m n other h there r g w l = (r, g.owning ∙ l.1, λ id i. g.named id i ∙ l.2 id (w id i))

-- some shared entry at which the check looks
pub record SomeShared (s : EntryShape) (m : Matching) : Type 0 where
  pub entry : Tag
  pub shared : is_shared entry ≡ true
  pub looks : Looks s m entry

-- no member passes a test
pub none_passes : (p : ℕ → Bool) (xs : List ℕ) → list_any p xs ≡ false → (n : ℕ) → is_member n xs ≡ true → p n ≡ false
none_passes p xs none n has = elim (cases_Bool (p n)) [
  | inl passes ↦ absurd (true≢false (sym (any_member p xs n has passes) ∙ none))
  | inr fails ↦ fails
]

-- for a requester who is neither the owner nor a user of the shape, the check looks at a shared entry
pub rest_looks : (s : EntryShape) (m : Matching) → IsRest s.users m → SomeShared s m
rest_looks s m r = elim (cases_Bool (m group_obj)) [
  | inl owning ↦ record { entry = group_obj; shared = refl; looks = (r, owning) }
  | inr outside ↦ elim (cases_Bool (list_any (λ id. m (group id)) s.groups)) [
    | inl some ↦
        let (n, has, passes) = some_member (λ id. m (group id)) s.groups some in
        record { entry = group n; shared = refl; looks = (r, has, passes) }
    | inr none ↦ record {
      entry = other;
      shared = refl;
      looks = (r, outside, none_passes (λ id. m (group id)) s.groups none);
    }
  ]
]

-- ---- strangers in one group alone

-- a stranger in one group is neither the owner nor a user
pub alone_rest : (users : List ℕ) (e : Tag) → IsRest users (alone e)
alone_rest users e = record { owner = refl; others = λ id h. refl }

-- the check looks at the entry of their group
pub alone_looks : (s : EntryShape) (e : Tag) → is_shared e ≡ true → is_in_shape s e ≡ true → Looks s (alone e) e
alone_looks s user_obj h there = absurd (false≢true h)
alone_looks s (user id) h there = absurd (false≢true h)
alone_looks s group_obj h there = (alone_rest s.users group_obj, refl)
alone_looks s (group g) h there = (alone_rest s.users (group g), there, eq_by_cmp-refl (group g))
alone_looks s mask h there = absurd (false≢true h)
alone_looks s other h there = (alone_rest s.users other, refl, λ id i. refl)

-- and at no other
pub alone_only : (s : EntryShape) (e x : Tag) → is_shared e ≡ true → is_in_shape s e ≡ true → Looks s (alone e) x
    → x ≡ e
alone_only s e user_obj h there l = absurd (false≢true l)
alone_only s e (user id) h there l = absurd (false≢true l.2)
alone_only s e mask h there l = absurd l
alone_only s group_obj group_obj h there l = refl
alone_only s (group g) group_obj h there l = absurd (false≢true l.1)
alone_only s other group_obj h there l = absurd (false≢true l.1)
alone_only s group_obj (group id) h there l = absurd (false≢true l.2)
alone_only s (group g) (group id) h there l = same_tag (group id) (group g) l.2
alone_only s other (group id) h there l = absurd (false≢true l.2)
alone_only s group_obj other h there l = absurd (true≢false l.1)
alone_only s (group g) other h there l = absurd (true≢false (sym (eq_by_cmp-refl (group g)) ∙ l.2 g there))
alone_only s other other h there l = refl
alone_only s user_obj x h there l = absurd (false≢true h)
alone_only s (user id) x h there l = absurd (false≢true h)
alone_only s mask x h there l = absurd (false≢true h)
