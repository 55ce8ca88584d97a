-- Which principals match when the check looks at an entry: the certain ones, and of the others only possible ones.
use Rattle.std.proofs.Common.{◌≡◌, ℕ, Bool, true, false, List, [], ◌∷◌, refl, sym, ap, subst, ◌∙◌, inl, inr}
use Rattle.std.proofs.lemmas.Bool.{eq-eqb, eqb-true, false≢true, not-true, or_cases, true≢false, or_parts}
use Rattle.std.specs.Prelude.{◌==◌, ◌||◌, not}
use Rattle.std.specs.List.{list_any}
use Rattle.std.specs.Ordering.{eq_by_cmp}
use Rattle.acl_perm.proofs.Bools.{and_true}
use Rattle.acl_posix.specs.Check.{Object, Requester, is_member}
use Rattle.acl_posix.specs.Tag.{Tag, user_obj, user, group_obj, group, mask, other, tag_cmp}
use Rattle.acl_posix.proofs.Exports.{same_tag}
use Rattle.acl_to_posix.specs.ToPosix.{EntryShape, is_in_class, looks_at}
use Rattle.acl_to_posix.specs.internal.ShapeBody.{is_certain, may_match, may_be_user, tag_meets}
use Rattle.acl_to_posix.proofs.Passes.{eq_by_cmp-refl}

-- the principal of the entry matches in them
pub tag_meets-own : (shape : EntryShape) (object : Object) (requester : Requester) (entry : Tag)
    → looks_at shape object requester entry ≡ true → tag_meets object requester entry ≡ true
tag_meets-own shape object requester user_obj h = h
tag_meets-own shape object requester (user id) h =
    (and_true (requester.user == id) (is_member id shape.users)
    (and_true (not (requester.user == object.user)) _ h).1).0
tag_meets-own shape object requester group_obj h = (and_true (is_in_class shape object requester) _ h).1
tag_meets-own shape object requester (group id) h =
    (and_true (is_member id requester.groups) (is_member id shape.groups)
    (and_true (is_in_class shape object requester) _ h).1).0
tag_meets-own shape object requester mask h = absurd (false≢true h)
tag_meets-own shape object requester other h = refl

-- certain principals match in them
pub tag_meets-certain : (shape : EntryShape) (object : Object) (requester : Requester) (entry : Tag)
    → looks_at shape object requester entry ≡ true → (t : Tag) → is_certain entry t ≡ true
    → tag_meets object requester t ≡ true
tag_meets-certain shape object requester entry h t c =
    elim (or_cases (eq_by_cmp tag_cmp t other) (eq_by_cmp tag_cmp t entry) c) [
      | inl e ↦ ap (tag_meets object requester) (same_tag t other e)
      | inr e ↦ ap (tag_meets object requester) (same_tag t entry e) ∙ tag_meets-own shape object requester entry h
    ]

-- the requester is not the owner, except for USER_OBJ
not_owner : (shape : EntryShape) (object : Object) (requester : Requester) (entry : Tag)
    → looks_at shape object requester entry ≡ true → eq_by_cmp tag_cmp user_obj entry ≡ false
    → (requester.user == object.user) ≡ false
not_owner shape object requester user_obj h d = absurd (true≢false d)
not_owner shape object requester (user id) h d = not-true _ (and_true (not (requester.user == object.user)) _ h).0
not_owner shape object requester group_obj h d = not-true _ (and_true (not (requester.user == object.user)) _
    (and_true (is_in_class shape object requester) _ h).0).0
not_owner shape object requester (group id) h d = not-true _ (and_true (not (requester.user == object.user)) _
    (and_true (is_in_class shape object requester) _ h).0).0
not_owner shape object requester mask h d = absurd (false≢true h)
not_owner shape object requester other h d = not-true _ (and_true (not (requester.user == object.user)) _
    (and_true (is_in_class shape object requester) _ h).0).0

-- a requester without an entry is none of the users who have one
class_user : (shape : EntryShape) (object : Object) (requester : Requester) (id : ℕ)
    → is_in_class shape object requester ≡ true → (requester.user == id) ≡ true
    → not (is_member id shape.users) ≡ true
class_user shape object requester id h e =
    ap (λ (n : ℕ). not (is_member n shape.users)) (sym (eqb-true requester.user id e))
    ∙ (and_true (not (requester.user == object.user)) (not (is_member requester.user shape.users)) h).1

-- a group of a requester for whom OTHER decides is not the owning group, and has no entry
pub list_any-none : (own id : ℕ) (named groups : List ℕ) → list_any (λ g. g == own || is_member g named) groups ≡ false
    → is_member id groups ≡ true → ((id == own) ≡ false) × (is_member id named ≡ false)
list_any-none own id named [] none has = absurd cc
list_any-none own id named (g ∷ groups) none has =
    let two = or_parts (g == own || is_member g named) (list_any (λ g. g == own || is_member g named) groups) none in
    by (list_any-none own id named groups two.1) (or_parts (g == own) (is_member g named) two.0) (g == id) refl has
  where
    by : (is_member id groups ≡ true → ((id == own) ≡ false) × (is_member id named ≡ false))
        → ((g == own) ≡ false) × (is_member g named ≡ false) → (b : Bool) → (g == id) ≡ b
        → (b || is_member id groups) ≡ true → ((id == own) ≡ false) × (is_member id named ≡ false)
    by rest here true e h = subst (λ (n : ℕ). ((n == own) ≡ false) × (is_member n named ≡ false)) (eqb-true g id e) here
    by rest here false e h = rest h

-- for OTHER
other_lacks : (shape : EntryShape) (object : Object) (requester : Requester) (id : ℕ)
    → looks_at shape object requester other ≡ true → is_member id requester.groups ≡ true
    → ((id == object.group) ≡ false) × (is_member id shape.groups ≡ false)
other_lacks shape object requester id h has = list_any-none object.group id shape.groups requester.groups
    (not-true _ (and_true (is_in_class shape object requester) _ h).1) has

-- of the principals that are not certain, only possible ones match in them
may_user : (shape : EntryShape) (object : Object) (requester : Requester) (entry : Tag) (id : ℕ)
    → looks_at shape object requester entry ≡ true → (requester.user == id) ≡ true
    → is_certain entry (user id) ≡ false → may_be_user shape id entry ≡ true
may_user shape object requester user_obj id h m c = refl
may_user shape object requester (user u) id h m c =
    let own : (requester.user == u) ≡ true = tag_meets-own shape object requester (user u) h in
    let same : id ≡ u = sym (eqb-true requester.user id m) ∙ eqb-true requester.user u own in
    absurd (true≢false (sym (eq_by_cmp-refl (user u))
    ∙ (ap (λ (n : ℕ). eq_by_cmp tag_cmp (user n) (user u)) (sym same) ∙ c)))
may_user shape object requester group_obj id h m c =
    class_user shape object requester id (and_true (is_in_class shape object requester) _ h).0 m
may_user shape object requester (group g) id h m c =
    class_user shape object requester id (and_true (is_in_class shape object requester) _ h).0 m
may_user shape object requester mask id h m c = absurd (false≢true h)
may_user shape object requester other id h m c =
    class_user shape object requester id (and_true (is_in_class shape object requester) _ h).0 m

-- if the check looks at an entry, a principal that matches and is not certain is a possible one
pub may_match-meets : (shape : EntryShape) (object : Object) (requester : Requester) (entry : Tag)
    → looks_at shape object requester entry ≡ true → (t : Tag) → tag_meets object requester t ≡ true
    → is_certain entry t ≡ false → may_match shape entry t ≡ true
may_match-meets shape object requester entry h user_obj m c =
    absurd (true≢false (sym m ∙ not_owner shape object requester entry h c))
may_match-meets shape object requester entry h (user id) m c = may_user shape object requester entry id h m c
may_match-meets shape object requester user_obj h group_obj m c = refl
may_match-meets shape object requester (user u) h group_obj m c = refl
may_match-meets shape object requester group_obj h group_obj m c = refl
may_match-meets shape object requester (group g) h group_obj m c = refl
may_match-meets shape object requester mask h group_obj m c = refl
may_match-meets shape object requester other h group_obj m c =
    absurd (true≢false (sym (eq-eqb object.group object.group refl)
    ∙ (other_lacks shape object requester object.group h m).0))
may_match-meets shape object requester user_obj h (group id) m c = refl
may_match-meets shape object requester (user u) h (group id) m c = refl
may_match-meets shape object requester group_obj h (group id) m c = refl
may_match-meets shape object requester (group g) h (group id) m c = refl
may_match-meets shape object requester mask h (group id) m c = refl
may_match-meets shape object requester other h (group id) m c =
    ap (λ (b : Bool). not b) (other_lacks shape object requester id h m).1
may_match-meets shape object requester entry h mask m c = absurd (false≢true m)
may_match-meets shape object requester entry h other m c = absurd (true≢false c)
