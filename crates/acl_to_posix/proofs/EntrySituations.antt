-- In the situation of an entry and one more tag, the check looks at the entry, and only the certain principals and that
-- of the tag match.
use Rattle.std.proofs.Common.{◌≡◌, ℕ, Bool, true, false, Option, None, Some, refl, sym, ap, subst, ◌∙◌}
use Rattle.std.proofs.lemmas.Bool.{eq-eqb, false≢true, not-true}
use Rattle.std.proofs.lemmas.List.Folds.{list_any-append}
use Rattle.std.specs.Prelude.{◌==◌, ◌||◌, if◌then◌else◌}
use Rattle.std.specs.List.{list_any}
use Rattle.std.specs.Ordering.{eq_by_cmp}
use Rattle.acl_perm.proofs.Bools.{or_false_right}
use Rattle.acl_posix.specs.Check.{is_member}
use Rattle.acl_posix.specs.Tag.{Tag, user_obj, user, group_obj, group, mask, other, tag_cmp}
use Rattle.acl_posix.specs.internal.GroupAnswers.{user_id}
use Rattle.acl_to_posix.specs.ListNames.{is_number_of}
use Rattle.acl_to_posix.specs.ToPosix.{EntryShape, is_in_shape, looks_at}
use Rattle.acl_to_posix.specs.internal.ShapeBody.{TagColumn, has_tag, is_certain, may_match, tag_meets}
use Rattle.acl_to_posix.specs.internal.LossBody.{groups_for, is_owner_tag}
use Rattle.acl_to_posix.proofs.Passes.{IsExtra, is_extra}
use Rattle.acl_to_posix.proofs.no_greatest.FreeIds.{AreFree, eqb_comm}
use Rattle.acl_to_posix.proofs.TagRequesters.{asker, asks, asker-own, entry_user, extra_groups, extra_no_mask, extra_no_owner, extra_number, extra_user, is_member-extra, is_member-groups_for, object_at, outside, is_member-extra_own, is_member-groups_for_own, requester_at}

-- no group that the requester of OTHER has is one of the groups that have entries
none_for_other : (shape : EntryShape) (keys : TagColumn) (own : ℕ) (extra : Option Tag)
    → ((id : ℕ) → has_tag (group id) keys ≡ true → (own == id) ≡ false)
    → IsExtra (may_match shape other) keys extra
    → list_any (λ id. id == own || is_member id shape.groups) (extra_groups own extra) ≡ false
none_for_other shape keys own None f is = refl
none_for_other shape keys own (Some user_obj) f is = refl
none_for_other shape keys own (Some (user id)) f is = refl
none_for_other shape keys own (Some group_obj) f is = absurd (false≢true is.0)
none_for_other shape keys own (Some (group id)) f is = rw (eqb_comm id own ∙ f id is.1, not-true _ is.0) refl
none_for_other shape keys own (Some mask) f is = refl
none_for_other shape keys own (Some other) f is = refl

-- in the situation that is made for an entry of the shape, the check looks at this entry
pub looks : (shape : EntryShape) (keys : TagColumn) (entry : Tag) (extra : Option Tag) (free next own : ℕ)
    → AreFree shape keys free next own → is_in_shape shape entry ≡ true → IsExtra (may_match shape entry) keys extra
    → looks_at shape (object_at entry extra free next own) (requester_at entry extra free own) entry ≡ true
looks shape keys user_obj extra free next own f there is = eq-eqb _ _ refl
looks shape keys (user u) extra free next own f there is =
    rw (asker-own shape keys u free extra is, f.next_user u there, eq-eqb u u refl, there) refl
looks shape keys group_obj extra free next own f there is =
    let o = outside shape keys extra free next own f (λ id e. subst (IsExtra (may_match shape group_obj) keys) e is) in
    rw (o.apart, o.unnamed, eq-eqb own own refl) refl
looks shape keys (group g) extra free next own f there is =
    let o = outside shape keys extra free next own f (λ id e. subst (IsExtra (may_match shape (group g)) keys) e is) in
    rw (o.apart, o.unnamed, eq-eqb g g refl, there) refl
looks shape keys mask extra free next own f there is = absurd (false≢true there)
looks shape keys other extra free next own f there is =
    let o = outside shape keys extra free next own f (λ id e. subst (IsExtra (may_match shape other) keys) e is) in
    rw (o.apart, o.unnamed, none_for_other shape keys own extra f.own_key is) refl

-- the requester is the owner if and only if the entry is USER_OBJ
pub owns : (shape : EntryShape) (keys : TagColumn) (entry : Tag) (extra : Option Tag) (free next own : ℕ)
    → AreFree shape keys free next own → is_in_shape shape entry ≡ true → IsExtra (may_match shape entry) keys extra
    → (asker entry extra free == (if is_owner_tag entry then asker entry extra free else next))
    ≡ eq_by_cmp tag_cmp user_obj entry
owns shape keys user_obj extra free next own f there is = eq-eqb _ _ refl
owns shape keys (user u) extra free next own f there is =
    rw (asker-own shape keys u free extra is) (f.next_user u there)
owns shape keys group_obj extra free next own f there is =
    (outside shape keys extra free next own f (λ id e. subst (IsExtra (may_match shape group_obj) keys) e is)).apart
owns shape keys (group g) extra free next own f there is =
    (outside shape keys extra free next own f (λ id e. subst (IsExtra (may_match shape (group g)) keys) e is)).apart
owns shape keys mask extra free next own f there is = absurd (false≢true there)
owns shape keys other extra free next own f there is =
    (outside shape keys extra free next own f (λ id e. subst (IsExtra (may_match shape other) keys) e is)).apart

-- there is no user of the entry and another one besides
one_user : (shape : EntryShape) (keys : TagColumn) (entry : Tag) (extra : Option Tag)
    → IsExtra (may_match shape entry) keys extra
    → (m n : ℕ) → extra_user extra ≡ Some m → user_id entry ≡ Some n → ⊥
one_user shape keys (user u) (Some (user id)) is m n e i = false≢true is.0
one_user shape keys (user u) None is m n e i = absurd cc
one_user shape keys (user u) (Some user_obj) is m n e i = absurd cc
one_user shape keys (user u) (Some group_obj) is m n e i = absurd cc
one_user shape keys (user u) (Some (group id)) is m n e i = absurd cc
one_user shape keys (user u) (Some mask) is m n e i = absurd cc
one_user shape keys (user u) (Some other) is m n e i = absurd cc
one_user shape keys user_obj extra is m n e i = absurd cc
one_user shape keys group_obj extra is m n e i = absurd cc
one_user shape keys (group g) extra is m n e i = absurd cc
one_user shape keys mask extra is m n e i = absurd cc
one_user shape keys other extra is m n e i = absurd cc

-- the group of an entry is not the owning group
own_of_entry : (shape : EntryShape) (keys : TagColumn) (entry : Tag) (free next own : ℕ)
    → AreFree shape keys free next own
    → is_in_shape shape entry ≡ true → (id : ℕ) → entry ≡ group id → (own == id) ≡ false
own_of_entry shape keys entry free next own f there id e = f.own_group id (sym (ap (is_in_shape shape) e) ∙ there)

-- the tag of MASK is no entry of a shape
mask-not_in_shape : (shape : EntryShape) (entry : Tag) → is_in_shape shape entry ≡ true
    → eq_by_cmp tag_cmp mask entry ≡ false
mask-not_in_shape shape user_obj h = refl
mask-not_in_shape shape (user id) h = refl
mask-not_in_shape shape group_obj h = refl
mask-not_in_shape shape (group id) h = refl
mask-not_in_shape shape mask h = absurd (false≢true h)
mask-not_in_shape shape other h = refl

-- the tags that meet the requester are the certain ones and the one besides
pub meets_at : (shape : EntryShape) (keys : TagColumn) (entry : Tag) (extra : Option Tag) (free next own : ℕ)
    → AreFree shape keys free next own → is_in_shape shape entry ≡ true → IsExtra (may_match shape entry) keys extra
    → (t : Tag) → has_tag t keys ≡ true
    → tag_meets (object_at entry extra free next own) (requester_at entry extra free own) t
    ≡ (is_certain entry t || is_extra extra t)
meets_at shape keys entry extra free next own f there is user_obj has =
    owns shape keys entry extra free next own f there is ∙ sym (or_false_right (eq_by_cmp tag_cmp user_obj entry))
    ∙ ap (λ (b : Bool). eq_by_cmp tag_cmp user_obj entry || b) (sym (extra_no_owner shape entry keys extra is))
meets_at shape keys entry extra free next own f there is (user w) has =
    asks (user_id entry) (extra_user extra) free w (f.free_key w has) (one_user shape keys entry extra is)
    ∙ ap (λ (b : Bool). b || is_number_of (extra_user extra) w) (sym (entry_user entry w))
    ∙ ap (λ (b : Bool). eq_by_cmp tag_cmp (user w) entry || b) (sym (extra_number extra w))
meets_at shape keys entry extra free next own f there is group_obj has =
    list_any-append (λ (x : ℕ). x == own) (groups_for own entry) (extra_groups own extra)
    ∙ ap (λ (b : Bool). b || is_member own (extra_groups own extra))
    (is_member-groups_for_own own entry (own_of_entry shape keys entry free next own f there))
    ∙ ap (λ (b : Bool). eq_by_cmp tag_cmp group_obj entry || b) (is_member-extra_own own extra
    (λ id e. f.own_key id (subst (IsExtra (may_match shape entry) keys) e is).1))
meets_at shape keys entry extra free next own f there is (group w) has =
    list_any-append (λ (x : ℕ). x == w) (groups_for own entry) (extra_groups own extra)
    ∙ ap (λ (b : Bool). b || is_member w (extra_groups own extra)) (is_member-groups_for own w entry (f.own_key w has))
    ∙ ap (λ (b : Bool). eq_by_cmp tag_cmp (group w) entry || b) (is_member-extra own w extra (f.own_key w has))
meets_at shape keys entry extra free next own f there is mask has =
    rw (mask-not_in_shape shape entry there, extra_no_mask shape entry keys extra is) refl
meets_at shape keys entry extra free next own f there is other has = refl
