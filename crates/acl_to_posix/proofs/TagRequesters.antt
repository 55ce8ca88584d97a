-- The object and the requester of an entry and of one more tag: the user and the groups are those of the two tags, and
-- otherwise free ids.
use Rattle.std.proofs.Common.{◌≡◌, ℕ, Bool, true, false, List, [], ◌++◌, Option, None, Some, refl, sym, ap, ◌∙◌, arith}
use Rattle.std.proofs.lemmas.Bool.{eq-eqb, false≢true, not-true}
use Rattle.std.proofs.lemmas.Bool.Decides.{nat_tests}
use Rattle.std.specs.Prelude.{◌==◌, ◌||◌, not, if◌then◌else◌, unwrap_or}
use Rattle.std.specs.Option.{option_or}
use Rattle.std.specs.Ordering.{eq_by_cmp, is_eq, nat_cmp}
use Rattle.acl_perm.proofs.Bools.{or_false_right}
use Rattle.acl_posix.specs.Check.{Object, Requester, is_member}
use Rattle.acl_posix.specs.Tag.{Tag, user_obj, user, group_obj, group, mask, other, tag_cmp}
use Rattle.acl_posix.specs.internal.GroupAnswers.{user_id}
use Rattle.acl_to_posix.specs.ListNames.{is_number_of}
use Rattle.acl_to_posix.specs.ToPosix.{EntryShape}
use Rattle.acl_to_posix.specs.internal.ShapeBody.{TagColumn, has_tag, may_match}
use Rattle.acl_to_posix.specs.internal.LossBody.{groups_for, is_owner_tag}
use Rattle.acl_to_posix.proofs.Passes.{IsExtra, is_extra}
use Rattle.acl_to_posix.proofs.no_greatest.FreeIds.{AreFree, eqb_comm}

-- the user of a tag that may be absent
abbrev pub extra_user : Option Tag → Option ℕ
extra_user None = None
extra_user (Some x) = user_id x

-- the group of a tag that may be absent
abbrev pub extra_groups : ℕ → Option Tag → List ℕ
extra_groups own None = []
extra_groups own (Some x) = groups_for own x

-- the user who requests access
abbrev pub asker : Tag → Option Tag → ℕ → ℕ
asker entry extra free = unwrap_or (option_or (extra_user extra) (user_id entry)) free

-- the object of the situation that is made for an entry and one more tag
abbrev pub object_at : Tag → Option Tag → ℕ → ℕ → ℕ → Object
object_at entry extra free next own =
    record { user = if is_owner_tag entry then asker entry extra free else next; group = own }

-- the requester of that situation
abbrev pub requester_at : Tag → Option Tag → ℕ → ℕ → Requester
requester_at entry extra free own =
    record { user = asker entry extra free; groups = groups_for own entry ++ extra_groups own extra }

-- two users are the same tag if their numbers are
pub is_eq-nat_cmp : (w n : ℕ) → is_eq (nat_cmp w n) ≡ (n == w)
is_eq-nat_cmp w n = grind (arith, nat_tests)

-- a user is the user of a tag
pub entry_user : (t : Tag) (w : ℕ) → eq_by_cmp tag_cmp (user w) t ≡ is_number_of (user_id t) w
entry_user user_obj w = refl
entry_user (user id) w = is_eq-nat_cmp w id
entry_user group_obj w = refl
entry_user (group id) w = refl
entry_user mask w = refl
entry_user other w = refl

-- a user is the one of the tag besides
pub extra_number : (extra : Option Tag) (w : ℕ) → is_extra extra (user w) ≡ is_number_of (extra_user extra) w
extra_number None w = refl
extra_number (Some x) w = entry_user x w

-- the one who asks is the user of the entry or of the tag besides, or has a free id
pub asks : (e x : Option ℕ) (free w : ℕ) → (free == w) ≡ false → ((m n : ℕ) → x ≡ Some m → e ≡ Some n → ⊥)
    → (unwrap_or (option_or x e) free == w) ≡ (is_number_of e w || is_number_of x w)
asks None None free w apart one = apart
asks None (Some m) free w apart one = refl
asks (Some n) None free w apart one = sym (or_false_right (n == w))
asks (Some n) (Some m) free w apart one = absurd (one m n refl refl)

-- a member of the groups of a tag
pub is_member-groups_for_own : (own : ℕ) (t : Tag) → ((id : ℕ) → t ≡ group id → (own == id) ≡ false)
    → is_member own (groups_for own t) ≡ eq_by_cmp tag_cmp group_obj t
is_member-groups_for_own own user_obj h = refl
is_member-groups_for_own own (user id) h = refl
is_member-groups_for_own own group_obj h = ap (λ (b : Bool). b || false) (eq-eqb own own refl)
is_member-groups_for_own own (group id) h = ap (λ (b : Bool). b || false) (eqb_comm id own ∙ h id refl)
is_member-groups_for_own own mask h = refl
is_member-groups_for_own own other h = refl

-- a group other than the owning group is among the groups of a tag if and only if the tag is that of the group
pub is_member-groups_for : (own w : ℕ) (t : Tag) → (own == w) ≡ false
    → is_member w (groups_for own t) ≡ eq_by_cmp tag_cmp (group w) t
is_member-groups_for own w user_obj h = refl
is_member-groups_for own w (user id) h = refl
is_member-groups_for own w group_obj h = ap (λ (b : Bool). b || false) h
is_member-groups_for own w (group id) h = or_false_right (id == w) ∙ sym (is_eq-nat_cmp w id)
is_member-groups_for own w mask h = refl
is_member-groups_for own w other h = refl

-- the same for the tag besides
pub is_member-extra_own : (own : ℕ) (extra : Option Tag) → ((id : ℕ) → extra ≡ Some (group id) → (own == id) ≡ false)
    → is_member own (extra_groups own extra) ≡ is_extra extra group_obj
is_member-extra_own own None h = refl
is_member-extra_own own (Some x) h = is_member-groups_for_own own x (λ id e. h id (ap (λ (t : Tag). Some t) e))

-- the same for the tag that may be absent
pub is_member-extra : (own w : ℕ) (extra : Option Tag) → (own == w) ≡ false
    → is_member w (extra_groups own extra) ≡ is_extra extra (group w)
is_member-extra own w None h = refl
is_member-extra own w (Some x) h = is_member-groups_for own w x h

-- the tag besides is not that of OWNER@
pub extra_no_owner : (shape : EntryShape) (entry : Tag) (keys : TagColumn) (extra : Option Tag)
    → IsExtra (may_match shape entry) keys extra → is_extra extra user_obj ≡ false
extra_no_owner shape entry keys None is = refl
extra_no_owner shape entry keys (Some user_obj) is = absurd (false≢true is.0)
extra_no_owner shape entry keys (Some (user id)) is = refl
extra_no_owner shape entry keys (Some group_obj) is = refl
extra_no_owner shape entry keys (Some (group id)) is = refl
extra_no_owner shape entry keys (Some mask) is = refl
extra_no_owner shape entry keys (Some other) is = refl

-- the tag besides is not that of MASK
pub extra_no_mask : (shape : EntryShape) (entry : Tag) (keys : TagColumn) (extra : Option Tag)
    → IsExtra (may_match shape entry) keys extra → is_extra extra mask ≡ false
extra_no_mask shape entry keys None is = refl
extra_no_mask shape entry keys (Some user_obj) is = refl
extra_no_mask shape entry keys (Some (user id)) is = refl
extra_no_mask shape entry keys (Some group_obj) is = refl
extra_no_mask shape entry keys (Some (group id)) is = refl
extra_no_mask shape entry keys (Some mask) is = absurd (false≢true is.0)
extra_no_mask shape entry keys (Some other) is = refl

-- who asks in the situations of a case: a user who is not the next one, and has no USER entry
pub record IsOutside (shape : EntryShape) (next n : ℕ) : Type 0 where
  pub apart : (n == next) ≡ false
  pub unnamed : is_member n shape.users ≡ false

-- a free user, or the user of a tag that is possible and has no USER entry, is such a user
pub outside : (shape : EntryShape) (keys : TagColumn) (extra : Option Tag) (free next own : ℕ)
    → AreFree shape keys free next own
    → ((id : ℕ) → extra ≡ Some (user id) → (not (is_member id shape.users) ≡ true) × (has_tag (user id) keys ≡ true))
    → IsOutside shape next (unwrap_or (option_or (extra_user extra) None) free)
outside shape keys None free next own f h = record { apart = f.differ; unnamed = f.free_user }
outside shape keys (Some user_obj) free next own f h = record { apart = f.differ; unnamed = f.free_user }
outside shape keys (Some (user id)) free next own f h =
    let two = h id refl in record { apart = f.next_key id two.1; unnamed = not-true _ two.0 }
outside shape keys (Some group_obj) free next own f h = record { apart = f.differ; unnamed = f.free_user }
outside shape keys (Some (group id)) free next own f h = record { apart = f.differ; unnamed = f.free_user }
outside shape keys (Some mask) free next own f h = record { apart = f.differ; unnamed = f.free_user }
outside shape keys (Some other) free next own f h = record { apart = f.differ; unnamed = f.free_user }

-- the user of a USER entry asks for it
pub asker-own : (shape : EntryShape) (keys : TagColumn) (u free : ℕ) (extra : Option Tag)
    → IsExtra (may_match shape (user u)) keys extra → asker (user u) extra free ≡ u
asker-own shape keys u free None is = refl
asker-own shape keys u free (Some user_obj) is = refl
asker-own shape keys u free (Some (user id)) is = absurd (false≢true is.0)
asker-own shape keys u free (Some group_obj) is = refl
asker-own shape keys u free (Some (group id)) is = refl
asker-own shape keys u free (Some mask) is = refl
asker-own shape keys u free (Some other) is = refl
