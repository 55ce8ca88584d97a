-- The object and the requester of an entry and one more tag are given by ids.
use Rattle.std.proofs.Common.{◌≡◌, ℕ, Bool, true, false, List, [], ◌∷◌, ◌++◌, Option, None, Some, refl, sym, subst}
use Rattle.std.proofs.lemmas.List.Elements.{All-from_recursion}
use Rattle.std.specs.Prelude.{⊤, ◌||◌, if◌then◌else◌, unwrap_or}
use Rattle.std.specs.List.{AllByRecursion}
use Rattle.std.specs.Option.{option_or}
use Rattle.std.specs.Ordering.{eq_by_cmp}
use Rattle.acl_posix.specs.Check.{is_member}
use Rattle.acl_posix.specs.Id.{IsId}
use Rattle.acl_posix.specs.Tag.{Tag, user_obj, user, group_obj, group, mask, other, tag_cmp, tag_of, IsTag}
use Rattle.acl_posix.proofs.Exports.{same_tag, tag_within}
use Rattle.acl_posix.specs.internal.GroupAnswers.{user_id as user_in}
use Rattle.acl_eval.specs.BridgeLaws.{IsAsked}
use Rattle.acl_to_posix.specs.ToPosix.{EntryShape, is_in_shape}
use Rattle.acl_to_posix.specs.internal.ShapeBody.{has_tag, may_match, keys_of}
use Rattle.acl_to_posix.specs.declared.tag_column.TagKey.{TagKey}
use Rattle.acl_to_posix.specs.internal.LossBody.{groups_for, is_owner_tag}
use Rattle.acl_to_posix.proofs.Passes.{IsExtra}
use Rattle.acl_to_posix.proofs.no_greatest.FreeIds.{AreFree}
use Rattle.acl_to_posix.proofs.TagRequesters.{asker, extra_groups, object_at, requester_at}

-- each user and each group of the shape is an id
pub record HasIds (shape : EntryShape) : Type 0 where
  pub users : (id : ℕ) → is_member id shape.users ≡ true → IsId id
  pub groups : (id : ℕ) → is_member id shape.groups ≡ true → IsId id

-- an entry of the shape has an id, if it has a qualifier
pub entry_id : (shape : EntryShape) (entry : Tag) → HasIds shape → is_in_shape shape entry ≡ true → IsTag entry
entry_id shape user_obj h there = tt
entry_id shape (user id) h there = h.users id there
entry_id shape group_obj h there = tt
entry_id shape (group id) h there = h.groups id there
entry_id shape mask h there = tt
entry_id shape other h there = tt

-- so does the tag of a key
IsTag-key : (t : Tag) (keys : List TagKey) → has_tag t (keys_of keys) ≡ true → IsTag t
IsTag-key t [] h = absurd cc
IsTag-key t (k ∷ keys) h = by (IsTag-key t keys) (eq_by_cmp tag_cmp t (tag_of k.whom)) refl h
  where
    by : (has_tag t (keys_of keys) ≡ true → IsTag t) → (b : Bool) → eq_by_cmp tag_cmp t (tag_of k.whom) ≡ b
        → (b || has_tag t (keys_of keys)) ≡ true → IsTag t
    by rest true e h = subst IsTag (sym (same_tag t (tag_of k.whom) e)) (tag_within k.whom)
    by rest false e h = rest h

-- the user of a tag, or another one if it has none, is an id
user_id : (t : Tag) (e : Option ℕ) (free : ℕ) → IsTag t → IsId (unwrap_or e free)
    → IsId (unwrap_or (option_or (user_in t) e) free)
user_id user_obj e free is rest = rest
user_id (user id) e free is rest = is
user_id group_obj e free is rest = rest
user_id (group id) e free is rest = rest
user_id mask e free is rest = rest
user_id other e free is rest = rest

-- the user of a tag, or a free one if it has none, is an id
own_user_id : (t : Tag) (free : ℕ) → IsTag t → IsId free → IsId (unwrap_or (user_in t) free)
own_user_id user_obj free is f = f
own_user_id (user id) free is f = is
own_user_id group_obj free is f = f
own_user_id (group id) free is f = f
own_user_id mask free is f = f
own_user_id other free is f = f

-- the groups of a tag are ids, with other ids behind them
group_ids : (own : ℕ) (t : Tag) (rest : List ℕ) → IsTag t → IsId own → AllByRecursion IsId rest
    → AllByRecursion IsId (groups_for own t ++ rest)
group_ids own user_obj rest is o h = h
group_ids own (user id) rest is o h = h
group_ids own group_obj rest is o h = (o, h)
group_ids own (group id) rest is o h = (is, h)
group_ids own mask rest is o h = h
group_ids own other rest is o h = h

-- the tag besides has an id, if it has a qualifier
abbrev pub IsTagged : Option Tag → Type 0
IsTagged None = ⊤
IsTagged (Some x) = IsTag x

-- so it is if the tag besides is one of the keys
IsTagged-extra : (keys : List TagKey) (possible : Tag → Bool) (extra : Option Tag)
    → IsExtra possible (keys_of keys) extra
    → IsTagged extra
IsTagged-extra keys possible None besides = tt
IsTagged-extra keys possible (Some x) besides = IsTag-key x keys besides.1

-- the user who requests access is an id
IsId-asker : (entry : Tag) (extra : Option Tag) (free : ℕ) → IsTag entry → IsTagged extra → IsId free
    → IsId (asker entry extra free)
IsId-asker entry None free is besides f = own_user_id entry free is f
IsId-asker entry (Some x) free is besides f = user_id x (user_in entry) free besides (own_user_id entry free is f)

-- the groups of the tag besides are ids
besides_ids : (own : ℕ) (extra : Option Tag) → IsTagged extra → IsId own → AllByRecursion IsId (extra_groups own extra)
besides_ids own None besides o = tt
besides_ids own (Some x) besides o =
    subst (AllByRecursion IsId) (nothing own x) (group_ids own x [] besides o tt)
  where
    nothing : (own : ℕ) (t : Tag) → groups_for own t ++ [] ≡ groups_for own t
    nothing own user_obj = refl
    nothing own (user id) = refl
    nothing own group_obj = refl
    nothing own (group id) = refl
    nothing own mask = refl
    nothing own other = refl

-- the owner of the object is an id
IsId-owner : (entry : Tag) (n next : ℕ) → IsId n → IsId next → IsId (if is_owner_tag entry then n else next)
IsId-owner user_obj n next h g = h
IsId-owner (user id) n next h g = g
IsId-owner group_obj n next h g = g
IsId-owner (group id) n next h g = g
IsId-owner mask n next h g = g
IsId-owner other n next h g = g

-- the object and the requester are given by ids
pub asked_by_tags : (entry : Tag) (extra : Option Tag) (free next own : ℕ) → IsTag entry → IsTagged extra → IsId free
    → IsId next → IsId own → IsAsked (object_at entry extra free next own) (requester_at entry extra free own)
asked_by_tags entry extra free next own e x f n o =
    let a = IsId-asker entry extra free e x f in
    record {
      owner = IsId-owner entry (asker entry extra free) next a n;
      owning_group = o;
      asker = a;
      groups = All-from_recursion IsId _ (group_ids own entry (extra_groups own extra) e o (besides_ids own extra x o));
    }

-- the same for an entry of a shape, and the tag of a key that is possible
pub asked_at : (shape : EntryShape) (keys : List TagKey) (entry : Tag) (extra : Option Tag) (free next own : ℕ)
    → HasIds shape → AreFree shape (keys_of keys) free next own → is_in_shape shape entry ≡ true
    → IsExtra (may_match shape entry) (keys_of keys) extra
    → IsAsked (object_at entry extra free next own) (requester_at entry extra free own)
asked_at shape keys entry extra free next own ids f there is = asked_by_tags entry extra free next own
    (entry_id shape entry ids there) (IsTagged-extra keys (may_match shape entry) extra is) f.free_id f.next_id f.own_id
