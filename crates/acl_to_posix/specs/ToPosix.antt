-- Which POSIX ACLs grant no more than an NFSv4 list (this library's own: neither RFC 8881 nor acl(5) says how to make
-- one). The access check of acl(5), "ACCESS CHECK ALGORITHM", asks by ids, so the list is one whose names are the
-- digits of ids.
use Rattle.std.specs.Prelude.{◌≡◌, ◌<◌, ◌↔◌, ◌⊎◌, ℕ, ◌+◌, ◌==◌, ◌&&◌, ◌||◌, not, Bool, false, true, IsTrue, List, length, None, Some}
use Rattle.std.specs.List.{list_any}
use Rattle.std.specs.FinMap as set
use Rattle.acl_perm.specs.Bits.{IsPerm}
use Rattle.acl_posix.specs.Check.{Object, Requester, entry_contains, grants, is_member}
use Rattle.acl_posix.specs.Entries.{Entries}
use Rattle.acl_posix.specs.Excess.{GrantsNothingMore}
use Rattle.acl_posix.specs.Mask.{effective_of, with_mask}
use Rattle.acl_posix.specs.Tag.{Tag, user_obj, user, group_obj, group, mask, other}
use Rattle.acl_posix.specs.Texts.{IsAcl}
use Rattle.acl_nfs4.specs.Ace.{Ace}
use Rattle.acl_eval.specs.Bridge.{image}
use Rattle.acl_eval.specs.BridgeLaws.{IsAsked, by_name}
use Rattle.acl_eval.specs.Grant.{Grant}

-- ---- sound

-- whatever set of permissions the ACL grants to a requester on an object, the list grants the rights of these
-- permissions
abbrev pub IsSound : List Ace → Entries → Type 0
IsSound list entries = (object : Object) (requester : Requester) → IsAsked object requester
    → (want : ℕ) → IsPerm want → IsTrue (grants entries object requester want)
    → Grant list (by_name object requester) (image want)

-- ---- the users and the groups that have entries

-- the ids of users and of groups
pub record EntryShape : Type 0 where
  pub users : List ℕ
  pub groups : List ℕ

-- how many entries a shape asks for, counted with repetitions
abbrev pub size_of : EntryShape → ℕ
size_of shape = length shape.users + length shape.groups

-- an ACL of the shape has an entry for the tag, MASK aside
abbrev pub is_in_shape : EntryShape → Tag → Bool
is_in_shape shape user_obj = true
is_in_shape shape (user id) = is_member id shape.users
is_in_shape shape group_obj = true
is_in_shape shape (group id) = is_member id shape.groups
is_in_shape shape mask = false
is_in_shape shape other = true

-- the ACL has USER entries for these users and no others, and GROUP entries for these groups and no others
pub record HasShape (shape : EntryShape) (entries : Entries) : Type 0 where
  pub users : (id : ℕ) → set.contains_key entries (user id) ≡ is_member id shape.users
  pub groups : (id : ℕ) → set.contains_key entries (group id) ≡ is_member id shape.groups

-- ---- the entries that the check looks at

-- the requester is not the owner and has no USER entry
abbrev pub is_in_class : EntryShape → Object → Requester → Bool
is_in_class shape object requester =
    not (requester.user == object.user) && not (is_member requester.user shape.users)

-- the check of acl(5) looks at the entry of a tag in ACLs of the shape: USER_OBJ for the owner; else the USER entry of
-- the requester; else GROUP_OBJ and each GROUP entry for a group of the requester; else OTHER
abbrev pub looks_at : EntryShape → Object → Requester → Tag → Bool
looks_at shape object requester user_obj = requester.user == object.user
looks_at shape object requester (user id) =
    not (requester.user == object.user) && (requester.user == id && is_member id shape.users)
looks_at shape object requester group_obj =
    is_in_class shape object requester && is_member object.group requester.groups
looks_at shape object requester (group id) =
    is_in_class shape object requester && (is_member id requester.groups && is_member id shape.groups)
looks_at shape object requester mask = false
looks_at shape object requester other = is_in_class shape object requester
    && not (list_any (λ id. id == object.group || is_member id shape.groups) requester.groups)

-- ---- the ACL of a shape

-- the list grants the rights of some permissions in every situation in which the check looks at the entry of the tag
abbrev pub AlwaysHas : List Ace → EntryShape → Tag → ℕ → Type 0
AlwaysHas list shape tag want = (object : Object) (requester : Requester) → IsAsked object requester
    → looks_at shape object requester tag ≡ true → Grant list (by_name object requester) (image want)

-- the ACL of a shape for a list: each entry has the permissions of which the list grants the rights in every situation
-- in which the check looks at the entry; without users and groups there is no MASK, and with one of them there is the
-- MASK that is calculated, which takes nothing away
pub record IsBest (list : List Ace) (shape : EntryShape) (entries : Entries) : Type 0 where
  pub valid : IsAcl entries
  pub shaped : HasShape shape entries
  pub each : (tag : Tag) → is_in_shape shape tag ≡ true → (want : ℕ) → IsPerm want
      → IsTrue (entry_contains entries tag want) ↔ AlwaysHas list shape tag want
  pub mask : ((size_of shape ≡ 0) × (set.get entries mask ≡ None))
      ⊎ ((0 < size_of shape) × (with_mask entries ≡ entries))
  pub kept : (entry : Tag × ℕ) → set.get entries entry.0 ≡ Some entry.1 → effective_of entries entry ≡ entry.1

-- each sound ACL of the shape grants nothing more than the ACL
abbrev pub IsGreatest : List Ace → EntryShape → Entries → Type 0
IsGreatest list shape entries = (one : Entries) → IsAcl one → HasShape shape one → IsSound list one
    → GrantsNothingMore one entries
