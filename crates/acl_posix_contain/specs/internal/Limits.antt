-- At which entries the access check looks, and which of their permissions stay under a bound (this library's own, over
-- acl(5), "ACCESS CHECK ALGORITHM").
use Rattle.std.specs.Prelude.{◌≡◌, ℕ, ◌<◌, ◌≤◌, ◌^◌, ◌⊎◌, Bool, true, false, not, ◌&&◌, ◌||◌, ◌==◌, if◌then◌else◌, IfSome, IsSome, Option, Some, get_or, is_none, length}
use Rattle.std.specs.List.{All, list_all}
use Rattle.std.specs.FinMap as set
use Rattle.acl_perm.specs.Bits.{has_bit, IsSubset}
use Rattle.acl_posix.specs.Check.{any_matches, entry_contains, grants, is_member, Object, Requester}
use Rattle.acl_posix.specs.Entries.{Entries, IsEntry}
use Rattle.acl_posix.specs.Excess.{AreParties}
use Rattle.acl_posix.specs.Tag.{Tag, user_obj, user, group_obj, group, mask, other, is_masked}
use Rattle.acl_posix.specs.Valid.{IsValid}
use Rattle.acl_posix.specs.declared.id.Id.{Id}
use Rattle.acl_posix.specs.internal.GroupAnswers.{either_names, IsFreeId}
use Rattle.acl_posix_contain.specs.Removal.{IsPosixRemoval, permissions}
use Rattle.acl_posix_contain.specs.declared.restricting.limits.Class.{Class}
use Rattle.acl_posix_contain.specs.declared.restricting.limits.Limits.{Limits}
use Rattle.acl_posix_contain.specs.declared.restricting.limits.Class.TheVariants.{Groups, NewGroups, NewUsers}

-- MASK contains the request, or there is no MASK
abbrev pub mask_contains : Entries → ℕ → Bool
mask_contains entries request = if set.contains_key entries mask then entry_contains entries mask request else true

-- MASK contains the request, if it limits the entry
abbrev pub passes : Entries → Tag → ℕ → Bool
passes entries tag request = if is_masked tag then mask_contains entries request else true

-- the entry grants the request
abbrev pub holds : Entries → Tag → ℕ → Bool
holds entries tag request = entry_contains entries tag request && passes entries tag request

-- neither USER_OBJ nor a USER entry is about the requester
abbrev pub is_stranger : Entries → Object → Requester → Bool
is_stranger entries object requester =
    not (requester.user == object.user) && not (set.contains_key entries (user requester.user))

-- the check looks at the entry, if there is one: at USER_OBJ for the owner; else at the USER entry of the requester;
-- else at GROUP_OBJ and each GROUP entry for a group of the requester; else at OTHER
abbrev pub is_looked_at : Entries → Object → Requester → Tag → Bool
is_looked_at entries object requester user_obj = requester.user == object.user
is_looked_at entries object requester (user id) = not (requester.user == object.user) && (requester.user == id)
is_looked_at entries object requester group_obj =
    is_stranger entries object requester && is_member object.group requester.groups
is_looked_at entries object requester (group id) = is_stranger entries object requester && is_member id requester.groups
is_looked_at entries object requester mask = false
is_looked_at entries object requester other =
    is_stranger entries object requester && not (any_matches entries object.group requester.groups)

-- the bound grants the request to everybody for whom the check looks at the entry
abbrev pub EntryStays : Entries → Entries → ℕ → Tag → Type 0
EntryStays entries bound request tag =
    (object : Object) (requester : Requester) → AreParties object requester
    → is_looked_at entries object requester tag ≡ true → grants bound object requester request ≡ true

-- each permission stayed if and only if MASK hides it or everybody who gets it by its entry gets it from the bound
pub record IsPosixRestricted (entries bound cut : Entries) : Type 0 where
  pub removal : IsPosixRemoval entries cut
  pub stays : (tag : Tag) (bit : ℕ) → bit < 3 → has_bit (permissions cut tag) bit ≡ true
      → passes entries tag (2 ^ bit) ≡ true → EntryStays entries bound (2 ^ bit) tag
  pub kept : (tag : Tag) (bit : ℕ) → has_bit (permissions entries tag) bit ≡ true
      → (bit < 3 → passes entries tag (2 ^ bit) ≡ true → EntryStays entries bound (2 ^ bit) tag)
      → has_bit (permissions cut tag) bit ≡ true

-- the permissions r, w and x for which a test holds
abbrev pub ArePassing : ℕ → (ℕ → Bool) → Type 0
ArePassing perm test = (bit : ℕ) → bit < 3 → has_bit perm bit ≡ test (2 ^ bit)

-- the tag is one of a class
abbrev pub is_of_class : Entries → Class → Tag → Bool
is_of_class entries NewUsers (user id) = not (set.contains_key entries (user id))
is_of_class entries Groups (group id) = true
is_of_class entries NewGroups (group id) = not (set.contains_key entries (group id))
is_of_class entries class tag = false

-- each entry of a class grants the request
abbrev pub all_hold : Entries → Entries → Class → ℕ → Bool
all_hold entries bound class request =
    list_all (λ tag. not (is_of_class entries class tag) || holds bound tag request) (set.keys bound)

-- the bound grants the request to everybody in the owning group whom it does not name, where it has entries of all
-- groups or not
abbrev pub owning_get : Entries → Entries → Bool → ℕ → Bool
owning_get entries bound every request =
    holds bound group_obj request || (every && all_hold entries bound Groups request)

-- the bound grants the request to everybody whom it does not name
abbrev pub strangers_get : Entries → Entries → Bool → ℕ → Bool
strangers_get entries bound every request =
    holds bound other request
    && (all_hold entries bound Groups request && owning_get entries bound every request)

-- the bound grants the request to everybody whom it does not name and of whom the entries list no group
abbrev pub others_get : Entries → Entries → ℕ → Bool
others_get entries bound request = holds bound other request && all_hold entries bound NewGroups request

-- the bound grants the request to the users whom it names and the entries do not name, and, if some user is named by
-- neither, such users pass a test
abbrev pub class_get : Entries → Entries → Bool → ℕ → Bool → Bool
class_get entries bound every request test = all_hold entries bound NewUsers request && (every || test)

-- the entry of the bound grants the request, or, if there is none, a test holds
abbrev pub entry_gets : Entries → Tag → ℕ → Bool → Bool
entry_gets bound tag request test = if set.contains_key bound tag then holds bound tag request else test

-- the bound grants the request to everybody for whom the check looks at the entry, by whether each user is named and
-- each group listed
abbrev pub gets : Entries → Entries → Bool → Bool → ℕ → Tag → Bool
gets entries bound users groups request user_obj = holds bound user_obj request
gets entries bound users groups request (user id) =
    entry_gets bound (user id) request (strangers_get entries bound groups request)
gets entries bound users groups request group_obj =
    class_get entries bound users request (owning_get entries bound groups request)
gets entries bound users groups request (group id) =
    class_get entries bound users request
    (entry_gets bound (group id) request (strangers_get entries bound groups request))
gets entries bound users groups request mask = true
gets entries bound users groups request other =
    class_get entries bound users request (others_get entries bound request)

-- what a bound grants to the requesters of each kind, by whether each group is listed
pub record HaveLimits (entries bound : Entries) (groups : Bool) (l : Limits) : Type 0 where
  pub new_users : ArePassing l.new_users.bits (all_hold entries bound NewUsers)
  pub owning : ArePassing l.owning.bits (owning_get entries bound groups)
  pub strangers : ArePassing l.strangers.bits (strangers_get entries bound groups)
  pub others : ArePassing l.others.bits (others_get entries bound)

-- the same for the users and groups that there are, where the bound is a valid ACL
pub record ArePosixLimits (entries bound : Entries) (l : Limits) : Type 0 where
  pub valid : IsValid bound
  pub within : All IsEntry (set.entries bound)
  pub free_group : Option Id
  pub users : IsFreeId (either_names entries bound) l.free_user
  pub groups : IsFreeId (λ id. set.contains_key bound (group id)) free_group
  pub limits : HaveLimits entries bound (is_none free_group) l

-- of the permissions of an entry, those stay that MASK hides or that the bound grants to everybody
pub record IsKept (entries bound : Entries) (tag : Tag) (perm cut : ℕ) : Type 0 where
  pub within : IsSubset cut perm
  pub mask : tag ≡ mask → cut ≡ perm
  pub stays : (bit : ℕ) → bit < 3 → has_bit cut bit ≡ true → passes entries tag (2 ^ bit) ≡ true
      → EntryStays entries bound (2 ^ bit) tag
  pub kept : (bit : ℕ) → has_bit perm bit ≡ true
      → (bit < 3 → passes entries tag (2 ^ bit) ≡ true → EntryStays entries bound (2 ^ bit) tag) → has_bit cut bit ≡ true

-- the entry of a tag has kept what stays
abbrev pub HasKeptEntry : Entries → Entries → Tag → ℕ → Option ℕ → Type 0
HasKeptEntry entries bound tag perm found = IfSome found (IsKept entries bound tag perm) × IsSome found

-- the tag has an entry from a place on
abbrev pub IsFrom : Entries → ℕ → Tag → Type 0
IsFrom entries place tag =
    (at : ℕ) × (place ≤ at) × (at < length (set.keys entries)) × (get_or (set.keys entries) at tag ≡ tag)

-- the entries before a place have kept what stays, and the others are as they were
pub record HaveKeptEntries (entries bound : Entries) (place : ℕ) (cut : Entries) : Type 0 where
  pub tags : (tag : Tag) → set.contains_key cut tag ≡ set.contains_key entries tag
  pub each : (tag : Tag) (perm : ℕ) → set.get entries tag ≡ Some perm
      → HasKeptEntry entries bound tag perm (set.get cut tag)
      ⊎ ((set.get cut tag ≡ Some perm) × IsFrom entries place tag)
