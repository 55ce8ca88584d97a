-- The access check (acl(5), "ACCESS CHECK ALGORITHM").
use Rattle.std.specs.Prelude.{ℕ, Bool, false, ◌&&◌, ◌==◌, List, Option, Some, None, map, bit_and, if◌then◌else◌}
use Rattle.std.specs.List.{list_any}
use Rattle.std.specs.FinMap as set
use Rattle.acl_posix.specs.declared.id.Id.{Id}
use Rattle.acl_posix.specs.Tag.{Tag, user_obj, user, group_obj, group, mask, other}
use Rattle.acl_posix.specs.Entries.{Entries}

-- the owner and the owning group of the object
pub record Object : Type 0 where
  pub user : ℕ
  pub group : ℕ

-- who requests access: a user, and the groups of that user
pub record Requester : Type 0 where
  pub user : ℕ
  pub groups : List ℕ

-- the numbers of a list of ids
abbrev pub ids : List Id → List ℕ
ids list = map (λ id. id.value) list

-- the permissions contain all that is requested
abbrev pub contains : ℕ → ℕ → Bool
contains perm request = bit_and perm request == request

-- there are permissions, and they contain all that is requested
abbrev pub is_contained : Option ℕ → ℕ → Bool
is_contained None request = false
is_contained (Some perm) request = contains perm request

-- the tag has an entry, and it contains all that is requested
abbrev pub entry_contains : Entries → Tag → ℕ → Bool
entry_contains entries tag request = is_contained (set.get entries tag) request

-- the group is one of the groups of the requester
abbrev pub is_member : ℕ → List ℕ → Bool
is_member id groups = list_any (λ one. one == id) groups

-- the entry matches: GROUP_OBJ if the owning group is a group of the requester, GROUP if its qualifier is
abbrev pub tag_matches : ℕ → List ℕ → Tag → Bool
tag_matches owning_group groups user_obj = false
tag_matches owning_group groups (user id) = false
tag_matches owning_group groups group_obj = is_member owning_group groups
tag_matches owning_group groups (group id) = is_member id groups
tag_matches owning_group groups mask = false
tag_matches owning_group groups other = false

-- some GROUP_OBJ or GROUP entry matches
abbrev pub any_matches : Entries → ℕ → List ℕ → Bool
any_matches entries owning_group groups =
    list_any (λ entry. tag_matches owning_group groups entry.0) (set.entries entries)

-- some entry matches and contains all that is requested; two entries that contain it only together are not enough
abbrev pub any_contains : Entries → ℕ → List ℕ → ℕ → Bool
any_contains entries owning_group groups request =
    list_any (λ entry. tag_matches owning_group groups entry.0 && contains entry.1 request) (set.entries entries)

-- with a MASK, the MASK and some matching entry contain all that is requested; without one, the GROUP_OBJ entry does
abbrev pub class_contains : Entries → ℕ → List ℕ → ℕ → Bool
class_contains entries owning_group groups request =
    if set.contains_key entries mask
    then entry_contains entries mask request && any_contains entries owning_group groups request
    else entry_contains entries group_obj request

-- for the owner USER_OBJ decides; else, for a user with an entry, that entry and MASK; else, if an entry of a group
-- matches, such entries; else OTHER
unfoldable pub grants : Entries → Object → Requester → ℕ → Bool
grants entries object requester request =
    if requester.user == object.user then entry_contains entries user_obj request
    else (if set.contains_key entries (user requester.user)
    then entry_contains entries (user requester.user) request && entry_contains entries mask request
    else (if any_matches entries object.group requester.groups
    then class_contains entries object.group requester.groups request
    else entry_contains entries other request))
