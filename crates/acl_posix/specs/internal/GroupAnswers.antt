-- What a set answers to a request by the groups of a requester, and by one of them (this library's own).
use Rattle.std.specs.Prelude.{ℕ, ◌≡◌, Bool, true, false, ◌&&◌, ◌||◌, List, Option, Some, None, unwrap_or, MatchOption, IfSome, IsNone, if◌then◌else◌}
use Rattle.std.specs.FinMap as set
use Rattle.acl_posix.specs.declared.difference.FewGroups.{FewGroups}
use Rattle.acl_posix.specs.declared.difference.PosixDifference.{PosixDifference}
use Rattle.acl_posix.specs.declared.id.Id.{Id}
use Rattle.acl_posix.specs.Check.{any_matches, class_contains, entry_contains}
use Rattle.acl_posix.specs.Entries.{Entries}
use Rattle.acl_posix.specs.Excess.{group_numbers, IsPosixExcess}
use Rattle.acl_posix.specs.Id.{IsId}
use Rattle.acl_posix.specs.Tag.{Tag, user_obj, user, group_obj, group, mask, other}
use Rattle.acl_posix.specs.internal.GroupSearch.{group_contains}

-- the answer to a requester who is not the owner and whom no USER entry names
unfoldable pub stranger_grants : Entries → ℕ → List ℕ → ℕ → Bool
stranger_grants entries owning_group groups request =
    if any_matches entries owning_group groups
    then class_contains entries owning_group groups request
    else entry_contains entries other request

-- the answer of the entries that match by one group; none if no entry matches
unfoldable pub group_answer : Entries → ℕ → ℕ → ℕ → Option Bool
group_answer entries owning_group request id =
    if group_contains entries owning_group 0 id
    then Some (if set.contains_key entries mask
    then entry_contains entries mask request && group_contains entries owning_group request id
    else entry_contains entries group_obj request)
    else None

-- the answer of the entry of a user, with the MASK; none if the user has no entry
unfoldable pub user_answer : Entries → ℕ → ℕ → Option Bool
user_answer entries id request =
    if set.contains_key entries (user id)
    then Some (entry_contains entries (user id) request && entry_contains entries mask request)
    else None

-- the answer to a requester who is not the owner
abbrev pub answer_of : Entries → ℕ → ℕ → List ℕ → ℕ → Bool
answer_of entries owning_group id groups request =
    unwrap_or (user_answer entries id request) (stranger_grants entries owning_group groups request)

-- the group of a tag, if the tag is GROUP
abbrev pub group_id : Tag → Option ℕ
group_id user_obj = None
group_id (user id) = None
group_id group_obj = None
group_id (group id) = Some id
group_id mask = None
group_id other = None

-- the user of a tag, if the tag is USER
abbrev pub user_id : Tag → Option ℕ
user_id user_obj = None
user_id (user id) = Some id
user_id group_obj = None
user_id (group id) = None
user_id mask = None
user_id other = None

-- the tag is that of the owner
abbrev pub is_owner_tag : Tag → Bool
is_owner_tag user_obj = true
is_owner_tag (user id) = false
is_owner_tag group_obj = false
is_owner_tag (group id) = false
is_owner_tag mask = false
is_owner_tag other = false

-- two sets give these answers to one group
pub record HasAnswers (one two : Entries) (owning_group request : ℕ) (own : Bool) (others : Option Bool) (id : ℕ)
    : Type 0 where
  pub own_is : group_answer one owning_group request id ≡ Some own
  pub others_is : group_answer two owning_group request id ≡ others

-- groups with which a set gives an answer, or none if it gives it with no groups
pub record Reaches (entries : Entries) (owning_group request : ℕ) (answer : Bool) (found : Option FewGroups)
    : Type 0 where
  pub some : IfSome found (λ few. stranger_grants entries owning_group (group_numbers few) request ≡ answer)
  pub none : IsNone found → (groups : List ℕ) → stranger_grants entries owning_group groups request ≡ answer → ⊥

-- with these groups the first set grants what the second denies
pub record IsGroupExcess (first second : Entries) (owning_group request : ℕ) (groups : List ℕ) : Type 0 where
  pub granted : stranger_grants first owning_group groups request ≡ true
  pub denied : stranger_grants second owning_group groups request ≡ false

-- to this user with these groups the first set grants what the second denies
pub record IsUserExcess (first second : Entries) (owning_group request id : ℕ) (groups : List ℕ) : Type 0 where
  pub granted : answer_of first owning_group id groups request ≡ true
  pub denied : answer_of second owning_group id groups request ≡ false

-- the user has an entry in one of two sets
abbrev pub either_names : Entries → Entries → ℕ → Bool
either_names first second id = set.contains_key first (user id) || set.contains_key second (user id)

-- the group has an entry in one of two sets
abbrev pub either_lists : Entries → Entries → ℕ → Bool
either_lists first second id = set.contains_key first (group id) || set.contains_key second (group id)

-- an id that does not pass a test, or none if all ids pass it
abbrev pub IsFreeId : (ℕ → Bool) → Option Id → Type 0
IsFreeId taken found =
    MatchOption found ((id : ℕ) → IsId id → taken id ≡ true) (λ id. taken id.value ≡ false)

-- with any groups the first set grants this user nothing that the second denies
abbrev pub NoExcessAt : Entries → Entries → ℕ → ℕ → ℕ → Type 0
NoExcessAt first second owning_group request id =
    (groups : List ℕ) → IsUserExcess first second owning_group request id groups → ⊥

-- each user whom a set names is named by one of two sets
abbrev pub NamesUsers : Entries → Entries → Entries → Type 0
NamesUsers entries first second =
    (id : ℕ) → set.contains_key entries (user id) ≡ true → either_names first second id ≡ true

-- the first set grants no user this request if the second denies it: the user is not the owner
abbrev pub NoUserExcess : Entries → Entries → ℕ → ℕ → Type 0
NoUserExcess first second owning_group request =
    (id : ℕ) → IsId id → NoExcessAt first second owning_group request id

-- a difference for this request
pub record IsExcessOf (first second : Entries) (request : ℕ) (d : PosixDifference) : Type 0 where
  pub excess : IsPosixExcess first second d
  pub asks : d.request.bits ≡ request
