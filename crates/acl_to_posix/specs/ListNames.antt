-- The users and the groups that play a part in what a list grants of read, write and execute (this library's own): they
-- are given by ids.
use Rattle.std.specs.Prelude.{◌≡◌, ◌≤◌, ◌<◌, ⊤, ℕ, ◌==◌, ◌&&◌, not, Bool, false, List, [], ◌∷◌, Option, None, Some, bit_and, if◌then◌else◌}
use Rattle.std.specs.List.{list_any}
use Rattle.acl_perm.specs.Bits.{all_permissions}
use Rattle.acl_perm.specs.Principal.{Principal, owner, user, group, group_named, everyone}
use Rattle.acl_posix.specs.Check.{is_member}
use Rattle.acl_posix.specs.Names.{Table}
use Rattle.acl_nfs4.specs.Ace.{Ace}
use Rattle.acl_nfs4.specs.Who.{principal_of}
use Rattle.acl_eval.specs.Bridge.{image}
use Rattle.acl_eval.specs.Column.{takes_part}
use Rattle.acl_ids.specs.Ids.{id_of_name}
use Rattle.acl_to_posix.specs.ToPosix.{EntryShape, size_of}

-- the ACE takes part, and has a right of read, write or execute
abbrev pub is_ace_relevant : Ace → Bool
is_ace_relevant a = takes_part a && not (bit_and a.mask (image all_permissions) == 0)

-- the id of a user
abbrev pub user_id_in : Table → Principal → Option ℕ
user_id_in table owner = None
user_id_in table (user name) = id_of_name table.users name
user_id_in table group = None
user_id_in table (group_named name) = None
user_id_in table everyone = None

-- the id of a group
abbrev pub group_id_in : Table → Principal → Option ℕ
group_id_in table owner = None
group_id_in table (user name) = None
group_id_in table group = None
group_id_in table (group_named name) = id_of_name table.groups name
group_id_in table everyone = None

-- the id of the user whom a relevant ACE names
abbrev pub relevant_user : Table → Ace → Option ℕ
relevant_user table a = if is_ace_relevant a then user_id_in table (principal_of a) else None

-- the id of the group that a relevant ACE names
abbrev pub relevant_group : Table → Ace → Option ℕ
relevant_group table a = if is_ace_relevant a then group_id_in table (principal_of a) else None

-- there is a number, and it is this one
abbrev pub is_number_of : Option ℕ → ℕ → Bool
is_number_of None id = false
is_number_of (Some n) id = n == id

-- a relevant ACE names the user of this id
abbrev pub names_user : Table → List Ace → ℕ → Bool
names_user table list id = list_any (λ a. is_number_of (relevant_user table a) id) list

-- a relevant ACE names the group of this id
abbrev pub names_group : Table → List Ace → ℕ → Bool
names_group table list id = list_any (λ a. is_number_of (relevant_group table a) id) list

-- no number is there twice
abbrev pub AreOnce : List ℕ → Type 0
AreOnce [] = ⊤
AreOnce (n ∷ numbers) = (is_member n numbers ≡ false) × AreOnce numbers

-- the shape has the users and the groups that the list names in ACEs that count, and no others, and each once
pub record AreNamesOf (table : Table) (list : List Ace) (shape : EntryShape) : Type 0 where
  pub users : (id : ℕ) → is_member id shape.users ≡ names_user table list id
  pub groups : (id : ℕ) → is_member id shape.groups ≡ names_group table list id
  pub users_once : AreOnce shape.users
  pub groups_once : AreOnce shape.groups

-- the users and the groups that the list names, each once, are at most a bound
pub record AreFewNames (most : ℕ) (table : Table) (list : List Ace) : Type 0 where
  pub named : EntryShape
  pub names : AreNamesOf table list named
  pub few : size_of named ≤ most

-- the users and the groups that the list names, each once, are more than a bound
pub record AreMoreNames (most : ℕ) (table : Table) (list : List Ace) : Type 0 where
  pub named : EntryShape
  pub names : AreNamesOf table list named
  pub more : most < size_of named
