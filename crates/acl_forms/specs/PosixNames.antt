-- The names under which the ids of users and groups are written in a text of a POSIX ACL (acl(5), "LONG TEXT FORM": a
-- name or a number). That the first name of an id counts is this library's own.
use Rattle.std.specs.Prelude.{◌≡◌, ◌==◌, ◌||◌, ℕ, Bool, not, List, length, Option, None, Some, if◌then◌else◌}
use Rattle.std.specs.FinMap as fin
use Rattle.std.specs.Option.{option_and_then}
use Rattle.std.specs.Ordering.{nat_cmp}
use Rattle.acl_posix.specs.Names.{Table, is_number}
use Rattle.acl_posix.specs.Tag.{Tag, user, group}

-- the name of each id
abbrev pub NameOfId : Type 0
NameOfId = fin.FinMap nat_cmp (List ℕ)

-- the names of the ids of users, and those of the ids of groups
pub record NamesOfIds : Type 0 where
  pub users : NameOfId
  pub groups : NameOfId

-- no id has a name
abbrev pub no_id_names : NamesOfIds
no_id_names = record { users = fin.empty; groups = fin.empty }

-- the names with this one for an id, which keeps the name that it has
abbrev pub name_kept : NameOfId → ℕ → List ℕ → NameOfId
name_kept names id name = if fin.contains_key names id then names else fin.insert names id name

-- the names with one more for the id of a user
abbrev pub with_user_id : NamesOfIds → ℕ → List ℕ → NamesOfIds
with_user_id names id name = record { users = name_kept names.users id name; groups = names.groups }

-- the names with one more for the id of a group
abbrev pub with_group_id : NamesOfIds → ℕ → List ℕ → NamesOfIds
with_group_id names id name = record { users = names.users; groups = name_kept names.groups id name }

-- a name that is written in place of its id: digits alone would be read as an id, and no bytes as no qualifier
abbrev pub is_shown : List ℕ → Bool
is_shown name = not (length name == 0 || is_number name)

-- a name, if it is written in place of its id
abbrev pub if_shown : List ℕ → Option (List ℕ)
if_shown name = if is_shown name then Some name else None

-- the name of an id, if it is written in place of the id
abbrev pub shown_name : NameOfId → ℕ → Option (List ℕ)
shown_name names id = option_and_then if_shown (fin.get names id)

-- a table has each name that is written in place of an id, with this id
pub record HasNamesOfIds (table : Table) (names : NamesOfIds) : Type 0 where
  pub users : (id : ℕ) (name : List ℕ) → shown_name names.users id ≡ Some name → fin.get table.users name ≡ Some id
  pub groups : (id : ℕ) (name : List ℕ) → shown_name names.groups id ≡ Some name → fin.get table.groups name ≡ Some id

-- the name of the qualifier of a tag, if there is one
abbrev pub tag_name : NamesOfIds → Tag → Option (List ℕ)
tag_name names (user id) = shown_name names.users id
tag_name names (group id) = shown_name names.groups id
tag_name names tag = None
