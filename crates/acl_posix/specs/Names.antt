-- Tables of names: the ids of users and of groups, and which names may be added. This library's own.
use Rattle.std.specs.Prelude.{ℕ, ◌≡◌, ◌==◌, not, ◌&&◌, Bool, List, length, Option, Some, None, IfSome, Result, OnOk, OnErr, IfErr, if◌then◌else◌}
use Rattle.std.specs.List.{list_all}
use Rattle.std.specs.Char.{is_ascii_digit}
use Rattle.std.specs.Option.{is_none}
use Rattle.std.specs.Ordering.{nat_cmp}
use Rattle.std.specs.Cmp.Lexicographic.{slice_cmp}
use Rattle.std.specs.FinMap as fin
use Rattle.acl_posix.specs.Id.{IsId}
use Rattle.acl_posix.specs.declared.names.NameFault.{NameFault}
use Rattle.acl_posix.specs.declared.names.NameFault.TheVariants as faults

-- the id of each name, by the bytes of the name
abbrev pub Ids : Type 0
Ids = fin.FinMap (slice_cmp nat_cmp) ℕ

-- the ids of user names, and those of group names
pub record Table : Type 0 where
  pub users : Ids
  pub groups : Ids

-- the table without names
abbrev pub empty_table : Table
empty_table = record { users = fin.empty; groups = fin.empty }

-- the table with one more user name
abbrev pub with_user : Table → List ℕ → ℕ → Table
with_user table name id = record { users = fin.insert table.users name id; groups = table.groups }

-- the table with one more group name
abbrev pub with_group : Table → List ℕ → ℕ → Table
with_group table name id = record { users = table.users; groups = fin.insert table.groups name id }

-- the number of each name is an id
abbrev pub AreIds : Ids → Type 0
AreIds ids = (name : List ℕ) → IfSome (fin.get ids name) IsId

-- the number of each user name and of each group name is an id
pub record IsNameTable (table : Table) : Type 0 where
  pub users : AreIds table.users
  pub groups : AreIds table.groups

-- digits alone, and at least one
abbrev pub is_number : List ℕ → Bool
is_number bytes = not (length bytes == 0) && list_all is_ascii_digit bytes

-- why a name may not be added to this table, in the order in which it is judged
abbrev pub name_fault : Ids → List ℕ → Option NameFault
name_fault ids name =
    if length name == 0 then Some faults.EmptyName
    else (if is_number name then Some faults.DigitsOnly
    else (if fin.contains_key ids name then Some faults.Taken
    else None))

-- the table with one more user name, if the name may be added
abbrev pub user_added : Table → List ℕ → ℕ → Option Table
user_added table name id = if is_none (name_fault table.users name) then Some (with_user table name id) else None

-- the table with one more group name, if the name may be added
abbrev pub group_added : Table → List ℕ → ℕ → Option Table
group_added table name id = if is_none (name_fault table.groups name) then Some (with_group table name id) else None

-- what a refusal says: why the name may not be added, or that it may be added and memory ran out
abbrev pub IsNameFault : Ids → List ℕ → NameFault → Type 0
IsNameFault ids name faults.EmptyName = name_fault ids name ≡ Some faults.EmptyName
IsNameFault ids name faults.DigitsOnly = name_fault ids name ≡ Some faults.DigitsOnly
IsNameFault ids name faults.Taken = name_fault ids name ≡ Some faults.Taken
IsNameFault ids name faults.Memory = name_fault ids name ≡ None

-- a call that adds a name to one half of a table: these ids before the call, the table before and after it, and the
-- table with the name
pub record AddsName (ids : Ids) (name : List ℕ) (before after with_name : Table) (r : Result (Unit {0}) NameFault)
    : Type 0 where
  -- the name is added, and nothing else
  pub added : OnOk r (after ≡ with_name)
  -- the name may be added
  pub free : OnOk r (name_fault ids name ≡ None)
  -- a refusal says why the name is not added
  pub fault : IfErr r (IsNameFault ids name)
  -- a refusal leaves the table as it was
  pub kept : OnErr r (after ≡ before)
