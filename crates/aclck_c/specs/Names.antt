-- The table of names that a call from C is given, and the names that it gives for ids (this library's own).
use Rattle.std.specs.Prelude.{◌≡◌, ◌==◌, ℕ, [], ◌∷◌, IsSome, List, None, Option, Some, if◌then◌else◌, nat_le}
use Rattle.std.specs.Option.{option_and_then}
use Rattle.acl_posix.specs.Id.{greatest_id}
use Rattle.acl_posix.specs.Names.{Table, empty_table, group_added, user_added}
use Rattle.acl_forms.specs.PosixNames.{NamesOfIds, no_id_names, with_group_id, with_user_id}
use Rattle.aclck_c.specs.declared.posix.names.RawName.{RawName}

-- the table with one more name; `is_group` is 0 for the name of a user and 1 for the name of a group
abbrev pub half_added : ℕ → Table → List ℕ → ℕ → Option Table
half_added is_group table name id =
    if is_group == 0 then user_added table name id
    else (if is_group == 1 then group_added table name id else None)

-- the table with one more name, if its id is an id
abbrev pub name_added : Table → RawName → Option Table
name_added table n =
    if nat_le n.id greatest_id then half_added n.is_group table n.name.now n.id else None

-- the table with some more names, one after the other
abbrev pub names_added : Table → List RawName → Option Table
names_added table [] = Some table
names_added table (n ∷ more) = option_and_then (λ t. names_added t more) (name_added table n)

-- the names make this table
abbrev pub AreNames : List RawName → Table → Type 0
AreNames names table = names_added empty_table names ≡ Some table

-- the names make a table
abbrev pub AreGoodNames : List RawName → Type 0
AreGoodNames names = IsSome (names_added empty_table names)

-- ---- names under which ids are written

-- the names with that of a row for its id, which keeps the name that it has
abbrev pub id_name_added : NamesOfIds → RawName → NamesOfIds
id_name_added names n =
    if n.is_group == 0 then with_user_id names n.id n.name.now else with_group_id names n.id n.name.now

-- the names with those of some more rows, one after the other
abbrev pub id_names_added : NamesOfIds → List RawName → NamesOfIds
id_names_added names [] = names
id_names_added names (n ∷ more) = id_names_added (id_name_added names n) more

-- the names of the ids of rows: the first row with an id has its name
abbrev pub names_of_ids : List RawName → NamesOfIds
names_of_ids rows = id_names_added no_id_names rows
