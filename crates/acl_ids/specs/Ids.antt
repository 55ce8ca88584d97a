-- Lists whose users and groups are ids (this library's own): a table gives ids for names, and the decimal digits of an
-- id are a name of it too. By these digits an id is compared (RFC 8881, section 6.2.1.5).
use Rattle.std.specs.Prelude.{⊤, ◌≡◌, ℕ, ◌==◌, ◌&&◌, not, Bool, false, if◌then◌else◌, List, length, map, slice_index, Option, Some, None}
use Rattle.std.specs.Fmt.{decimal}
use Rattle.std.specs.List.{AllByRecursion, position}
use Rattle.std.specs.List.Sorted.{IsStrictlySortedBy}
use Rattle.std.specs.Option.{is_none, option_or}
use Rattle.std.specs.Ordering.{nat_cmp}
use Rattle.std.specs.FinMap as fin
use Rattle.acl_perm.specs.Ascii.{zero_digit}
use Rattle.acl_perm.specs.Principal.{Principal, owner, user, group, group_named, everyone}
use Rattle.acl_perm.specs.Situation.{Situation}
use Rattle.acl_posix.specs.Fields as fields
use Rattle.acl_posix.specs.Id.{IsId}
use Rattle.acl_posix.specs.Names.{Ids, Table, is_number}
use Rattle.acl_nfs4.specs.Ace.{Ace}
use Rattle.acl_nfs4.specs.Who.{principal_of}
use Rattle.acl_ids.specs.declared.id_names.IdsFault.{IdsFault}
use Rattle.acl_ids.specs.declared.id_names.IdsFault.TheVariants as faults

-- ---- the ids of a list

-- the first of several digits is 0
abbrev pub has_leading_zero : List ℕ → Bool
has_leading_zero name = (slice_index name 0 == zero_digit) && not (length name == 1)

-- the id whose decimal digits a name is; an id is at most 4294967294
abbrev pub id_in_digits : List ℕ → Option ℕ
id_in_digits name = if is_number name && not (has_leading_zero name) then fields.id_of name else None

-- the id of a name: that of the table, and otherwise that of its digits
abbrev pub id_of_name : Ids → List ℕ → Option ℕ
id_of_name ids name = option_or (fin.get ids name) (id_in_digits name)

-- the id of the user or of the group that an ACE names
abbrev pub principal_id : Table → Principal → Option ℕ
principal_id table owner = None
principal_id table (user name) = id_of_name table.users name
principal_id table group = None
principal_id table (group_named name) = id_of_name table.groups name
principal_id table everyone = None

-- a user or a group without an id
abbrev pub is_unknown : Table → Principal → Bool
is_unknown table owner = false
is_unknown table (user name) = is_none (id_of_name table.users name)
is_unknown table group = false
is_unknown table (group_named name) = is_none (id_of_name table.groups name)
is_unknown table everyone = false

-- there is an id
abbrev pub IsSomeId : Option ℕ → Type 0
IsSomeId None = ⊥
IsSomeId (Some id) = IsId id

-- no user and no group, or one with an id
abbrev pub HasId : Table → Principal → Type 0
HasId table owner = ⊤
HasId table (user name) = IsSomeId (id_of_name table.users name)
HasId table group = ⊤
HasId table (group_named name) = IsSomeId (id_of_name table.groups name)
HasId table everyone = ⊤

-- each user and each group that the list names has an id
abbrev pub HaveIds : Table → List Ace → Type 0
HaveIds table list = AllByRecursion (λ a. HasId table (principal_of a)) list

-- the place of the first ACE that names a user or a group without an id
abbrev pub first_unknown : Table → List Ace → Option ℕ
first_unknown table list = position (λ a. is_unknown table (principal_of a)) list

-- what a refusal says: the first ACE without an id, or that each has one and memory ran out
abbrev pub IsIdsFault : Table → List Ace → IdsFault → Type 0
IsIdsFault table list (faults.UnknownName place) = first_unknown table list ≡ Some place
IsIdsFault table list faults.Memory = HaveIds table list

-- the digits of the id, or the name if there is no id
abbrev pub digits_or : Option ℕ → List ℕ → List ℕ
digits_or None name = name
digits_or (Some id) name = decimal id

-- the ACE with the digits of its id in place of the name
abbrev pub with_id : Table → Ace → Ace
with_id table a = record {
  kind = a.kind;
  flags = a.flags;
  mask = a.mask;
  who = digits_or (principal_id table (principal_of a)) a.who;
}

-- the same principal, with the digits of its id in place of the name
abbrev pub by_id : Table → Principal → Principal
by_id table owner = owner
by_id table (user name) = user (digits_or (id_of_name table.users name) name)
by_id table group = group
by_id table (group_named name) = group_named (digits_or (id_of_name table.groups name) name)
by_id table everyone = everyone

-- the list with the digits of its id in place of each name
abbrev pub with_ids : Table → List Ace → List Ace
with_ids table list = map (with_id table) list

-- ---- who requests access

-- the ids rise: none is there twice
abbrev pub AreRising : List ℕ → Type 0
AreRising ids = IsStrictlySortedBy nat_cmp ids

-- the situation whose names are the digits of these ids
abbrev pub situation_of_ids : ℕ → ℕ → ℕ → List ℕ → Situation
situation_of_ids owner_id group_id user_id group_ids = record {
  owner_name = decimal owner_id;
  owning_group = decimal group_id;
  user_name = decimal user_id;
  groups = map decimal group_ids;
}
