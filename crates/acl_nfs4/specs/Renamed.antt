-- A list whose names of users and groups are exchanged by a table, as on a system with other accounts (this library's
-- own, over the ACEs of RFC 8881, section 6.2.1).
use Rattle.std.specs.Prelude.{◌≡◌, ◌&&◌, ◌++◌, ◌∷◌, [], ⊤, ℕ, Bool, false, true, not, List, length, map, Option, None, Some, if◌then◌else◌}
use Rattle.std.specs.List.{list_any}
use Rattle.std.specs.Option.{is_none, unwrap_or}
use Rattle.std.specs.Str.{bytes_eq}
use Rattle.acl_perm.specs.Bits.{has_bit, identifier_group}
use Rattle.acl_nfs4.specs.Ace.{Ace}
use Rattle.acl_nfs4.specs.Who.{is_special, who_fault}
use Rattle.acl_nfs4.specs.declared.list.renaming.Renaming.{Renaming}
use Rattle.acl_nfs4.specs.declared.list.renaming.RenameFault.{RenameFault}
use Rattle.acl_nfs4.specs.declared.list.renaming.RenameFault.TheVariants as fault

-- ---- the table

-- a row: the name of a group or of a user, and the name that takes its place
pub record NameRow : Type 0 where
  pub from : List ℕ
  pub to : List ℕ
  pub is_group : Bool

-- the row of a table of the code
abbrev pub name_row : Renaming → NameRow
name_row r = record { from = r.from.now; to = r.to.now; is_group = r.is_group }

-- the rows of a table
abbrev pub rows : List Renaming → List NameRow
rows table = map name_row table

-- the name of a user or of a group: it is valid as a who, and no special identifier
abbrev pub is_account : List ℕ → Bool
is_account name = is_none (who_fault name) && not (is_special name)

-- both are groups, or both are users
abbrev pub same_sort : Bool → Bool → Bool
same_sort true b = b
same_sort false b = not b

-- the row is for this name, of a group or of a user
abbrev pub is_row_of : Bool → List ℕ → NameRow → Bool
is_row_of is_group name r = same_sort r.is_group is_group && bytes_eq r.from name

-- the name that takes the place of a name, if a row is for it
abbrev pub new_name : List NameRow → Bool → List ℕ → Option (List ℕ)
new_name [] is_group name = None
new_name (r ∷ table) is_group name = if is_row_of is_group name r then Some r.to else new_name table is_group name

-- both names of the row are those of users or groups, and no row before it is for its first name
abbrev pub is_good_row : (Bool → List ℕ → Option (List ℕ)) → NameRow → Bool
is_good_row before r = is_account r.from && (is_account r.to && is_none (before r.is_group r.from))

-- the place of the first row of the rest that is not good after these rows
abbrev pub bad_row_after : List NameRow → List NameRow → Option ℕ
bad_row_after before [] = None
bad_row_after before (r ∷ rest) =
    if is_good_row (new_name before) r then bad_row_after (before ++ r ∷ []) rest else Some (length before)

-- the place of the first row that is not good
abbrev pub bad_row : List NameRow → Option ℕ
bad_row table = bad_row_after [] table

-- ---- the list

-- the ACE is for a group, if it is not for one of the special identifiers
abbrev pub is_of_group : Ace → Bool
is_of_group a = has_bit a.flags identifier_group

-- the new who of an ACE; special identifiers and other names without a row stay
abbrev pub who_by : (Bool → List ℕ → Option (List ℕ)) → Ace → List ℕ
who_by names a = unwrap_or (names (is_of_group a) a.who) a.who

-- the ACE with its new who, and all else as it was
abbrev pub ace_by : (Bool → List ℕ → Option (List ℕ)) → Ace → Ace
ace_by names a = record { kind = a.kind; flags = a.flags; mask = a.mask; who = who_by names a }

-- the list with its names exchanged by the table
abbrev pub renamed : List NameRow → List Ace → List Ace
renamed table list = map (ace_by (new_name table)) list

-- two different names of users, or two of groups, become one
abbrev pub become_one : (Bool → List ℕ → Option (List ℕ)) → Ace → Ace → Bool
become_one names earlier later = same_sort (is_of_group earlier) (is_of_group later)
    && (bytes_eq (who_by names earlier) (who_by names later) && not (bytes_eq earlier.who later.who))

-- the place of the first ACE of the rest whose name becomes one with that of an earlier ACE
abbrev pub merge_after : (Bool → List ℕ → Option (List ℕ)) → List Ace → List Ace → Option ℕ
merge_after names before [] = None
merge_after names before (a ∷ rest) =
    if list_any (λ b. become_one names b a) before then Some (length before)
    else merge_after names (before ++ a ∷ []) rest

-- the place of the first ACE whose name becomes one with that of an earlier ACE
abbrev pub first_merge : (Bool → List ℕ → Option (List ℕ)) → List Ace → Option ℕ
first_merge names list = merge_after names [] list

-- ---- why the names are not exchanged

-- the place of an ACE whose name becomes one with another, if that is refused
abbrev pub refused_merge : List NameRow → Bool → List Ace → Option ℕ
refused_merge table may_merge list = if may_merge then None else first_merge (new_name table) list

-- the table is good, and the names may be exchanged
pub record MayRename (table : List NameRow) (may_merge : Bool) (list : List Ace) : Type 0 where
  pub rows : bad_row table ≡ None
  pub merges : refused_merge table may_merge list ≡ None

-- a fault: the first row that is not good; with a good table, the first ACE whose name becomes one with another; or
-- memory ran out
abbrev pub IsRenameFault : List NameRow → Bool → List Ace → RenameFault → Type 0
IsRenameFault table may_merge list (fault.Row place) = bad_row table ≡ Some place
IsRenameFault table may_merge list (fault.Merged place) =
    (bad_row table ≡ None) × (refused_merge table may_merge list ≡ Some place)
IsRenameFault table may_merge list fault.Memory = ⊤
