-- The POSIX ACL of an NFSv4 list (this library's own): that of the users and groups that are left of those that the
-- list names, after as many were taken out as can go without loss.
use Rattle.std.specs.Prelude.{◌≡◌, ◌≤◌, ℕ, true, List, Some, length}
use Rattle.std.specs.FinMap as set
use Rattle.acl_posix.specs.Entries.{Entries}
use Rattle.acl_posix.specs.Excess.{GrantsNothingMore, GrantsNothingMoreOf}
use Rattle.acl_posix.specs.Names.{Table}
use Rattle.acl_posix.specs.Tag.{user, group}
use Rattle.acl_posix.specs.Texts.{IsAcl}
use Rattle.acl_nfs4.specs.Ace.{Ace}
use Rattle.acl_nfs4.specs.Limits.{most_aces}
use Rattle.acl_eval.specs.BridgeLaws.{IsSingle}
use Rattle.acl_ids.specs.Ids.{HaveIds, first_unknown, with_ids}
use Rattle.acl_to_posix.specs.ListNames.{AreFewNames, AreMoreNames, AreNamesOf, names_group, names_user}
use Rattle.acl_to_posix.specs.LostGrants.{IsExact}
use Rattle.acl_to_posix.specs.Pruning.{PrunesTo}
use Rattle.acl_to_posix.specs.PruningLaws.{GrantSamePermissions, HasFewIds}
use Rattle.acl_to_posix.specs.ToPosix.{EntryShape, HasShape, IsBest, IsGreatest, IsSound}
use Rattle.acl_to_posix.specs.declared.posix_shape.ShapeFault.{ShapeFault}
use Rattle.acl_to_posix.specs.declared.posix_shape.ShapeFault.TheVariants as faults

-- the rule, for a list in which each name has an id: start with the users and groups that the list names, take out
-- those that can go without loss, until none can go, and take the ACL of the shape that is left
pub record IsPosixOf (table : Table) (list : List Ace) (entries : Entries) : Type 0 where
  pub known : HaveIds table list
  pub start : EntryShape
  pub end : EntryShape
  pub names : AreNamesOf table list start
  pub few : HasFewIds start
  pub pruned : PrunesTo (with_ids table list) start end
  pub best : IsBest (with_ids table list) end entries

-- no sound ACL with USER and GROUP entries for the same users and groups grants more
abbrev pub IsGreatestOfShape : List Ace → Entries → Type 0
IsGreatestOfShape list entries = (shape : EntryShape) → HasShape shape entries → IsGreatest list shape entries

-- the USER and GROUP entries are for users and groups that the list names in ACEs that count
pub record HasNamesOnly (table : Table) (list : List Ace) (entries : Entries) : Type 0 where
  pub users : (id : ℕ) → set.contains_key entries (user id) ≡ true → names_user table list id ≡ true
  pub groups : (id : ℕ) → set.contains_key entries (group id) ≡ true → names_group table list id ≡ true

-- no sound ACL with such entries grants read, write and execute alone wherever this one does, and more than this one
abbrev pub IsMaximal : Table → List Ace → Entries → Type 0
IsMaximal table list entries = (acl : Entries) → IsAcl acl → HasNamesOnly table list acl
    → IsSound (with_ids table list) acl → ((want : ℕ) → IsSingle want → GrantsNothingMoreOf entries acl want)
    → GrantsNothingMore acl entries

-- if any POSIX ACL is exact, with entries for any users and groups, this one is
abbrev pub IsExactIfAny : List Ace → Entries → Type 0
IsExactIfAny list entries = (acl : Entries) → IsAcl acl → length (set.entries acl) ≤ 65535 → IsExact list acl
    → IsExact list entries

-- if two lists grant the same, each with the ids of its own table, they have one ACL
abbrev pub GrantsDecidePosix : Type 0
GrantsDecidePosix = (table other : Table) (list second : List Ace) (entries one_more : Entries)
    → length list ≤ most_aces → length second ≤ most_aces
    → GrantSamePermissions (with_ids table list) (with_ids other second)
    → IsPosixOf table list entries → IsPosixOf other second one_more → entries ≡ one_more

-- what a refusal says, in the order in which it is judged: the first ACE without an id, also one that takes no part; a
-- list that names more users and groups than the bound; or memory ran out, where they are at most the bound
abbrev pub IsToPosixFault : Table → List Ace → ℕ → ShapeFault → Type 0
IsToPosixFault table list most (faults.NoId place) = first_unknown table list ≡ Some place
IsToPosixFault table list most faults.TooManyNames = HaveIds table list × AreMoreNames most table list
IsToPosixFault table list most faults.Memory = HaveIds table list × AreFewNames most table list
