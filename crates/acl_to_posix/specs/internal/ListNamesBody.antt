-- How the ids that a list names are collected, or counted, up to a bound. This library's own.
use Rattle.std.specs.Prelude.{◌≡◌, ◌≤◌, ◌<◌, ⊤, ℕ, nat_lt, Bool, false, true, if◌then◌else◌, List, Option, None, Some, length}
use Rattle.std.specs.List.{list_any}
use Rattle.acl_posix.specs.Check.{ids, is_member}
use Rattle.acl_posix.specs.Names.{Table}
use Rattle.acl_nfs4.specs.Ace.{Ace}
use Rattle.acl_to_posix.specs.ListNames.{AreFewNames, AreMoreNames, AreOnce, relevant_group, relevant_user, is_number_of}
use Rattle.acl_to_posix.specs.ToPosix.{EntryShape}
use Rattle.acl_to_posix.specs.declared.list_names.IdKind.{IdKind}
use Rattle.acl_to_posix.specs.declared.list_names.IdKind.TheVariants as kinds
use Rattle.acl_to_posix.specs.declared.list_names.NamedIds.{NamedIds}
use Rattle.acl_to_posix.specs.declared.posix_shape.ShapeFault.{ShapeFault}
use Rattle.acl_to_posix.specs.declared.posix_shape.ShapeFault.TheVariants as faults

-- the ids that the code holds
abbrev pub named_shape : NamedIds → EntryShape
named_shape named = record { users = ids named.users.items; groups = ids named.groups.items }

-- ---- ids of one kind

-- the id of the user, or of the group, whom a relevant ACE names
abbrev pub relevant_id : IdKind → Table → Ace → Option ℕ
relevant_id kinds.User table a = relevant_user table a
relevant_id kinds.Group table a = relevant_group table a

-- a relevant ACE names the user, or the group, of this id
abbrev pub names_id : IdKind → Table → List Ace → ℕ → Bool
names_id kind table list id = list_any (λ a. is_number_of (relevant_id kind table a) id) list

-- the numbers are those that pass a test, and each is there once
pub record AreJust (test : ℕ → Bool) (numbers : List ℕ) : Type 0 where
  pub members : (id : ℕ) → is_member id numbers ≡ test id
  pub once : AreOnce numbers

-- more numbers than the bound pass a test
pub record AreMore (most : ℕ) (test : ℕ → Bool) : Type 0 where
  pub all : List ℕ
  pub just : AreJust test all
  pub more : most < length all

-- why the numbers that pass a test are not returned: they are more than the bound, or memory ran out
abbrev pub IsIdsAbove : ℕ → (ℕ → Bool) → ShapeFault → Type 0
IsIdsAbove most test (faults.NoId place) = ⊥
IsIdsAbove most test faults.TooManyNames = AreMore most test
IsIdsAbove most test faults.Memory = ⊤

-- ---- ids that are counted without memory

-- the lesser of two numbers, of which the second counts from a bound on
abbrev pub lesser_id : ℕ → Option ℕ → Option ℕ → Option ℕ
lesser_id from least None = least
lesser_id from None (Some id) = if nat_lt id from then None else Some id
lesser_id from (Some least) (Some id) =
    if nat_lt id from then Some least else (if nat_lt least id then Some least else Some id)

-- the least number from a bound on that passes a test
pub record IsLeastId (from : ℕ) (test : ℕ → Bool) (least : ℕ) : Type 0 where
  pub within : from ≤ least
  pub passes : test least ≡ true
  pub lower : (id : ℕ) → from ≤ id → id < least → test id ≡ false

-- the same, or no number from the bound on passes the test
abbrev pub IsLeastFrom : ℕ → (ℕ → Bool) → Option ℕ → Type 0
IsLeastFrom from test None = (id : ℕ) → from ≤ id → test id ≡ false
IsLeastFrom from test (Some least) = IsLeastId from test least

-- so many numbers pass a test
pub record IsCountOfIds (test : ℕ → Bool) (count : ℕ) : Type 0 where
  pub all : List ℕ
  pub just : AreJust test all
  pub many : length all ≡ count

-- so many numbers below a bound pass a test
pub record AreBelow (test : ℕ → Bool) (bound count : ℕ) : Type 0 where
  pub all : List ℕ
  pub once : AreOnce all
  pub below : (id : ℕ) → id < bound → is_member id all ≡ test id
  pub above : (id : ℕ) → bound ≤ id → is_member id all ≡ false
  pub many : length all ≡ count

-- ---- users and groups

-- why the names of a list are not returned: they are more than the bound, or memory ran out
abbrev pub AreNamesAbove : Table → List Ace → ℕ → ShapeFault → Type 0
AreNamesAbove table list most (faults.NoId place) = ⊥
AreNamesAbove table list most faults.TooManyNames = AreMoreNames most table list
AreNamesAbove table list most faults.Memory = ⊤

-- the same, where the names are counted if memory runs out: then they are at most the bound
abbrev pub IsNamesFault : Table → List Ace → ℕ → ShapeFault → Type 0
IsNamesFault table list most (faults.NoId place) = ⊥
IsNamesFault table list most faults.TooManyNames = AreMoreNames most table list
IsNamesFault table list most faults.Memory = AreFewNames most table list
