-- Which lists of entries are valid, and what is wrong with the others (acl(5), "VALID ACLs"). The order in which faults
-- are judged, and that places count from 0, are this library's own.
use Rattle.std.specs.Prelude.{ℕ, ◌≡◌, ◌<◌, Bool, true, false, not, ◌&&◌, List, length, get_or, Option, Some, None, Result, MatchResult, IsTrue, IsFalse, if◌then◌else◌}
use Rattle.std.specs.List.{list_any}
use Rattle.std.specs.FinMap as set
use Rattle.acl_posix.specs.declared.fault.AclFault.{AclFault}
use Rattle.acl_posix.specs.declared.fault.AclFault.TheVariants.{Multi, Duplicate, Miss, Memory}
use Rattle.acl_posix.specs.Tag.{Tag, user_obj, group_obj, mask, other, tag_of, is_named}
use Rattle.acl_posix.specs.Entries.{Entries, tags, as_set}

-- the first absent of USER_OBJ, GROUP_OBJ, OTHER, and of MASK if there is a USER or GROUP entry
unfoldable pub missing : Entries → Option Tag
missing entries =
    if not (set.contains_key entries user_obj) then Some user_obj
    else (if not (set.contains_key entries group_obj) then Some group_obj
    else (if not (set.contains_key entries other) then Some other
    else (if list_any is_named (set.keys entries) && not (set.contains_key entries mask) then Some mask
    else None)))

-- a set of entries is valid if no required entry is absent
abbrev pub IsValid : Entries → Type 0
IsValid entries = missing entries ≡ None

-- the tag and qualifier at a place, counted from 0
abbrev pub tag_at : List (Tag × ℕ) → ℕ → Tag
tag_at entries place = get_or (tags entries) place other

-- the tag and qualifier at a place occur at an earlier place too
pub record IsRepeat (entries : List (Tag × ℕ)) (place : ℕ) : Type 0 where
  pub earlier : ℕ
  pub before : earlier < place
  pub same : tag_at entries earlier ≡ tag_at entries place

-- no tag and qualifier occur twice
abbrev pub IsDistinct : List (Tag × ℕ) → Type 0
IsDistinct entries = (place : ℕ) → place < length entries → IsRepeat entries place → ⊥

-- a list is valid if no tag and qualifier occur twice and no required entry is absent
pub record IsValidList (entries : List (Tag × ℕ)) : Type 0 where
  pub distinct : IsDistinct entries
  pub complete : IsValid (as_set entries)

-- a place repeats an earlier one, and no place before it does
pub record IsFirstRepeat (entries : List (Tag × ℕ)) (place : ℕ) : Type 0 where
  pub in_range : place < length entries
  pub repeats : IsRepeat entries place
  pub first : (before : ℕ) → before < place → IsRepeat entries before → ⊥

-- no tag and qualifier occur twice, and the tag is the first that is absent
pub record IsMiss (entries : List (Tag × ℕ)) (tag : Tag) : Type 0 where
  pub distinct : IsDistinct entries
  pub absent : missing (as_set entries) ≡ Some tag

-- what each fault says about a list of entries; `Memory` says nothing about it
abbrev pub IsFaultOf : List (Tag × ℕ) → AclFault → Type 0
IsFaultOf entries (Multi place) = IsFirstRepeat entries place × IsFalse (is_named (tag_at entries place))
IsFaultOf entries (Duplicate place) = IsFirstRepeat entries place × IsTrue (is_named (tag_at entries place))
IsFaultOf entries (Miss tag) = IsMiss entries (tag_of tag)
IsFaultOf entries Memory = Unit {0}

-- the fault is one of the list, and not `Memory`
abbrev pub is_refusal : AclFault → Bool
is_refusal (Multi place) = true
is_refusal (Duplicate place) = true
is_refusal (Miss tag) = true
is_refusal Memory = false

-- a call refuses with this fault, unless it reports that memory ran out
abbrev pub IsRefusedWith : {X : Type 0} → Result X AclFault → AclFault → Type 0
IsRefusedWith result fault = MatchResult result (λ _. ⊥) (λ found. IsTrue (is_refusal found) → found ≡ fault)

-- what each fault says about a set of entries, in which nothing can occur twice: the tag is the first that is absent;
-- `Memory` says that nothing is wrong with the set
abbrev pub IsFaultOfSet : Entries → AclFault → Type 0
IsFaultOfSet entries (Multi place) = ⊥
IsFaultOfSet entries (Duplicate place) = ⊥
IsFaultOfSet entries (Miss tag) = missing entries ≡ Some (tag_of tag)
IsFaultOfSet entries Memory = IsValid entries
