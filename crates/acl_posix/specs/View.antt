-- Raw entries that are a valid ACL in canonical order as they lie in memory (acl(5), "VALID ACLs"; POSIX.1e draft 17,
-- section 23.1.2). The order in which faults are judged is this library's own.
use Rattle.std.specs.Prelude.{ℕ, ◌≡◌, ◌≢◌, ◌<◌, ◌-◌, List, length, Option, Some, None}
use Rattle.std.specs.FinMap as set
use Rattle.std.specs.declared.cmp.Ordering.TheVariants.{Less}
use Rattle.acl_posix.specs.declared.raw_entry.RawEntry.{RawEntry}
use Rattle.acl_posix.specs.declared.view_fault.ViewFault.{ViewFault}
use Rattle.acl_posix.specs.declared.view_fault.ViewFault.TheVariants as view
use Rattle.acl_posix.specs.Tag.{Tag, tag_cmp, tag_of}
use Rattle.acl_posix.specs.Entries.{Entries, IsSorted, as_set}
use Rattle.acl_posix.specs.Valid.{IsValid, missing, tag_at}
use Rattle.acl_posix.specs.RawEntries.{AreEntries, IsFirstWrong, raw_pairs}

-- the numbers are those of entries in canonical order
pub record AreCanonical (raws : List RawEntry) : Type 0 where
  pub entries : AreEntries raws
  pub sorted : IsSorted (raw_pairs raws)

-- the numbers are those of entries in canonical order, and no required entry is absent
pub record IsCanonical (raws : List RawEntry) : Type 0 where
  pub in_order : AreCanonical raws
  pub complete : IsValid (as_set (raw_pairs raws))

-- the tag at a place is not after the tag at the place before it
pub record IsStop (entries : List (Tag × ℕ)) (place : ℕ) : Type 0 where
  pub later : 0 < place
  pub stops : tag_cmp (tag_at entries (place - 1)) (tag_at entries place) ≢ Less

-- the tag at a place is the first that is not after the tag before it
pub record IsFirstStop (entries : List (Tag × ℕ)) (place : ℕ) : Type 0 where
  pub in_range : place < length entries
  pub stop : IsStop entries place
  pub first : (before : ℕ) → before < place → IsStop entries before → ⊥

-- the numbers are those of entries in canonical order, and the tag is the first that is absent
pub record IsMissInOrder (raws : List RawEntry) (tag : Tag) : Type 0 where
  pub in_order : AreCanonical raws
  pub absent : missing (as_set (raw_pairs raws)) ≡ Some tag

-- what each fault says about raw entries, in the order in which faults are judged
abbrev pub IsFaultOfView : List RawEntry → ViewFault → Type 0
IsFaultOfView raws (view.Entry place fault) = IsFirstWrong raws place fault
IsFaultOfView raws (view.Order place) = AreEntries raws × IsFirstStop (raw_pairs raws) place
IsFaultOfView raws (view.Miss tag) = IsMissInOrder raws (tag_of tag)

-- the place of the entry of a tag
pub record IsPlaceAmong (entries : List (Tag × ℕ)) (tag : Tag) (place : ℕ) : Type 0 where
  pub in_range : place < length entries
  pub is : tag_at entries place ≡ tag

-- the place of the entry of a tag in a set, in canonical order, or none if the tag has no entry
abbrev pub IsFoundAt : Entries → Tag → Option ℕ → Type 0
IsFoundAt entries tag None = set.get entries tag ≡ None
IsFoundAt entries tag (Some place) = IsPlaceAmong (set.entries entries) tag place
