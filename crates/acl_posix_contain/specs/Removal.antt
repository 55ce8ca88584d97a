-- POSIX ACLs of which permissions were taken out (this library's own, over acl(5), "ACCESS CHECK ALGORITHM").
use Rattle.std.specs.Prelude.{◌≡◌, ℕ, ◌<◌, ◌^◌, unwrap_or}
use Rattle.std.specs.FinMap as set
use Rattle.acl_perm.specs.Bits.{IsSubset}
use Rattle.acl_posix.specs.Entries.{Entries}
use Rattle.acl_posix.specs.Excess.{GrantsNothingMoreOf}
use Rattle.acl_posix.specs.Tag.{Tag, mask}

-- the permissions of the entry of a tag, or none if there is no entry
abbrev pub permissions : Entries → Tag → ℕ
permissions entries tag = unwrap_or (set.get entries tag) 0

-- the second set is the first, but that permissions were taken out of entries other than MASK
pub record IsPosixRemoval (entries cut : Entries) : Type 0 where
  pub tags : (tag : Tag) → set.contains_key cut tag ≡ set.contains_key entries tag
  pub within : (tag : Tag) → IsSubset (permissions cut tag) (permissions entries tag)
  pub mask : set.get cut mask ≡ set.get entries mask

-- whoever gets read (bit 2), write (bit 1) or execute (bit 0) from the first set gets it from the second set too
abbrev pub GrantsNothingMoreSingly : Entries → Entries → Type 0
GrantsNothingMoreSingly first second = (bit : ℕ) → bit < 3 → GrantsNothingMoreOf first second (2 ^ bit)

-- a removal that grants no more of single permissions than the bound, and of which every such removal is a removal
pub record IsGreatestPosixRemoval (entries bound cut : Entries) : Type 0 where
  pub removal : IsPosixRemoval entries cut
  pub at_most_bound : GrantsNothingMoreSingly cut bound
  pub greatest : (other : Entries) → IsPosixRemoval entries other → GrantsNothingMoreSingly other bound
      → IsPosixRemoval cut other
