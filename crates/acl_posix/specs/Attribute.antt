-- The bytes of the extended attributes `system.posix_acl_access` and `system.posix_acl_default` of Linux
-- (include/uapi/linux/posix_acl_xattr.h and posix_acl.h, version 2), and which of them are an ACL (posix_acl_from_xattr
-- and posix_acl_valid of fs/posix_acl.c). The kernel does not judge that a user or group occurs once, as acl(5), "VALID
-- ACLs", says. The order of the faults, and that places count from 0, are this library's own.
use Rattle.std.specs.Prelude.{ℕ, ◌≡◌, ◌<◌, ◌-◌, ◌/◌, ◌%◌, ◌++◌, ◌⊎◌, List, [], length, drop, map, Option, Some, None, nat_lt, not, ◌==◌, if◌then◌else◌}
use Rattle.std.specs.List.{flat_map}
use Rattle.std.specs.Simd.{first_chunks}
use Rattle.std.specs.FinMap as set
use Rattle.byteorder.specs.Endian.{little_bytes, little_number}
use Rattle.acl_posix.specs.declared.attribute_fault.AttributeFault.{AttributeFault}
use Rattle.acl_posix.specs.declared.attribute_fault.AttributeFault.TheVariants.{Acl, Entry, Order, Size, Version}
use Rattle.acl_posix.specs.declared.fault.AclFault.TheVariants.{Memory}
use Rattle.acl_posix.specs.declared.raw_entry.RawEntry.{RawEntry}
use Rattle.acl_posix.specs.Tag.{Tag, user_obj, user, group_obj, group, mask, other, rank}
use Rattle.acl_posix.specs.Entries.{Entries, as_set}
use Rattle.acl_posix.specs.Valid.{IsFaultOf, tag_at}
use Rattle.acl_posix.specs.RawEntries.{AreEntries, IsFirstWrong, IsValidRaw, no_tag_number, raw_of, raw_pairs}

-- ---- the bytes of an ACL

-- POSIX_ACL_XATTR_VERSION
abbrev pub attribute_version : ℕ
attribute_version = 2

-- the bytes of the version
abbrev pub version_size : ℕ
version_size = 4

-- the bytes of an entry
abbrev pub entry_size : ℕ
entry_size = 8

-- the code of a tag type: ACL_USER_OBJ, ACL_USER, ACL_GROUP_OBJ, ACL_GROUP, ACL_MASK, ACL_OTHER
abbrev pub tag_code : Tag → ℕ
tag_code user_obj = 0x01
tag_code (user id) = 0x02
tag_code group_obj = 0x04
tag_code (group id) = 0x08
tag_code mask = 0x10
tag_code other = 0x20

-- the bytes of an entry, the lowest byte of each number first: the code of the tag type in two bytes, the permissions
-- in two, and the id in four, which is ACL_UNDEFINED_ID if there is no qualifier
unfoldable pub entry_bytes : Tag × ℕ → List ℕ
entry_bytes entry =
    little_bytes 2 (tag_code entry.0) ++ (little_bytes 2 entry.1 ++ little_bytes 4 (raw_of entry).id)

-- the bytes of an attribute: the version, then the entries in canonical order
abbrev pub attribute_bytes : Entries → List ℕ
attribute_bytes acl = little_bytes version_size attribute_version ++ flat_map entry_bytes (set.entries acl)

-- ---- what bytes mean

-- the number of the tag type with a code, or the number that stands for none
abbrev pub coded_number : ℕ → ℕ
coded_number code =
    if code == 0x01 then 1
    else (if code == 0x02 then 2
    else (if code == 0x04 then 3
    else (if code == 0x08 then 4
    else (if code == 0x10 then 5
    else (if code == 0x20 then 6
    else no_tag_number)))))

-- the numbers of the entry in eight bytes
unfoldable pub stored_raw : List ℕ → RawEntry
stored_raw bytes = record {
  tag = coded_number (little_number 2 bytes);
  id = little_number 4 (drop 4 bytes);
  perm = little_number 2 (drop 2 bytes);
}

-- the numbers of the entries that lie one after the other in some bytes
abbrev pub stored_raws : List ℕ → List RawEntry
stored_raws bytes = map stored_raw (first_chunks entry_size (length bytes / entry_size) bytes)

-- the numbers of the entries of an attribute
abbrev pub attribute_raws : List ℕ → List RawEntry
attribute_raws bytes = stored_raws (drop version_size bytes)

-- what is wrong with the size or the version: there is no version, it is not 2, or the last entry is not whole
abbrev pub frame_fault : List ℕ → Option AttributeFault
frame_fault bytes =
    if nat_lt (length bytes) version_size then Some Size
    else (if not (little_number version_size bytes == attribute_version) then Some Version
    else (if not ((length bytes - version_size) % entry_size == 0) then Some Size
    else None))

-- the tag type at a place comes before the tag type at the place before it, in canonical order
pub record IsFall (entries : List (Tag × ℕ)) (place : ℕ) : Type 0 where
  pub later : 0 < place
  pub falls : rank (tag_at entries place) < rank (tag_at entries (place - 1))

-- the tag types are in canonical order
abbrev pub NeverFalls : List (Tag × ℕ) → Type 0
NeverFalls entries = (place : ℕ) → place < length entries → IsFall entries place → ⊥

-- the tag type at a place is the first that is not in canonical order
pub record IsFirstFall (entries : List (Tag × ℕ)) (place : ℕ) : Type 0 where
  pub in_range : place < length entries
  pub fall : IsFall entries place
  pub first : (before : ℕ) → before < place → IsFall entries before → ⊥

-- an attribute has the entries of an ACL: its tag types are in canonical order, and its entries are a valid list
pub record HoldsAcl (bytes : List ℕ) (acl : Entries) : Type 0 where
  pub frame : frame_fault bytes ≡ None
  pub order : NeverFalls (raw_pairs (attribute_raws bytes))
  pub valid : IsValidRaw (attribute_raws bytes)
  pub is : acl ≡ as_set (raw_pairs (attribute_raws bytes))

-- an attribute has no entries, which means no ACL
pub record HoldsNone (bytes : List ℕ) : Type 0 where
  pub frame : frame_fault bytes ≡ None
  pub empty : attribute_raws bytes ≡ []

-- what an attribute means
abbrev pub IsAttributeOf : List ℕ → Option Entries → Type 0
IsAttributeOf bytes None = HoldsNone bytes
IsAttributeOf bytes (Some acl) = HoldsAcl bytes acl

-- the entries of an attribute are in order, and this is wrong with them
pub record IsInvalidAttribute (bytes : List ℕ) (IsWrong : List (Tag × ℕ) → Type 0) : Type 0 where
  pub frame : frame_fault bytes ≡ None
  pub entries : AreEntries (attribute_raws bytes)
  pub wrong : IsWrong (raw_pairs (attribute_raws bytes))

-- the first entry of an attribute with wrong numbers
pub record IsWrongEntry (bytes : List ℕ) (IsWrong : List RawEntry → Type 0) : Type 0 where
  pub frame : frame_fault bytes ≡ None
  pub wrong : IsWrong (attribute_raws bytes)

-- what each fault says about an attribute, in the order in which faults are judged; `Memory` says nothing about it
abbrev pub IsFaultOfAttribute : List ℕ → AttributeFault → Type 0
IsFaultOfAttribute bytes Size = frame_fault bytes ≡ Some Size
IsFaultOfAttribute bytes Version = frame_fault bytes ≡ Some Version
IsFaultOfAttribute bytes (Entry place fault) = IsWrongEntry bytes (λ raws. IsFirstWrong raws place fault)
IsFaultOfAttribute bytes (Order place) = IsInvalidAttribute bytes (λ entries. IsFirstFall entries place)
IsFaultOfAttribute bytes (Acl fault) =
    (fault ≡ Memory) ⊎ IsInvalidAttribute bytes (λ entries. NeverFalls entries × IsFaultOf entries fault)
