-- The bytes of the extended attributes `system.posix_acl_access` and `system.posix_acl_default` of Linux
-- (include/uapi/linux/posix_acl_xattr.h, version 2): the entries of a valid ACL (acl(5), "VALID ACLs") with their tag
-- types in canonical order (POSIX.1e draft 17, section 23.1.2), as posix_acl_valid of fs/posix_acl.c wants them, and
-- the ids of users and of groups in any order. An entry without a qualifier has ACL_UNDEFINED_ID. The kernel also takes
-- an id twice, and any id where none belongs. The order in which faults are judged is this library's own.
use Rattle.std.specs.Prelude.{ℕ, ◌≡◌, ◌==◌, ◌+◌, ◌*◌, ◌<◌, ◌++◌, List, length, Option, Some, None, option_map, nat_lt, if◌then◌else◌}
use Rattle.std.specs.List.{All, flat_map}
use Rattle.byteorder.specs.Endian.{little_bytes, little_number}
use Rattle.acl_perm.specs.Bits.{all_permissions}
use Rattle.acl_posix.specs.Attribute.{IsFall, IsFirstFall, NeverFalls, attribute_version, entry_bytes, entry_size, stored_raw, version_size}
use Rattle.acl_posix.specs.Entries.{Entries, IsEntry, as_set}
use Rattle.acl_posix.specs.RawEntries.{raw_tag, undefined_id}
use Rattle.acl_posix.specs.Tag.{Tag, is_named, tag_of}
use Rattle.acl_posix.specs.Valid.{IsFirstRepeat, IsMiss, IsRepeat, IsValidList, tag_at}
use Rattle.acl_posix.specs.declared.raw_entry.RawEntry.{RawEntry}
use Rattle.acl_posix.specs.declared.tag.Tag.{Tag as TagOfCode}
use Rattle.acl_nfs4.specs.declared.xdr.fault.Reason.TheVariants.{Truncated}
use Rattle.acl_forms.specs.ReadFaults.{read_fault_at}
use Rattle.acl_forms.specs.declared.fault.ReadFault.{ReadFault}
use Rattle.acl_forms.specs.declared.fault.ReadReason.{ReadReason}
use Rattle.acl_forms.specs.declared.fault.ReadReason.TheVariants as reasons

-- the bytes of the version and of entries
abbrev pub entries_bytes : List (Tag × ℕ) → List ℕ
entries_bytes entries = little_bytes version_size attribute_version ++ flat_map entry_bytes entries

-- the bytes are those of the version and of these entries, whose ids and permissions are within their limits
pub record AreBytesOf (entries : List (Tag × ℕ)) (bytes : List ℕ) : Type 0 where
  pub within : All IsEntry entries
  pub spelled : bytes ≡ entries_bytes entries

-- the bytes spell an ACL: they are those of a valid list of entries whose tag types are in canonical order
pub record SpellsAttribute (acl : Entries) (bytes : List ℕ) : Type 0 where
  pub entries : List (Tag × ℕ)
  pub whole : AreBytesOf entries bytes
  pub order : NeverFalls entries
  pub valid : IsValidList entries
  pub set : acl ≡ as_set entries

-- ---- the first fault of bytes

-- why the version is refused: it is cut short, or it is another one
abbrev pub version_fault : List ℕ → Option ReadFault
version_fault bytes =
    if nat_lt (length bytes) version_size then Some (read_fault_at 0 (reasons.List Truncated))
    else (if little_number version_size bytes == attribute_version then None
    else Some (read_fault_at 0 reasons.Version))

-- why the id of an entry is refused: a user or a group has none, or another entry has one
abbrev pub id_reason : RawEntry → Option ReadReason
id_reason raw =
    if is_named (raw_tag raw) then (if raw.id == undefined_id then Some reasons.Id else None)
    else (if raw.id == undefined_id then None else Some reasons.Qualifier)

-- why the numbers of the entry at a place are refused: no tag type has the code, the permissions have another bit than
-- read, write and execute, or the id is refused
unfoldable pub field_fault : ℕ → RawEntry → Option ReadFault
field_fault at raw =
    if raw.tag == 0 then Some (read_fault_at at reasons.Tag)
    else (if nat_lt all_permissions raw.perm then Some (read_fault_at (at + 2) reasons.Permission)
    else option_map (read_fault_at (at + 4)) (id_reason raw))

-- why bytes at a place do not begin with an entry: it is cut short, or a field is refused
unfoldable pub next_entry_fault : ℕ → List ℕ → Option ReadFault
next_entry_fault at text =
    if nat_lt (length text) entry_size then Some (read_fault_at at (reasons.List Truncated))
    else field_fault at (stored_raw text)

-- why an entry with the tag and qualifier of an earlier one is refused
abbrev pub repeat_reason : Tag → ReadReason
repeat_reason tag = if is_named tag then reasons.Duplicate else reasons.Multi

-- the offset of the entry at a place, counted from 0
abbrev pub entry_offset : ℕ → ℕ
entry_offset place = version_size + entry_size * place

-- no entry before a place, or up to it, has such a fault
abbrev pub NoneBefore : (ℕ → Type 0) → ℕ → Type 0
NoneBefore Wrong place = (before : ℕ) → before < place → Wrong before → ⊥

-- what is wrong with the entries of so many bytes: the first of them whose tag type is out of order, or whose tag and
-- qualifier occur before; or, if there is none, the first tag that is required and absent
pub data IsEntriesFault (entries : List (Tag × ℕ)) (len : ℕ) : ReadFault → Type 0 where
  out_of_order : (place : ℕ) → IsFirstFall entries place → NoneBefore (IsRepeat entries) place
      → IsEntriesFault entries len (read_fault_at (entry_offset place) reasons.Order)
  repeated : (place : ℕ) → IsFirstRepeat entries place → NoneBefore (IsFall entries) (place + 1)
      → IsEntriesFault entries len (read_fault_at (entry_offset place) (repeat_reason (tag_at entries place)))
  absent : (tag : TagOfCode) → NeverFalls entries → IsMiss entries (tag_of tag)
      → IsEntriesFault entries len (read_fault_at len (reasons.Miss tag))

-- the first fault of bytes: that of the version; after whole entries, that of the fields of the next one; or, if all
-- fields are right, what is wrong with the list of entries
pub data IsAttributeFault (bytes : List ℕ) : ReadFault → Type 0 where
  of_version : (fault : ReadFault) → version_fault bytes ≡ Some fault → IsAttributeFault bytes fault
  of_entry : (before : List (Tag × ℕ)) (text : List ℕ) (fault : ReadFault) → All IsEntry before
      → bytes ≡ entries_bytes before ++ text → 0 < length text
      → next_entry_fault (length (entries_bytes before)) text ≡ Some fault → IsAttributeFault bytes fault
  of_list : (entries : List (Tag × ℕ)) (fault : ReadFault) → AreBytesOf entries bytes
      → IsEntriesFault entries (length bytes) fault → IsAttributeFault bytes fault
