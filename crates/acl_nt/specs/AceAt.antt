-- An ACE at a place of a value (MS-DTYP, section 2.4.4). The bytes between its SID and its end are
-- not judged.
use Rattle.std.specs.Prelude.{ℕ, ◌+◌, ◌%◌, ◌==◌, ◌&&◌, ◌||◌, Bool, true, false, not, List, [], ◌∷◌, ◌++◌, nat_le, bit_and, bit_or, if◌then◌else◌}
use Rattle.acl_perm.specs.declared.kind.Kind.TheVariants.{Allow, Deny}
use Rattle.acl_nt.specs.Conditions.{Condition, check}
use Rattle.acl_nt.specs.Descriptor.{NtAce}
use Rattle.acl_nt.specs.NtCheck.{is_owner_ace}
use Rattle.acl_nt.specs.Numbers.{byte_at, half_at, has_any, dword_at}
use Rattle.acl_nt.specs.SidAt.{sid_at, sid_conditions}
use Rattle.acl_nt.specs.declared.ace.OtherAce.{OtherAce}
use Rattle.acl_nt.specs.declared.role.Role.{Role}
use Rattle.acl_nt.specs.declared.role.Role.TheVariants.{Deciding, DecidingPart, Auditing}
use Rattle.acl_nt.specs.declared.fault.NtReason.TheVariants.{AceFlags, AceSize, AceType, Generic, Truncated}

-- ---- types (section 2.4.4.1)

-- An ACL is read in one of three roles. `Deciding`: a DACL whose ACEs allow or deny.
-- `DecidingPart`: a DACL that may have ACEs of other types, which are left out. `Auditing`: a SACL,
-- whose ACEs may have any type, and decide nothing.

-- ACCESS_ALLOWED_ACE_TYPE or ACCESS_DENIED_ACE_TYPE
abbrev pub is_plain_type : ℕ → Bool
is_plain_type t = nat_le t 1

-- a type whose ACEs a part leaves out: those of a SACL (2, 3, 7, 8 and 13 to 20), and ALLOWs with
-- object types or conditions (5, 9 and 11)
abbrev pub is_left_out : ℕ → Bool
is_left_out t = (t == 2) || ((t == 3) || ((t == 5) || ((t == 7) || ((t == 8) || ((t == 9)
    || ((t == 11) || (nat_le 13 t && nat_le t 20)))))))

-- whether an ACE of this type may be in the ACL
abbrev pub takes_type : Role → ℕ → Bool
takes_type Deciding t = is_plain_type t
takes_type DecidingPart t = is_plain_type t || is_left_out t
takes_type Auditing t = true

-- whether an ACE of this type decides
abbrev pub type_decides : Role → ℕ → Bool
type_decides Deciding t = is_plain_type t
type_decides DecidingPart t = is_plain_type t
type_decides Auditing t = false

-- the types of ACEs that have object types (sections 2.4.4.3 and others)
abbrev pub has_objects : ℕ → Bool
has_objects t = (nat_le 5 t && nat_le t 8) || ((t == 11) || ((t == 12) || ((t == 15) || (t == 16))))

-- ---- rights

-- the rights of a file that a generic right of the mask stands for (section 2.4.3)
abbrev pub generic_part : ℕ → ℕ → ℕ → ℕ
generic_part mask generic rights = if has_any mask generic then rights else 0

-- the rights of a file that the generic rights of a mask stand for: GENERIC_ALL, GENERIC_EXECUTE,
-- GENERIC_WRITE and GENERIC_READ
abbrev pub generic_rights : ℕ → ℕ
generic_rights mask = bit_or (generic_part mask 0x10000000 0x1f01ff)
    (bit_or (generic_part mask 0x20000000 0x1200a0)
    (bit_or (generic_part mask 0x40000000 0x120116) (generic_part mask 0x80000000 0x120089)))

-- the mask has all rights that its generic rights stand for
abbrev pub is_expanded : ℕ → Bool
is_expanded mask = bit_and (generic_rights mask) mask == generic_rights mask

-- ---- the layout

-- the size of the ACE at a place
abbrev pub ace_size : List ℕ → ℕ → ℕ
ace_size bytes at = half_at bytes (at + 2)

-- the size of the object types: a word of flags, and 16 bytes for each of its two lowest bits
abbrev pub objects_size : ℕ → ℕ
objects_size flags = 4 + (if has_any flags 1 then 16 else 0) + (if has_any flags 2 then 16 else 0)

-- the place of the SID of the ACE at a place
unfoldable pub sid_place : List ℕ → ℕ → ℕ
sid_place bytes at =
    if has_objects (byte_at bytes at) then at + 8 + objects_size (byte_at bytes (at + 8))
    else at + 8

-- an ACE that decides does not have the flag 0x20, which has no meaning
abbrev pub are_flags : Bool → ℕ → Bool
are_flags is_deciding flags = not (is_deciding && has_any flags 0x20)

-- an ACE that decides and takes part, that is, without INHERIT_ONLY, 8, has no generic right that
-- adds to its rights
abbrev pub is_literal : Bool → ℕ → ℕ → Bool
is_literal is_deciding flags mask = not (is_deciding && not (has_any flags 8)) || is_expanded mask

-- ---- what it is

-- the ACE at a place
unfoldable pub nt_ace_at : List ℕ → ℕ → NtAce
nt_ace_at bytes at = record {
  kind = if byte_at bytes at == 0 then Allow else Deny;
  flags = byte_at bytes (at + 1);
  mask = dword_at bytes (at + 4);
  sid = sid_at bytes (sid_place bytes at);
}

-- the place and the type of the ACE at a place
abbrev pub other_at : List ℕ → ℕ → OtherAce
other_at bytes at = record { offset = at; type_number = byte_at bytes at }

-- ---- the conditions

-- an ACE of this type may stand in the ACL with its flags and its SID: a part does not leave out an
-- ACE for the object that names OWNER RIGHTS, since whatever its type is, it takes READ_CONTROL and
-- WRITE_DAC from the owner
abbrev pub keeps_owner_ace : Role → ℕ → NtAce → Bool
keeps_owner_ace Deciding t a = true
keeps_owner_ace DecidingPart t a = not (is_left_out t && is_owner_ace a)
keeps_owner_ace Auditing t a = true

-- the conditions on the fields before the SID of the ACE at a place of an ACL that ends at another
-- place
unfoldable pub ace_head_conditions : Role → List ℕ → ℕ → ℕ → List Condition
ace_head_conditions role bytes end at =
    check (nat_le (at + 8) end) at Truncated
    ∷ check (takes_type role (byte_at bytes at)) at AceType
    ∷ check (are_flags (type_decides role (byte_at bytes at)) (byte_at bytes (at + 1)))
    (at + 1) AceFlags
    ∷ check (nat_le 16 (ace_size bytes at) && ((ace_size bytes at % 4 == 0)
    && nat_le (at + ace_size bytes at) end)) (at + 2) AceSize
    ∷ check (is_literal (type_decides role (byte_at bytes at)) (byte_at bytes (at + 1))
    (dword_at bytes (at + 4)))
    (at + 4) Generic ∷ []

-- the conditions on the SID of the ACE at a place, and on the ACE with it
abbrev pub ace_sid_conditions : Role → List ℕ → ℕ → List Condition
ace_sid_conditions role bytes at =
    sid_conditions bytes (sid_place bytes at) (at + ace_size bytes at)
    ++ check (keeps_owner_ace role (byte_at bytes at) (nt_ace_at bytes at)) at AceType ∷ []

-- the conditions on the ACE at a place of an ACL that ends at another place
abbrev pub ace_conditions : Role → List ℕ → ℕ → ℕ → List Condition
ace_conditions role bytes end at =
    ace_head_conditions role bytes end at ++ ace_sid_conditions role bytes at
