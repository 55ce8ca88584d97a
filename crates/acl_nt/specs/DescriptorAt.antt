-- A self-relative security descriptor (MS-DTYP, section 2.4.6) at a place of a value. Its offsets
-- count from the start of the value.
use Rattle.std.specs.Prelude.{ℕ, ◌+◌, ◌%◌, ◌==◌, ◌&&◌, ◌||◌, Bool, true, List, [], ◌∷◌, ◌++◌, length, nat_le, Option, None, Some, if◌then◌else◌}
use Rattle.acl_nt.specs.AclAt.{ace_places, acl_conditions, deciding_aces, other_nt_aces}
use Rattle.acl_nt.specs.Conditions.{Condition, check}
use Rattle.acl_nt.specs.Descriptor.{Dacl, Descriptor, entries, null}
use Rattle.acl_nt.specs.Numbers.{byte_at, half_at, has_any, dword_at}
use Rattle.acl_nt.specs.SidAt.{sid_at, sid_conditions}
use Rattle.acl_nt.specs.Sid.{Sid}
use Rattle.acl_nt.specs.declared.ace.OtherAce.{OtherAce}
use Rattle.acl_nt.specs.declared.role.Role.{Role}
use Rattle.acl_nt.specs.declared.role.Role.TheVariants.{Auditing}
use Rattle.acl_nt.specs.declared.fault.NtReason.TheVariants.{NoDacl, NotSelfRelative, Offset, Revision, Truncated}

-- the control bits of the descriptor at a place
abbrev pub control_at : List ℕ → ℕ → ℕ
control_at bytes base = half_at bytes (base + 2)

-- an offset that names no part
abbrev pub names_none : ℕ → Bool
names_none offset = offset == 0

-- an offset is after the header at a place, on a multiple of 4, and within the value
abbrev pub is_offset : List ℕ → ℕ → ℕ → Bool
is_offset bytes base offset =
    nat_le (base + 20) offset && ((offset % 4 == 0) && nat_le offset (length bytes))

-- a field of the header is 0 or, if it may name a part, an offset
abbrev pub is_field : List ℕ → ℕ → ℕ → Bool → Bool
is_field bytes base field may_name = names_none (dword_at bytes (base + field))
    || (may_name && is_offset bytes base (dword_at bytes (base + field)))

-- the condition on a field of the header that may name a part or not
abbrev pub offset_condition : List ℕ → ℕ → ℕ → Bool → Condition
offset_condition bytes base field may_name =
    check (is_field bytes base field may_name) (base + field) Offset

-- the conditions on the offsets of the owner, the group, the SACL if there may be one, and the DACL
abbrev pub offset_conditions : List ℕ → ℕ → Bool → List Condition
offset_conditions bytes base has_sacl =
    offset_condition bytes base 4 true ∷ offset_condition bytes base 8 true
    ∷ offset_condition bytes base 12 has_sacl ∷ offset_condition bytes base 16 true ∷ []

-- the conditions on the header of the descriptor at a place; SELF_RELATIVE is 0x8000, DACL_PRESENT
-- 4, and SACL_PRESENT 0x10
unfoldable pub header_conditions : List ℕ → ℕ → List Condition
header_conditions bytes base =
    check (nat_le (base + 20) (length bytes)) base Truncated
    ∷ check (byte_at bytes base == 1) base Revision
    ∷ check (has_any (control_at bytes base) 0x8000) (base + 2) NotSelfRelative
    ∷ check (has_any (control_at bytes base) 4) (base + 2) NoDacl
    ∷ offset_conditions bytes base (has_any (control_at bytes base) 0x10)

-- the conditions on the part at an offset, if the offset names one
abbrev pub part_conditions : (ℕ → List Condition) → ℕ → List Condition
part_conditions conditions offset = if names_none offset then [] else conditions offset

-- the part at an offset, if the offset names one
abbrev pub part_at : {A : Type 0} → (ℕ → A) → ℕ → Option A
part_at part offset = if names_none offset then None else Some (part offset)

-- the conditions on the SID at an offset, if the offset names one
unfoldable pub named_sid_conditions : List ℕ → ℕ → List Condition
named_sid_conditions bytes offset =
    part_conditions (λ at. sid_conditions bytes at (length bytes)) offset

-- the conditions on the ACL at an offset, if the offset names one
unfoldable pub named_acl_conditions : Role → List ℕ → ℕ → List Condition
named_acl_conditions role bytes offset = part_conditions (acl_conditions role bytes) offset

-- the conditions on the owner, the group, the SACL and the DACL of the descriptor at a place, in
-- this order
abbrev pub parts_conditions : Role → List ℕ → ℕ → List Condition
parts_conditions role bytes base =
    named_sid_conditions bytes (dword_at bytes (base + 4))
    ++ (named_sid_conditions bytes (dword_at bytes (base + 8))
    ++ (named_acl_conditions Auditing bytes (dword_at bytes (base + 12))
    ++ named_acl_conditions role bytes (dword_at bytes (base + 16))))

-- the conditions on the descriptor at a place: first on its header
abbrev pub descriptor_conditions : Role → List ℕ → ℕ → List Condition
descriptor_conditions role bytes base =
    header_conditions bytes base ++ parts_conditions role bytes base

-- the SID at an offset, if the offset names one
abbrev pub named_sid : List ℕ → ℕ → Option Sid
named_sid bytes offset = part_at (sid_at bytes) offset

-- the ACEs of the SACL at an offset, if the offset names one
abbrev pub named_sacl : List ℕ → ℕ → Option (List OtherAce)
named_sacl bytes offset = part_at (λ at. other_nt_aces Auditing bytes (ace_places bytes at)) offset

-- the DACL at an offset; an offset that names none is that of the NULL DACL
abbrev pub named_dacl : Role → List ℕ → ℕ → Dacl
named_dacl role bytes offset =
    if names_none offset then null else entries (deciding_aces role bytes (ace_places bytes offset))

-- the ACEs of the DACL at an offset that do not decide
abbrev pub left_out_at : Role → List ℕ → ℕ → List OtherAce
left_out_at role bytes offset =
    if names_none offset then [] else other_nt_aces role bytes (ace_places bytes offset)

-- the descriptor at a place
abbrev pub descriptor_at : Role → List ℕ → ℕ → Descriptor
descriptor_at role bytes base = record {
  control = control_at bytes base;
  owner = named_sid bytes (dword_at bytes (base + 4));
  group = named_sid bytes (dword_at bytes (base + 8));
  dacl = named_dacl role bytes (dword_at bytes (base + 16));
  sacl = named_sacl bytes (dword_at bytes (base + 12));
}
