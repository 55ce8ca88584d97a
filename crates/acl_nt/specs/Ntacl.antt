-- What is before the descriptor in the attribute `security.NTACL` of Samba (librpc/idl/xattr.idl),
-- versions 1 to 4. The faults are this library's own.
use Rattle.std.specs.Prelude.{ℕ, ◌+◌, ◌-◌, ◌*◌, ◌/◌, ◌==◌, ◌&&◌, ◌||◌, Bool, not, List, [], ◌∷◌, ◌++◌, length, drop, min, take, nat_le, nat_lt, position, unwrap_or, if◌then◌else◌}
use Rattle.acl_nt.specs.Conditions.{Condition, check}
use Rattle.acl_nt.specs.Numbers.{byte_at, half_at, dword_at}
use Rattle.acl_nt.specs.declared.form.NtForm.{NtForm}
use Rattle.acl_nt.specs.declared.form.NtForm.TheVariants as form
use Rattle.acl_nt.specs.declared.fault.NtReason.TheVariants.{Description, Pointer, Truncated, Version}

-- the version
abbrev pub version : List ℕ → ℕ
version bytes = half_at bytes 0

-- the size of the fields before the descriptor, or before the description in version 4
abbrev pub fixed_size : ℕ → ℕ
fixed_size v = if v == 1 then 8 else (if v == 2 then 28 else (if v == 3 then 80 else 78))

-- a byte that a description cannot have: it is not a printable character of ASCII
abbrev pub ends_description : ℕ → Bool
ends_description b = nat_lt b 0x20 || nat_lt 0x7e b

-- the bytes in which a description lies, which has at most 255 bytes
abbrev pub description_room : List ℕ → List ℕ
description_room bytes = take (min (length bytes - 78) 255) (drop 78 bytes)

-- the place of the first byte after the description of version 4
unfoldable pub description_end : List ℕ → ℕ
description_end bytes =
    78 + unwrap_or (position ends_description (description_room bytes))
    (length (description_room bytes))

-- the place after the zero byte of the description and the padding up to a multiple of 4
abbrev pub time_place : List ℕ → ℕ
time_place bytes = 4 * ((description_end bytes + 4) / 4)

-- the conditions on the first fields
unfoldable pub head_conditions : List ℕ → List Condition
head_conditions bytes =
    check (nat_le 8 (length bytes)) 0 Truncated
    ∷ check (nat_le 1 (version bytes) && nat_le (version bytes) 4) 0 Version
    ∷ check (half_at bytes 2 == version bytes) 2 Version
    ∷ check (not (dword_at bytes 4 == 0)) 4 Pointer
    ∷ check (nat_le (fixed_size (version bytes)) (length bytes)) 8 Truncated
    ∷ check ((version bytes == 1) || not (dword_at bytes 8 == 0)) 8 Pointer ∷ []

-- the conditions on the description, the time and the second hash of version 4
unfoldable pub description_conditions : List ℕ → List Condition
description_conditions bytes =
    check (nat_lt (description_end bytes) (length bytes)) (description_end bytes) Truncated
    ∷ check (byte_at bytes (description_end bytes) == 0) (description_end bytes) Description
    ∷ check (nat_le (time_place bytes + 72) (length bytes)) (time_place bytes) Truncated ∷ []

-- the conditions on what is after the first fields, which is something in version 4 alone
abbrev pub tail_conditions : List ℕ → List Condition
tail_conditions bytes = if version bytes == 4 then description_conditions bytes else []

-- the conditions on what is before the descriptor in `security.NTACL`
abbrev pub ntacl_conditions : List ℕ → List Condition
ntacl_conditions bytes = head_conditions bytes ++ tail_conditions bytes

-- the place of the descriptor in `security.NTACL`
abbrev pub ntacl_base : List ℕ → ℕ
ntacl_base bytes = if version bytes == 4 then time_place bytes + 72 else fixed_size (version bytes)

-- the conditions on what is before the descriptor in a value of a form
unfoldable pub frame_conditions : NtForm → List ℕ → List Condition
frame_conditions form.Descriptor bytes = []
frame_conditions form.Ntacl bytes = ntacl_conditions bytes

-- the place of the descriptor in a value of a form
unfoldable pub base_of : NtForm → List ℕ → ℕ
base_of form.Descriptor bytes = 0
base_of form.Ntacl bytes = ntacl_base bytes
