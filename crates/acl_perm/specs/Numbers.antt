-- The numbers of the permissions, of the access rights that have a second name, and of the flags. The order of the
-- rights and of the flags is that of RFC 8881, sections 6.2.1.3.1 and 6.2.1.4.1.
use Rattle.std.specs.Prelude.{ℕ, List, [], ◌∷◌, filter, is_some, map}
use Rattle.acl_perm.specs.Names.{rights}
use Rattle.acl_perm.specs.declared.perm.Perm.{Perm}
use Rattle.acl_perm.specs.declared.mode.Mode.{Mode}
use Rattle.acl_perm.specs.declared.mask.Mask.{Mask}
use Rattle.acl_perm.specs.declared.flags.Flags.{Flags}

-- the number of a set of permissions
abbrev pub perm_bits : Perm → ℕ
perm_bits perm = perm.bits

-- the number of a set of rights
abbrev pub mask_bits : Mask → ℕ
mask_bits mask = mask.bits

-- the number of a set of flags
abbrev pub flag_bits : Flags → ℕ
flag_bits flags = flags.bits

-- the numbers of a set of each kind
abbrev pub numbers_of : Perm × Mode × Mask × Flags → List ℕ
numbers_of (perm, mode, mask, flags) = perm.bits ∷ mode.bits ∷ mask.bits ∷ flags.bits ∷ []

-- read, write and execute (POSIX.1e draft 17, section 23.1.2)
abbrev pub permissions_in_order : List ℕ
permissions_in_order = 4 ∷ 2 ∷ 1 ∷ []

-- the bits of the rights that have a second name: LIST_DIRECTORY, ADD_FILE and ADD_SUBDIRECTORY
abbrev pub rights_of_directories : List ℕ
rights_of_directories = map (λ row. row.bit) (filter (λ row. is_some row.second) rights)

-- FILE_INHERIT, DIRECTORY_INHERIT, NO_PROPAGATE_INHERIT, INHERIT_ONLY, SUCCESSFUL_ACCESS, FAILED_ACCESS,
-- IDENTIFIER_GROUP and INHERITED
abbrev pub flags_in_order : List ℕ
flags_in_order = 0x01 ∷ 0x02 ∷ 0x04 ∷ 0x08 ∷ 0x10 ∷ 0x20 ∷ 0x40 ∷ 0x80 ∷ []
