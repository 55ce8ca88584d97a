-- The ACLs of a new file or directory (acl(5), "OBJECT CREATION AND DEFAULT ACLs").
use Rattle.std.specs.Prelude.{ℕ, bit_and, Bool, [], ◌∷◌, Option, Some, None, if◌then◌else◌}
use Rattle.std.specs.Int.{w16, bit_not}
use Rattle.acl_perm.specs.Mode.{owner_part, group_part, others_part}
use Rattle.acl_posix.specs.Tag.{user_obj, group_obj, other}
use Rattle.acl_posix.specs.Entries.{Entries, as_set}
use Rattle.acl_posix.specs.Mode.{mode_of, chmoded}

-- the three entries of a mode
abbrev pub of_mode : ℕ → Entries
of_mode mode = as_set ((user_obj, owner_part mode) ∷ (group_obj, group_part mode) ∷ (other, others_part mode) ∷ [])

-- a set with the entries of its mode reduced to the bits of a mode
abbrev pub cut : Entries → ℕ → Entries
cut entries mode = chmoded entries (bit_and (mode_of entries) mode)

-- the access ACL: with a default ACL of the directory, that ACL with the entries of its mode reduced to the bits of the
-- mode; without one, the bits of the mode that the umask does not have
abbrev pub created_access : Option Entries → ℕ → ℕ → Entries
created_access (Some default) mode umask = cut default mode
created_access None mode umask = of_mode (bit_and mode (bit_not w16 umask))

-- the default ACL: that of the directory for a new directory, and none for a file
abbrev pub created_default : Option Entries → Bool → Option Entries
created_default default is_directory = if is_directory then default else None
