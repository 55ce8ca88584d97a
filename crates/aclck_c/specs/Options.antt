-- What the bits of `options` and modes mean in calls from C (this library's own). No option is a right: see
-- `all_rights`.
use Rattle.std.specs.Prelude.{◌==◌, ◌+◌, ◌≤◌, ℕ, Bool, IsFalse, None, Option, Some, bit_and, if◌then◌else◌}
use Rattle.acl_perm.specs.Bits.{all_mode_bits}
use Rattle.acl_perm.specs.Profile.{Profile, full, narrow}
use Rattle.acl_nfs4.specs.Within.{IsWithin}
use Rattle.acl_posix.specs.declared.form.AclTextForm.{AclTextForm}
use Rattle.acl_posix.specs.declared.form.AclTextForm.TheVariants as form
use Rattle.acl_eval.specs.declared.inherit.ChildKind.{ChildKind}
use Rattle.acl_eval.specs.declared.inherit.ChildKind.TheVariants.{Directory, File}

-- ---- the numbers of `enum aclck_option`

-- only the rights and flags of the narrow profile
abbrev pub narrow_option : ℕ
narrow_option = 0x01000000

-- the new object is a directory
abbrev pub directory_option : ℕ
directory_option = 0x02000000

-- the text has comments on entries that the mask limits
abbrev pub shown_option : ℕ
shown_option = 0x04000000

-- a list of entries with USER or GROUP entries and no MASK gets the MASK that setfacl adds
abbrev pub add_mask_option : ℕ
add_mask_option = 0x40000000

-- the text has commas between the entries
abbrev pub short_option : ℕ
short_option = 0x08000000

-- the groups of each requester are in rising order of their bytes
abbrev pub groups_in_order_option : ℕ
groups_in_order_option = 0x10000000

-- what is inherited gets the flag INHERITED
abbrev pub mark_option : ℕ
mark_option = 0x20000000

-- two names may become one
abbrev pub may_merge_option : ℕ
may_merge_option = 0x00800000

-- ---- what they mean

-- the options have this one
abbrev pub has_option : ℕ → ℕ → Bool
has_option option options = bit_and options option == option

-- the profile: the narrow one if the options say so
abbrev pub profile_from : ℕ → Profile
profile_from options = if has_option narrow_option options then narrow else full

-- what is created: a directory if the options say so
abbrev pub child_kind_from : ℕ → ChildKind
child_kind_from options = if has_option directory_option options then Directory else File

-- the form of a text
abbrev pub form_from : ℕ → Option AclTextForm
form_from options =
    if options == 0 then Some form.Canonical
    else (if options == shown_option then Some form.Shown
    else (if options == short_option then Some form.Short else None))

-- the options are those of a call that reads a profile and nothing else
abbrev pub IsProfileOption : ℕ → Type 0
IsProfileOption options = IsWithin narrow_option options

-- the options are those of a call that reads no profile, and whose requesters may have their groups in order
abbrev pub IsOrderOption : ℕ → Type 0
IsOrderOption options = IsWithin groups_in_order_option options

-- the caller says that the groups of each requester are in rising order of their bytes
abbrev pub says_order : ℕ → Bool
says_order options = has_option groups_in_order_option options

-- the options are those of a call that may add a MASK
abbrev pub IsMaskOption : ℕ → Type 0
IsMaskOption options = IsWithin add_mask_option options

-- The options are those of a call that creates an object in a directory with a list. The narrow profile does not have
-- the flag INHERITED, so it does not go with the option that sets this flag.
pub record IsCreationOption (options : ℕ) : Type 0 where
  pub known : IsWithin (narrow_option + directory_option + mark_option) options
  pub markable : IsFalse (has_option (narrow_option + mark_option) options)

-- the number is a mode: it has no other bit than the nine file mode bits
abbrev pub IsMode : ℕ → Type 0
IsMode number = number ≤ all_mode_bits
