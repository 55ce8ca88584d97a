-- What the laws of inheritance say, flag by flag (the flags are those of RFC 8881, section 6.2.1.4.1).
use Rattle.std.specs.Prelude.{◌≡◌, ◌&&◌, ℕ, Bool, false, not}
use Rattle.acl_perm.specs.Bits.{has_bit, identifier_group, inherit_only}
use Rattle.acl_eval.specs.Inheritance.{directory_inherit, file_inherit, inherited, no_propagate_inherit}

-- the bit of the flag SUCCESSFUL_ACCESS
abbrev pub successful_access : ℕ
successful_access = 4

-- the bit of the flag FAILED_ACCESS
abbrev pub failed_access : ℕ
failed_access = 5

-- the flags f of an ACE in the child, given its flags in the parent and whether the child passes it on: FILE_INHERIT
-- and DIRECTORY_INHERIT are as they were if it does, and otherwise clear; INHERIT_ONLY is set if it does and
-- DIRECTORY_INHERIT is clear; NO_PROPAGATE_INHERIT and INHERITED are clear; the other three flags are as they were
pub record IsByFlag (is_passed_on : Bool) (flags f : ℕ) : Type 0 where
  pub file : has_bit f file_inherit ≡ (is_passed_on && has_bit flags file_inherit)
  pub directory : has_bit f directory_inherit ≡ (is_passed_on && has_bit flags directory_inherit)
  pub ends : has_bit f no_propagate_inherit ≡ false
  pub waits : has_bit f inherit_only ≡ (is_passed_on && not (has_bit flags directory_inherit))
  pub success : has_bit f successful_access ≡ has_bit flags successful_access
  pub failed : has_bit f failed_access ≡ has_bit flags failed_access
  pub group : has_bit f identifier_group ≡ has_bit flags identifier_group
  pub not_inherited : has_bit f inherited ≡ false
