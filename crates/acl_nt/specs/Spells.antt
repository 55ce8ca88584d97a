-- Which descriptor a value spells, and the first fault of a value that spells none.
use Rattle.std.specs.Prelude.{◌≡◌, ◌++◌, ◌+◌, List, ℕ, Some}
use Rattle.acl_nt.specs.Conditions.{AreMet, Condition, first_unmet}
use Rattle.acl_nt.specs.Descriptor.{Descriptor}
use Rattle.acl_nt.specs.DescriptorAt.{descriptor_at, descriptor_conditions, left_out_at}
use Rattle.acl_nt.specs.Ntacl.{base_of, frame_conditions}
use Rattle.acl_nt.specs.Numbers.{dword_at}
use Rattle.acl_nt.specs.declared.ace.OtherAce.{OtherAce}
use Rattle.acl_nt.specs.declared.form.NtForm.{NtForm}
use Rattle.acl_nt.specs.declared.fault.NtFault.{NtFault}
use Rattle.acl_nt.specs.declared.role.Role.{Role}
use Rattle.acl_nt.specs.declared.role.Role.TheVariants.{Deciding, DecidingPart}

-- the conditions on a value of a form
abbrev pub conditions : Role → NtForm → List ℕ → List Condition
conditions role form bytes =
    frame_conditions form bytes ++ descriptor_conditions role bytes (base_of form bytes)

-- the value meets the conditions, and its parts are those of the descriptor
pub record SpellsDescriptor (form : NtForm) (d : Descriptor) (bytes : List ℕ) : Type 0 where
  pub met : AreMet (conditions Deciding form bytes)
  pub is : d ≡ descriptor_at Deciding bytes (base_of form bytes)

-- the fault of the first condition that the value does not meet
abbrev pub IsFirstNtFault : NtForm → List ℕ → NtFault → Type 0
IsFirstNtFault form bytes fault = first_unmet (conditions Deciding form bytes) ≡ Some fault

-- the same of a value whose DACL may have ACEs that are left out, which are these
pub record SpellsDescriptorPart (form : NtForm) (d : Descriptor) (left_out : List OtherAce)
    (bytes : List ℕ) : Type 0 where
  pub met : AreMet (conditions DecidingPart form bytes)
  pub is : d ≡ descriptor_at DecidingPart bytes (base_of form bytes)
  pub others : left_out ≡ left_out_at DecidingPart bytes (dword_at bytes (base_of form bytes + 16))

-- the fault of the first condition that such a value does not meet
abbrev pub IsFirstPartFault : NtForm → List ℕ → NtFault → Type 0
IsFirstPartFault form bytes fault = first_unmet (conditions DecidingPart form bytes) ≡ Some fault
