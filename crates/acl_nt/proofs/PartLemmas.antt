-- The parts of a descriptor together.
use Rattle.std.proofs.Common.{◌≡◌, ◌∙◌, ◌++◌, ℕ, Bool, true, false, List, [], Option, None, Some, refl}
use Rattle.std.specs.Prelude.{if◌then◌else◌}
use Rattle.acl_nt.specs.Conditions.{Condition, FailsUnder, first_unmet}
use Rattle.acl_nt.specs.Descriptor.{NtAce, entries, null}
use Rattle.acl_nt.specs.Sid.{Sid}
use Rattle.acl_nt.specs.internal.Parts.{parts_of}
use Rattle.acl_nt.specs.declared.ace.OtherAce.{OtherAce}
use Rattle.acl_nt.specs.declared.fault.NtFault.{NtFault}
use Rattle.acl_nt.proofs.ConditionLemmas.{fails_after, fails_before, fault_after}

-- the descriptor of parts that are there or not
pub parts_are : (no_sacl no_dacl : Bool) (control : ℕ) (owner group : Option Sid)
    (s d : List NtAce × List OtherAce)
    → parts_of control owner group (if no_sacl then None else Some s) (if no_dacl then None else Some d)
    ≡ (
      record {
        control = control;
        owner = owner;
        group = group;
        dacl = if no_dacl then null else entries d.0;
        sacl = if no_sacl then None else Some s.1;
      },
      if no_dacl then [] else d.1,
    )
parts_are true true control owner group s d = refl
parts_are true false control owner group s d = refl
parts_are false true control owner group s d = refl
parts_are false false control owner group s d = refl

-- conditions that are met one after the other
module _ (f : NtFault) (owner group sacl dacl : List Condition) where
  -- the conditions on all parts
  abbrev pub all : List Condition
  all = owner ++ (group ++ (sacl ++ dacl))

  pub of_owner : FailsUnder f owner → FailsUnder f all
  of_owner fails = fails_before f owner (group ++ (sacl ++ dacl)) fails

  pub of_group : first_unmet owner ≡ None → FailsUnder f group → FailsUnder f all
  of_group o fails = fails_after f owner (group ++ (sacl ++ dacl)) o (fails_before f group (sacl ++ dacl) fails)

  pub of_sacl : first_unmet owner ≡ None → first_unmet group ≡ None → FailsUnder f sacl → FailsUnder f all
  of_sacl o g fails = fails_after f owner (group ++ (sacl ++ dacl)) o
      (fails_after f group (sacl ++ dacl) g (fails_before f sacl dacl fails))

  pub of_dacl : first_unmet owner ≡ None → first_unmet group ≡ None → first_unmet sacl ≡ None → FailsUnder f dacl
      → FailsUnder f all
  of_dacl o g s fails = fails_after f owner (group ++ (sacl ++ dacl)) o
      (fails_after f group (sacl ++ dacl) g (fails_after f sacl dacl s fails))

-- parts without a fault have none together
pub no_fault : (owner group sacl dacl : List Condition) → first_unmet owner ≡ None → first_unmet group ≡ None
    → first_unmet sacl ≡ None → first_unmet dacl ≡ None
    → first_unmet (owner ++ (group ++ (sacl ++ dacl))) ≡ None
no_fault owner group sacl dacl o g s d = fault_after owner (group ++ (sacl ++ dacl)) o
    ∙ fault_after group (sacl ++ dacl) g ∙ fault_after sacl dacl s ∙ d
