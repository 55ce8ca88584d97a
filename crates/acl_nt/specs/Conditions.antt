-- The conditions that a value must meet, in the order in which its fields are read, each with the
-- fault of a value that does not meet it: the first such fault is that of the value. The order is
-- this library's own.
use Rattle.std.specs.Prelude.{◌≡◌, ◌⊎◌, ℕ, Bool, IsTrue, List, [], ◌∷◌, Option, None, Some, Result, Ok, Err, if◌then◌else◌}
use Rattle.std.specs.List.{AllByRecursion}
use Rattle.acl_nt.specs.Faults.{nt_fault_at, nt_memory_fault}
use Rattle.acl_nt.specs.declared.fault.NtFault.{NtFault}
use Rattle.acl_nt.specs.declared.fault.NtReason.{NtReason}

-- a condition, and the fault of a value that does not meet it
pub record Condition : Type 0 where
  pub holds : Bool
  pub fault : NtFault

-- the condition whose fault is at this place and has this reason
abbrev pub check : Bool → ℕ → NtReason → Condition
check holds offset reason = record { holds = holds; fault = nt_fault_at offset reason }

-- each condition is met
abbrev pub AreMet : List Condition → Type 0
AreMet conditions = AllByRecursion (λ c. IsTrue c.holds) conditions

-- the fault of the first condition that is not met
abbrev pub first_unmet : List Condition → Option NtFault
first_unmet [] = None
first_unmet (c ∷ conditions) = if c.holds then first_unmet conditions else Some c.fault

-- the fault is the first of these conditions, or memory ran out
abbrev pub FailsUnder : NtFault → List Condition → Type 0
FailsUnder fault conditions = (fault ≡ nt_memory_fault) ⊎ (first_unmet conditions ≡ Some fault)

-- the result of a call, seen by view, is the value if it meets these conditions, and its first
-- fault otherwise, unless memory runs out
abbrev pub ReadsUnder : {X Y : Type 0} → (X → Y) → Result X NtFault → List Condition → Y → Type 0
ReadsUnder view (Ok x) conditions value = (first_unmet conditions ≡ None) × (view x ≡ value)
ReadsUnder view (Err fault) conditions value = FailsUnder fault conditions
