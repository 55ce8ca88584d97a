-- Faults of names and of values of POSIX forms are failures of a call over both.
use Rattle.std.proofs.Common.{◌≡◌, ◌⊎◌, ℕ, Option, Some, None, Err, inl, inr, refl}
use Rattle.acl_posix.specs.Names.{Table, empty_table}
use Rattle.acl_forms.specs.ReadFaults.{no_memory_left}
use Rattle.acl_forms.specs.declared.fault.ReadFault.{ReadFault}
use Rattle.aclck_c.specs.FormValues.{value_refusal}
use Rattle.aclck_c.specs.Names.{AreGoodNames, AreNames, names_added}
use Rattle.aclck_c.specs.PosixForms.{IsPosixFaultAt, IsRefusedPosixValueIn}
use Rattle.aclck_c.specs.declared.failure.Failure.{Failure}
use Rattle.aclck_c.specs.declared.failure.Failure.TheVariants as failure
use Rattle.aclck_c.specs.declared.posix.file.RawPosixText.{RawPosixText}
use Rattle.aclck_c.specs.declared.posix.forms.PosixForm.{PosixForm}
use Rattle.aclck_c.specs.declared.refusal.Refusal.{Refusal}
use Rattle.aclck_c.specs.internal.Failures.{ReadsTable, of_refusal}
use Rattle.aclck_c.specs.internal.FormFailures.{IsPosixValueFailure, of_value}
use Rattle.aclck_c.proofs.FileFailures.{good_names, no_table}

-- what is refused of the names
pub names_failure : (form : PosixForm) (given : RawPosixText) (f : Failure)
    → ReadsTable (names_added empty_table given.names.now) (Err f) → IsPosixValueFailure form given f
names_failure form given failure.BadArgument h = no_table given.names.now h
names_failure form given (failure.Refused shown) h = absurd h
names_failure form given failure.Memory h = h

-- the refusal of a fault of the value, or that memory ran out
refusal_failure : (form : PosixForm) (given : RawPosixText) (table : Table) (wrong : ReadFault) (shown : Option Refusal)
    → AreNames given.names.now table → IsPosixFaultAt form table given.text.now wrong → shown ≡ value_refusal wrong
    → IsPosixValueFailure form given (of_refusal shown)
refusal_failure form given table wrong (Some shown) named has is =
    record { table = table; named = named; fault = wrong; has = has; is = is }
refusal_failure form given table wrong None named has is = tt

-- what is refused of the value, with the table of the names
pub value_failure : (form : PosixForm) (given : RawPosixText) (table : Table) (wrong : ReadFault)
    → AreNames given.names.now table → (wrong ≡ no_memory_left) ⊎ IsPosixFaultAt form table given.text.now wrong
    → IsPosixValueFailure form given (of_value wrong)
value_failure form given table wrong named (inl none) = rw none tt
value_failure form given table wrong named (inr has) =
    refusal_failure form given table wrong (value_refusal wrong) named has refl

-- a value with a fault has good names
pub refused_names : (number : ℕ) (given : RawPosixText) (shown : Refusal) → IsRefusedPosixValueIn number given shown
    → AreGoodNames given.names.now
refused_names number given shown h = good_names given.names.now h.holds.table h.holds.named
