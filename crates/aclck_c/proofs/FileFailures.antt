-- Faults of names and of texts are failures of a call over both.
use Rattle.std.proofs.Common.{List, Option, None, Some, Err, inl, inr, refl, rules, subst, sym}
use Rattle.std.specs.Prelude.{◌≡◌, IsSome}
use Rattle.std.proofs.lemmas.Bool.{false≢true}
use Rattle.acl_posix.specs.Names.{Table, empty_table}
use Rattle.acl_posix.specs.TextFault.{IsTextFaultOrMemory}
use Rattle.acl_posix.specs.declared.text_fault.TextFault.{TextFault}
use Rattle.aclck_c.specs.Names.{AreGoodNames, AreNames, names_added}
use Rattle.aclck_c.specs.Posix.{HasTextFault, IsRefusedBridge, IsRefusedPosix, posix_refusal}
use Rattle.aclck_c.specs.declared.failure.Failure.{Failure}
use Rattle.aclck_c.specs.declared.failure.Failure.TheVariants as failure
use Rattle.aclck_c.specs.declared.posix.file.RawPosixText.{RawPosixText}
use Rattle.aclck_c.specs.declared.posix.names.RawName.{RawName}
use Rattle.aclck_c.specs.declared.refusal.Refusal.{Refusal}
use Rattle.aclck_c.specs.internal.Failures.{IsFileFailure, ReadsTable, of_posix_text, of_refusal}

-- no table is made where there is none
pub no_table : (given : List RawName) → names_added empty_table given ≡ None → AreGoodNames given → ⊥
no_table given none good = false≢true (subst (λ (t : Option Table). IsSome t) none good)

-- what is refused of the names
pub names_failure : (given : RawPosixText) (f : Failure)
    → ReadsTable (names_added empty_table given.names.now) (Err f) → IsFileFailure given f
names_failure given failure.BadArgument h = no_table given.names.now h
names_failure given (failure.Refused shown) h = absurd h
names_failure given failure.Memory h = h

-- the refusal of a fault of the text, or that memory ran out
fault_failure : (given : RawPosixText) (f : TextFault) (shown : Option Refusal)
    → HasTextFault given f → shown ≡ posix_refusal f → IsFileFailure given (of_refusal shown)
fault_failure given f (Some shown) has is = record { fault = f; has = has; is = is }
fault_failure given f None has is = tt

-- what is refused of the text, with the table of the names
pub text_failure : (given : RawPosixText) (table : Table) (f : TextFault) → AreNames given.names.now table
    → IsTextFaultOrMemory given.text.now table f → IsFileFailure given (of_posix_text f)
text_failure given table f named (inl ran_out) = subst (λ (g : TextFault).
    IsFileFailure given (of_posix_text g)) (sym ran_out) tt
text_failure given table f named (inr has) =
    fault_failure given f (posix_refusal f) (record { table = table; named = named; has = has }) refl

-- names that make a table are good
pub good_names : (given : List RawName) (table : Table) → AreNames given table → AreGoodNames given
good_names given table named = subst (λ (t : Option Table). IsSome t) (sym named) (search rules)

-- a text with a fault has good names
pub refused_names : (given : RawPosixText) (shown : Refusal) → IsRefusedPosix given shown
    → AreGoodNames given.names.now
refused_names given shown h = good_names given.names.now h.has.table h.has.named

-- a text whose list is refused has good names
pub bridge_names : (given : RawPosixText) (shown : Refusal) → IsRefusedBridge given shown
    → AreGoodNames given.names.now
bridge_names given shown (inl h) = refused_names given shown h
bridge_names given shown (inr h) = good_names given.names.now h.0.read.table h.0.read.named
