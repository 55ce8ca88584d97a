-- Why a value of a form is not read or made (this library's own; only the code needs it).
use Rattle.std.specs.Prelude.{⊤, ℕ, List}
use Rattle.acl_perm.specs.Profile.{full}
use Rattle.acl_nfs4.specs.Ace.{Ace}
use Rattle.acl_posix.specs.Entries.{Entries}
use Rattle.acl_posix.specs.declared.raw_entry.RawEntry.{RawEntry}
use Rattle.acl_forms.specs.PosixNames.{NamesOfIds}
use Rattle.acl_forms.specs.declared.fault.ReadFault.{ReadFault}
use Rattle.acl_forms.specs.declared.form.Form.{Form}
use Rattle.aclck_c.specs.FormValues.{IsNotHeld, IsRefusedFor, IsRefusedValue, value_refusal}
use Rattle.aclck_c.specs.Lists.{AreList}
use Rattle.aclck_c.specs.Names.{AreGoodNames}
use Rattle.aclck_c.specs.PosixForms.{IsRefusedPosixValue}
use Rattle.aclck_c.specs.PosixWriting.{AreRefusedInForm, IsPosixNotHeld}
use Rattle.aclck_c.specs.declared.failure.Failure.{Failure}
use Rattle.aclck_c.specs.declared.posix.file.RawPosixText.{RawPosixText}
use Rattle.aclck_c.specs.declared.posix.forms.PosixForm.{PosixForm}
use Rattle.aclck_c.specs.declared.posix.names.RawName.{RawName}
use Rattle.aclck_c.specs.declared.posix.written.WrittenForm.{WrittenForm}
use Rattle.aclck_c.specs.internal.Failures.{IsFailure, of_refusal}

-- the failure of a value of a form
abbrev pub of_value : ReadFault → Failure
of_value fault = of_refusal (value_refusal fault)

-- the value has the fault, or memory ran out
abbrev pub IsValueFailure : Form → List ℕ → Failure → Type 0
IsValueFailure form value = IsFailure ⊤ (IsRefusedValue form value) ⊤

-- the form cannot hold the list, or memory ran out
abbrev pub IsHoldingFailure : Form → ℕ → List Ace → Failure → Type 0
IsHoldingFailure form flags list = IsFailure ⊤ (IsNotHeld form flags list) ⊤

-- the bytes of the list have the fault, the form cannot hold the list, or memory ran out
abbrev pub IsFormFailure : Form → ℕ → List ℕ → Failure → Type 0
IsFormFailure form flags bytes = IsFailure ⊤ (IsRefusedFor form flags bytes) (AreList full bytes)

-- the names make no table, the value of a POSIX form has the fault, or memory ran out
abbrev pub IsPosixValueFailure : PosixForm → RawPosixText → Failure → Type 0
IsPosixValueFailure form given = IsFailure (AreGoodNames given.names.now) (IsRefusedPosixValue form given) ⊤

-- the form cannot hold the ACL, or memory ran out
abbrev pub IsPosixHoldingFailure : WrittenForm → NamesOfIds → Entries → Failure → Type 0
IsPosixHoldingFailure form names acl = IsFailure ⊤ (IsPosixNotHeld form names acl) ⊤

-- the names make no table, the entries have the fault, the form cannot hold them, or memory ran out
abbrev pub IsWritingFailure : WrittenForm → List RawName → List RawEntry → Failure → Type 0
IsWritingFailure form names raws = IsFailure (AreGoodNames names) (AreRefusedInForm form names raws) ⊤
