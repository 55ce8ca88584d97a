-- Values of POSIX entries in calls from C (this library's own, over the definitions of the forms): the form that is
-- written for a number, the value of entries, and why it is not made.
use Rattle.std.specs.Prelude.{◌≡◌, ◌≢◌, ◌⊎◌, ◌==◌, ◌||◌, ◌++◌, ℕ, IsSome, List, None, Option, Some, if◌then◌else◌}
use Rattle.acl_posix.specs.Attribute.{attribute_bytes}
use Rattle.acl_posix.specs.Entries.{Entries}
use Rattle.acl_posix.specs.declared.raw_entry.RawEntry.{RawEntry}
use Rattle.acl_forms.specs.PosixNames.{NamesOfIds}
use Rattle.acl_forms.specs.PosixWritten.{posix_text, posix_text_fault}
use Rattle.acl_forms.specs.declared.fault.FormFault.{FormFault}
use Rattle.acl_forms.specs.declared.posix_text.style.TarStyle.TheVariants.{Gnu, Star}
use Rattle.aclck_c.specs.Call.{ReportsFault}
use Rattle.aclck_c.specs.Entries.{AreRefused, HoldEntries}
use Rattle.aclck_c.specs.FormValues.{form_reason_number}
use Rattle.aclck_c.specs.Names.{AreGoodNames, names_of_ids}
use Rattle.aclck_c.specs.Refusal.{in_value}
use Rattle.aclck_c.specs.Status as status
use Rattle.aclck_c.specs.declared.posix.names.RawName.{RawName}
use Rattle.aclck_c.specs.declared.posix.written.WrittenForm.{WrittenForm}
use Rattle.aclck_c.specs.declared.posix.written.WrittenForm.TheVariants.{Attribute, Text}
use Rattle.aclck_c.specs.declared.refusal.Refusal.{Refusal}

-- ---- the numbers of `enum aclck_posix_form`

-- the form that is written for a number: the texts of the access ACL and of the default ACL are written alike, and 16
-- more is the style of GNU tar
abbrev pub written_form_of_number : ℕ → Option WrittenForm
written_form_of_number number =
    if number == 1 then Some Attribute
    else (if number == 2 || number == 4 then Some (Text Star)
    else (if number == 18 || number == 20 then Some (Text Gnu) else None))

-- the number is that of a form that is written, and this holds of the form
pub record HoldsOfWrittenForm (number : ℕ) (Holds : WrittenForm → Type 0) : Type 0 where
  pub form : WrittenForm
  pub is_form : written_form_of_number number ≡ Some form
  pub holds : Holds form

-- ---- what is made

-- why a form cannot hold an ACL whose ids have these names; an attribute holds each ACL
abbrev pub posix_value_fault : WrittenForm → NamesOfIds → Entries → Option FormFault
posix_value_fault Attribute names acl = None
posix_value_fault (Text style) names acl = posix_text_fault names style acl

-- the value of an ACL whose ids have these names
abbrev pub posix_value : WrittenForm → NamesOfIds → Entries → List ℕ
posix_value Attribute names acl = attribute_bytes acl
posix_value (Text style) names acl = posix_text names style acl

-- the form holds the ACL, and this is its value
pub record IsPosixValueOf (form : WrittenForm) (names : NamesOfIds) (acl : Entries) (value : List ℕ) : Type 0 where
  pub held : posix_value_fault form names acl ≡ None
  pub is : value ≡ posix_value form names acl

-- the names make a table, the entries are a valid ACL, and this is its value
pub record MakesPosixValue (form : WrittenForm) (names : List RawName) (raws : List RawEntry) (value : List ℕ)
    : Type 0 where
  pub named : AreGoodNames names
  pub acl : Entries
  pub holds : HoldEntries raws acl
  pub made : IsPosixValueOf form (names_of_ids names) acl value

-- the same in the form of a number
abbrev pub MakesPosixValueIn : ℕ → List RawName → List RawEntry → List ℕ → Type 0
MakesPosixValueIn number names raws value = HoldsOfWrittenForm number (λ form. MakesPosixValue form names raws value)

-- ---- what is refused

-- the form cannot hold the ACL: the place of an entry in canonical order
pub record IsPosixNotHeld (form : WrittenForm) (names : NamesOfIds) (acl : Entries) (shown : Refusal) : Type 0 where
  pub fault : FormFault
  pub found : posix_value_fault form names acl ≡ Some fault
  pub is : shown ≡ in_value fault.place (form_reason_number fault.reason) 0

-- the entries are a valid ACL that the form cannot hold
pub record AreNotHeld (form : WrittenForm) (names : List RawName) (raws : List RawEntry) (shown : Refusal)
    : Type 0 where
  pub acl : Entries
  pub holds : HoldEntries raws acl
  pub why : IsPosixNotHeld form (names_of_ids names) acl shown

-- the names make a table, and the entries have this fault, or the form cannot hold them
pub record AreRefusedInForm (form : WrittenForm) (names : List RawName) (raws : List RawEntry) (shown : Refusal)
    : Type 0 where
  pub named : AreGoodNames names
  pub refused : AreRefused raws shown ⊎ AreNotHeld form names raws shown

-- the same in the form of a number
abbrev pub AreRefusedForNumber : ℕ → List RawName → List RawEntry → Refusal → Type 0
AreRefusedForNumber number names raws shown = HoldsOfWrittenForm number (λ form. AreRefusedInForm form names raws shown)

-- what a call promises about the entries, the names and the number of a form
pub record ReadsForForm (number : ℕ) (names : List RawName) (raws : List RawEntry) (fault fault_after : Refusal)
    (returned : ℕ) : Type 0 where
  pub refusal : ReportsFault (AreRefusedForNumber number names raws) fault fault_after returned
  -- an argument is bad if and only if this is returned; if memory runs out, nothing is said about the names
  pub bad : returned ≡ status.bad_argument → AreGoodNames names → IsSome (written_form_of_number number) → ⊥
  pub good : (returned ≢ status.bad_argument) → IsSome (written_form_of_number number)
  pub named : (returned ≢ status.bad_argument) → (returned ≢ status.memory) → AreGoodNames names
  -- no other status is returned
  pub known : status.IsOneOf (status.done_or_short ++ status.failures) returned
