-- Every form in one relation, by cases over the definitions of the forms. That a text has no flags of the list, and so
-- spells a list without flags and cannot hold others, is this library's own.
use Rattle.std.specs.Prelude.{◌≡◌, ◌==◌, ℕ, Bool, true, false, List, Option, Some, None, if◌then◌else◌, map}
use Rattle.acl_nfs4.specs.Ace.{Ace}
use Rattle.acl_forms.specs.Acl41.{IsAcl41, IsAcl41Fault, acl41_bytes}
use Rattle.acl_forms.specs.Acl41Ids.{IsAcl41Ids, IsAcl41IdsFault, acl41_ids_bytes, acl41_ids_fault}
use Rattle.acl_forms.specs.NfsRules.{IsFaultOfNfsText, SpellsNfsText}
use Rattle.acl_forms.specs.NfsWritten.{as_nfs_written, nfs_text, nfs_text_fault}
use Rattle.acl_forms.specs.ToolsRules.{IsToolsFault, SpellsTools}
use Rattle.acl_forms.specs.ToolsWritten.{as_written, tools_fault, tools_text}
use Rattle.acl_forms.specs.declared.fault.FormFault.{FormFault}
use Rattle.acl_forms.specs.declared.fault.FormReason.TheVariants as reason
use Rattle.acl_forms.specs.declared.fault.ReadFault.{ReadFault}
use Rattle.acl_forms.specs.declared.form.Form.{Form}
use Rattle.acl_forms.specs.declared.form.Form.TheVariants.{NfsTools, NfsText, NfsAcl41, NfsAcl41Ids}

-- ---- what a value of a form is

-- a text spells a list, and there are no flags
pub record IsTextWithoutFlags {X : Type 0} (Spells : List X → List ℕ → Type 0) (flags : ℕ) (list : List X)
    (text : List ℕ) : Type 0 where
  pub none : flags ≡ 0
  pub spelled : Spells list text

-- the value of a form spells these flags and this list
abbrev pub SpellsForm : Form → ℕ → List Ace → List ℕ → Type 0
SpellsForm (NfsTools object) flags list bytes = IsTextWithoutFlags (SpellsTools object) flags list bytes
SpellsForm (NfsText source style) flags list bytes = IsTextWithoutFlags (SpellsNfsText source) flags list bytes
SpellsForm NfsAcl41 flags list bytes = IsAcl41 flags list bytes
SpellsForm NfsAcl41Ids flags list bytes = IsAcl41Ids flags list bytes

-- the value of a form spells no flags and list, and this is its first fault
abbrev pub IsFormFaultAt : Form → List ℕ → ReadFault → Type 0
IsFormFaultAt (NfsTools object) bytes fault = IsToolsFault object bytes fault
IsFormFaultAt (NfsText source style) bytes fault = IsFaultOfNfsText source bytes fault
IsFormFaultAt NfsAcl41 bytes fault = IsAcl41Fault bytes fault
IsFormFaultAt NfsAcl41Ids bytes fault = IsAcl41IdsFault bytes fault

-- ---- which flags and lists a form holds, and how

-- a value of the form is a text
abbrev pub is_text : Form → Bool
is_text (NfsTools object) = true
is_text (NfsText source style) = true
is_text NfsAcl41 = false
is_text NfsAcl41Ids = false

-- flags for which a form has no place, or the fault of the list
abbrev pub unless_flags : ℕ → Option FormFault → Option FormFault
unless_flags flags fault = if flags == 0 then fault else Some (record { place = 0; reason = reason.AclFlags })

-- why the form cannot hold these flags and this list
abbrev pub form_fault : Form → ℕ → List Ace → Option FormFault
form_fault (NfsTools object) flags list = unless_flags flags (tools_fault object list)
form_fault (NfsText source style) flags list = unless_flags flags (nfs_text_fault list)
form_fault NfsAcl41 flags list = None
form_fault NfsAcl41Ids flags list = acl41_ids_fault list

-- the value of flags and a list that the form holds
abbrev pub form_bytes : Form → ℕ → List Ace → List ℕ
form_bytes (NfsTools object) flags list = tools_text list
form_bytes (NfsText source style) flags list = nfs_text style list
form_bytes NfsAcl41 flags list = acl41_bytes flags list
form_bytes NfsAcl41Ids flags list = acl41_ids_bytes flags list

-- the list that this value spells
abbrev pub form_list : Form → List Ace → List Ace
form_list (NfsTools object) list = map as_written list
form_list (NfsText source style) list = map as_nfs_written list
form_list NfsAcl41 list = list
form_list NfsAcl41Ids list = list
