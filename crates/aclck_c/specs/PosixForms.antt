-- Values of forms of POSIX ACLs in calls from C (this library's own, over the definitions of the forms): which form a
-- number means, the entries of a value, and why it is refused.
use Rattle.std.specs.Prelude.{◌≡◌, ◌==◌, ◌||◌, ℕ, List, None, Option, Some, if◌then◌else◌}
use Rattle.acl_posix.specs.Entries.{Entries}
use Rattle.acl_posix.specs.Names.{Table}
use Rattle.acl_posix.specs.declared.raw_entry.RawEntry.{RawEntry}
use Rattle.acl_forms.specs.Attributes.{IsAttributeFault, SpellsAttribute}
use Rattle.acl_forms.specs.PosixRules.{IsDefaultTextFault, IsPosixTextFault, SpellsDefaultText, SpellsPosixText}
use Rattle.acl_forms.specs.declared.fault.ReadFault.{ReadFault}
use Rattle.aclck_c.specs.Entries.{raws_of_option}
use Rattle.aclck_c.specs.FormValues.{value_refusal}
use Rattle.aclck_c.specs.Names.{AreNames}
use Rattle.aclck_c.specs.declared.posix.file.RawPosixText.{RawPosixText}
use Rattle.aclck_c.specs.declared.posix.forms.PosixForm.{PosixForm}
use Rattle.aclck_c.specs.declared.posix.forms.PosixForm.TheVariants.{Attribute, DefaultOfText, DefaultText, Text}
use Rattle.aclck_c.specs.declared.refusal.Refusal.{Refusal}

-- ---- the numbers of `enum aclck_posix_form`

-- the form of a number; 16 more is the style of GNU tar, which has no effect where a text is read
abbrev pub posix_form_of_number : ℕ → Option PosixForm
posix_form_of_number number =
    if number == 1 then Some Attribute
    else (if number == 2 || number == 18 then Some Text
    else (if number == 3 then Some DefaultOfText
    else (if number == 4 || number == 20 then Some DefaultText else None)))

-- the number is that of a form, and this holds of the form
pub record HoldsOfPosixForm (number : ℕ) (Holds : PosixForm → Type 0) : Type 0 where
  pub form : PosixForm
  pub is_form : posix_form_of_number number ≡ Some form
  pub holds : Holds form

-- ---- what is read

-- the ACL, or none, is the one of what is spelled
pub record ComesFrom {X : Type 0} (Spelled : X → Type 0) (acl_of : X → Option Entries) (acl : Option Entries)
    : Type 0 where
  pub spelled : X
  pub is_spelled : Spelled spelled
  pub is : acl ≡ acl_of spelled

-- the value has this ACL in the form; a text need not have a default ACL
abbrev pub HasAcl : PosixForm → Table → List ℕ → Option Entries → Type 0
HasAcl Attribute table value = ComesFrom (λ acl. SpellsAttribute acl value) (λ acl. Some acl)
HasAcl Text table value = ComesFrom (λ file. SpellsPosixText table file value) (λ file. Some file.access)
HasAcl DefaultOfText table value = ComesFrom (λ file. SpellsPosixText table file value) (λ file. file.default)
HasAcl DefaultText table value = ComesFrom (λ acl. SpellsDefaultText table acl value) (λ acl. Some acl)

-- the names make a table, with which the value has an ACL with these entries, or none
pub record ReadsPosixValue (form : PosixForm) (given : RawPosixText) (made : List RawEntry) : Type 0 where
  pub table : Table
  pub named : AreNames given.names.now table
  pub acl : Option Entries
  pub has : HasAcl form table given.text.now acl
  pub is : made ≡ raws_of_option acl

-- the same in the form of a number
abbrev pub ReadsPosixValueIn : ℕ → RawPosixText → List RawEntry → Type 0
ReadsPosixValueIn number given made = HoldsOfPosixForm number (λ form. ReadsPosixValue form given made)

-- ---- what is refused

-- the value has no ACL in the form, and this is its first fault
abbrev pub IsPosixFaultAt : PosixForm → Table → List ℕ → ReadFault → Type 0
IsPosixFaultAt Attribute table value fault = IsAttributeFault value fault
IsPosixFaultAt Text table value fault = IsPosixTextFault table value fault
IsPosixFaultAt DefaultOfText table value fault = IsPosixTextFault table value fault
IsPosixFaultAt DefaultText table value fault = IsDefaultTextFault table value fault

-- the names make a table, with which the value has this fault in the form
pub record IsRefusedPosixValue (form : PosixForm) (given : RawPosixText) (shown : Refusal) : Type 0 where
  pub table : Table
  pub named : AreNames given.names.now table
  pub fault : ReadFault
  pub has : IsPosixFaultAt form table given.text.now fault
  pub is : Some shown ≡ value_refusal fault

-- the same in the form of a number
abbrev pub IsRefusedPosixValueIn : ℕ → RawPosixText → Refusal → Type 0
IsRefusedPosixValueIn number given shown = HoldsOfPosixForm number (λ form. IsRefusedPosixValue form given shown)
