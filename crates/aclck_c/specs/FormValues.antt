-- Values of forms in calls from C (this library's own, over the definitions of the forms): which form a number means,
-- what is made of a value and of a list, and why either is refused.
use Rattle.std.specs.Prelude.{◌≡◌, ◌==◌, ◌⊎◌, ℕ, List, IsSome, None, Option, Some, bit_and, codes, if◌then◌else◌}
use Rattle.acl_perm.specs.Profile.{full}
use Rattle.acl_nfs4.specs.Ace.{Ace}
use Rattle.acl_nfs4.specs.Spelling.{Xdr, spelling}
use Rattle.acl_nfs4.specs.declared.xdr.fault.Reason.TheVariants as reason
use Rattle.acl_forms.specs.AclFlags.{IsAclFlags}
use Rattle.acl_forms.specs.Forms.{IsFormFaultAt, SpellsForm, form_bytes, form_fault}
use Rattle.acl_forms.specs.declared.fault.FormFault.{FormFault}
use Rattle.acl_forms.specs.declared.fault.FormReason.{FormReason}
use Rattle.acl_forms.specs.declared.fault.FormReason.TheVariants as holding
use Rattle.acl_forms.specs.declared.fault.ReadFault.{ReadFault}
use Rattle.acl_forms.specs.declared.fault.ReadReason.{ReadReason}
use Rattle.acl_forms.specs.declared.fault.ReadReason.TheVariants as reading
use Rattle.acl_forms.specs.declared.form.Form.{Form}
use Rattle.acl_forms.specs.declared.form.Form.TheVariants.{NfsAcl41, NfsAcl41Ids, NfsText, NfsTools}
use Rattle.acl_forms.specs.declared.object.ObjectKind.TheVariants.{Directory, File}
use Rattle.acl_forms.specs.declared.style.EntrySeparator.TheVariants.{Commas, LineFeeds}
use Rattle.acl_forms.specs.declared.style.LetterStyle.TheVariants.{Compact, Full}
use Rattle.acl_forms.specs.declared.style.Style.{Style}
use Rattle.acl_forms.specs.declared.who_field.WhoField.TheVariants as source
use Rattle.aclck_c.specs.Lists.{IsRefusedList}
use Rattle.aclck_c.specs.Posix.{tag_number}
use Rattle.aclck_c.specs.Refusal.{in_value, reason_number}
use Rattle.aclck_c.specs.Words.{reason_called}
use Rattle.aclck_c.specs.declared.refusal.Refusal.{Refusal}

-- ---- the numbers of `enum aclck_form`

-- the style of the bits of a number: 16 for commas, 32 for a place for each letter
abbrev pub style_of_number : ℕ → Style
style_of_number number = record {
  separator = if bit_and number 16 == 0 then LineFeeds else Commas;
  letters = if bit_and number 32 == 0 then Compact else Full;
}

-- the text of a number, which is 5 or 6 without the bits of a style
abbrev pub text_of_number : ℕ → Option Form
text_of_number number =
    if bit_and number 0xffffffcf == 5 then Some (NfsText source.Name (style_of_number number))
    else (if bit_and number 0xffffffcf == 6 then Some (NfsText source.Id (style_of_number number)) else None)

-- the form of a number
abbrev pub form_of_number : ℕ → Option Form
form_of_number number =
    if number == 1 then Some (NfsTools File)
    else (if number == 2 then Some (NfsTools Directory)
    else (if number == 3 then Some NfsAcl41
    else (if number == 4 then Some NfsAcl41Ids else text_of_number number)))

-- the number is that of a form, and this holds of the form
pub record HoldsOfForm (number : ℕ) (Holds : Form → Type 0) : Type 0 where
  pub form : Form
  pub is_form : form_of_number number ≡ Some form
  pub holds : Holds form

-- ---- what is made

-- the value spells these flags and a list in the form, and the bytes spell that list
pub record ReadsFormValue (form : Form) (value : List ℕ) (flags : ℕ) (bytes : List ℕ) : Type 0 where
  pub list : List Ace
  pub read : SpellsForm form flags list value
  pub is : bytes ≡ spelling list

-- the same in the form of a number
abbrev pub ReadsFormValueIn : ℕ → List ℕ → ℕ → List ℕ → Type 0
ReadsFormValueIn number value flags bytes = HoldsOfForm number (λ form. ReadsFormValue form value flags bytes)

-- the form holds the flags and the list, and this is their value
pub record IsValueOf (form : Form) (flags : ℕ) (list : List Ace) (value : List ℕ) : Type 0 where
  pub held : form_fault form flags list ≡ None
  pub is : value ≡ form_bytes form flags list

-- the bytes spell a list, and this is the value of the flags and that list in the form
pub record MakesFormValue (form : Form) (flags : ℕ) (bytes value : List ℕ) : Type 0 where
  pub list : List Ace
  pub read : Xdr full list bytes
  pub made : IsValueOf form flags list value

-- the same in the form of a number
abbrev pub MakesFormValueIn : ℕ → ℕ → List ℕ → List ℕ → Type 0
MakesFormValueIn number flags bytes value = HoldsOfForm number (λ form. MakesFormValue form flags bytes value)

-- the number is that of a form, and the flags are those of the standard
pub record IsGoodForm (number flags : ℕ) : Type 0 where
  pub is_form : IsSome (form_of_number number)
  pub are_flags : IsAclFlags flags

-- ---- what is refused

-- the number of the reason for which a value is refused
abbrev pub read_reason_number : ReadReason → ℕ
read_reason_number (reading.List why) = reason_number why
read_reason_number reading.AclFlagBits = reason_called (codes "AclFlagBits")
read_reason_number reading.IflagBits = reason_called (codes "IflagBits")
read_reason_number reading.Id = reason_called (codes "Id")
read_reason_number reading.Version = reason_called (codes "Version")
read_reason_number reading.Tag = reason_called (codes "Tag")
read_reason_number reading.Permission = reason_called (codes "Permission")
read_reason_number reading.Qualifier = reason_called (codes "Qualifier")
read_reason_number reading.Order = reason_called (codes "Order")
read_reason_number reading.Multi = reason_called (codes "Multi")
read_reason_number reading.Duplicate = reason_called (codes "Duplicate")
read_reason_number (reading.Miss tag) = reason_called (codes "Miss")
read_reason_number reading.Fields = reason_called (codes "Fields")
read_reason_number reading.Flag = reason_called (codes "Flag")
read_reason_number reading.Mask = reason_called (codes "Mask")
read_reason_number reading.NotDirectory = reason_called (codes "NotDirectory")
read_reason_number reading.Empty = reason_called (codes "Empty")
read_reason_number reading.EmptyEntry = reason_called (codes "EmptyEntry")
read_reason_number reading.IdDiffers = reason_called (codes "IdDiffers")
read_reason_number reading.UnknownName = reason_called (codes "UnknownName")
read_reason_number reading.Comment = reason_called (codes "Comment")
read_reason_number reading.Nul = reason_called (codes "Nul")
read_reason_number reading.TooLong = reason_called (codes "TooLong")

-- the number of the tag that is missing, or 0
abbrev pub missing_tag : ReadReason → ℕ
missing_tag (reading.Miss tag) = tag_number tag
missing_tag _ = 0

-- a refusal, unless the reason is that memory ran out
abbrev pub unless_memory : ReadReason → Refusal → Option Refusal
unless_memory (reading.List reason.Memory) shown = None
unless_memory _ shown = Some shown

-- the fault of a value, by numbers; none if memory ran out
abbrev pub value_refusal : ReadFault → Option Refusal
value_refusal fault = unless_memory fault.reason
    (in_value fault.offset (read_reason_number fault.reason) (missing_tag fault.reason))

-- the value has this fault in the form
pub record IsRefusedValue (form : Form) (value : List ℕ) (shown : Refusal) : Type 0 where
  pub fault : ReadFault
  pub has : IsFormFaultAt form value fault
  pub is : Some shown ≡ value_refusal fault

-- the same in the form of a number
abbrev pub IsRefusedValueIn : ℕ → List ℕ → Refusal → Type 0
IsRefusedValueIn number value shown = HoldsOfForm number (λ form. IsRefusedValue form value shown)

-- the number of the reason for which a form cannot hold a list
abbrev pub form_reason_number : FormReason → ℕ
form_reason_number holding.NoId = reason_called (codes "NoId")
form_reason_number holding.Inherited = reason_called (codes "Inherited")
form_reason_number holding.Retention = reason_called (codes "Retention")
form_reason_number holding.Separator = reason_called (codes "Separator")
form_reason_number holding.NotDirectory = reason_called (codes "NotDirectory")
form_reason_number holding.TooLong = reason_called (codes "TooLong")
form_reason_number holding.Empty = reason_called (codes "Empty")
form_reason_number holding.Id = reason_called (codes "Id")
form_reason_number holding.AclFlags = reason_called (codes "AclFlags")

-- the form cannot hold the flags and the list: the place of an ACE
pub record IsNotHeld (form : Form) (flags : ℕ) (list : List Ace) (shown : Refusal) : Type 0 where
  pub fault : FormFault
  pub found : form_fault form flags list ≡ Some fault
  pub is : shown ≡ in_value fault.place (form_reason_number fault.reason) 0

-- the bytes spell a list that the form cannot hold
pub record IsNotHeldIn (form : Form) (flags : ℕ) (bytes : List ℕ) (shown : Refusal) : Type 0 where
  pub list : List Ace
  pub read : Xdr full list bytes
  pub why : IsNotHeld form flags list shown

-- the bytes have this fault, or spell a list that the form cannot hold
abbrev pub IsRefusedFor : Form → ℕ → List ℕ → Refusal → Type 0
IsRefusedFor form flags bytes shown = IsRefusedList full bytes 0 shown ⊎ IsNotHeldIn form flags bytes shown

-- the same for the form of a number
abbrev pub IsRefusedForNumber : ℕ → ℕ → List ℕ → Refusal → Type 0
IsRefusedForNumber number flags bytes shown = HoldsOfForm number (λ form. IsRefusedFor form flags bytes shown)
