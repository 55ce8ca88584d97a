-- Parts of values of forms in calls from C (this library's own, over the definitions of the forms): what is made of a
-- value that may have ACEs that access does not read.
use Rattle.std.specs.Prelude.{◌≡◌, ◌≢◌, ◌<◌, ◌⊎◌, ℕ, List, Some, length, map}
use Rattle.acl_nfs4.specs.Ace.{Ace}
use Rattle.acl_nfs4.specs.Spelling.{spelling}
use Rattle.acl_nfs4.specs.declared.xdr.fault.Reason.TheVariants as reason
use Rattle.acl_forms.specs.PartForms.{IsPartFaultAt, SpellsPartOf}
use Rattle.acl_forms.specs.declared.fault.ReadFault.{ReadFault}
use Rattle.acl_forms.specs.declared.form.Form.{Form}
use Rattle.acl_forms.specs.declared.part.left_out.LeftOut.{LeftOut}
use Rattle.acl_forms.specs.declared.part.left_out.LeftOutReason.{LeftOutReason}
use Rattle.acl_forms.specs.declared.part.left_out.LeftOutReason.TheVariants.{AuditOrAlarm, SpecialWho}
use Rattle.aclck_c.specs.FormValues.{HoldsOfForm, value_refusal}
use Rattle.aclck_c.specs.Out.{Puts}
use Rattle.aclck_c.specs.Refusal.{reason_number}
use Rattle.aclck_c.specs.Status as status
use Rattle.aclck_c.specs.declared.nfs4.form_part.RawLeftOut.{RawLeftOut}
use Rattle.aclck_c.specs.declared.refusal.Refusal.{Refusal}

-- the number of the reason for which an ACE is left out
abbrev pub left_out_number : LeftOutReason → ℕ
left_out_number AuditOrAlarm = reason_number reason.AuditOrAlarm
left_out_number SpecialWho = reason_number reason.SpecialWho

-- an ACE that is left out, by numbers
abbrev pub raw_left_out : LeftOut → RawLeftOut
raw_left_out a = record { place = a.place; offset = a.offset; reason = left_out_number a.reason }

-- the value spells these flags and a list in the form, of which the bytes spell the ACEs that are kept, and these ACEs
-- are left out
pub record ReadsFormPart (form : Form) (value : List ℕ) (flags : ℕ) (bytes : List ℕ) (left : List RawLeftOut)
    : Type 0 where
  pub list : List Ace
  pub out : List LeftOut
  pub read : SpellsPartOf form flags list out value
  pub is : bytes ≡ spelling list
  pub left_out : left ≡ map raw_left_out out

-- the same in the form of a number
abbrev pub ReadsFormPartIn : ℕ → List ℕ → ℕ → List ℕ → List RawLeftOut → Type 0
ReadsFormPartIn number value flags bytes left =
    HoldsOfForm number (λ form. ReadsFormPart form value flags bytes left)

-- the value has this fault in the form, where ACEs may be left out
pub record IsRefusedFormPart (form : Form) (value : List ℕ) (shown : Refusal) : Type 0 where
  pub fault : ReadFault
  pub has : IsPartFaultAt form value fault
  pub is : Some shown ≡ value_refusal fault

-- the same in the form of a number
abbrev pub IsRefusedFormPartIn : ℕ → List ℕ → Refusal → Type 0
IsRefusedFormPartIn number value shown = HoldsOfForm number (λ form. IsRefusedFormPart form value shown)

-- ---- two buffers

-- bytes and items that satisfy this are at the fronts of their buffers, and their numbers are reported
pub record HandsOutBoth {A B : Type 0} (Means : List A → List B → Type 0) (buffer buffer_after : List A)
    (room room_after : List B) (needed count : ℕ) : Type 0 where
  pub bytes : List A
  pub items : List B
  pub means : Means bytes items
  pub puts : Puts bytes buffer buffer_after
  pub puts_items : Puts items room room_after
  pub reported : needed ≡ length bytes
  pub counted : count ≡ length items

-- one of the two is longer than its buffer, and their numbers are reported
pub record AreShortFor {A B : Type 0} (Means : List A → List B → Type 0) (buffer : List A) (room : List B)
    (needed count : ℕ) : Type 0 where
  pub bytes : List A
  pub items : List B
  pub means : Means bytes items
  pub short : (length buffer < length bytes) ⊎ (length room < length items)
  pub reported : needed ≡ length bytes
  pub counted : count ≡ length items

-- the effect of a call that writes bytes and items of this meaning on the two buffers
pub record WritesBoth {A B : Type 0} (Means : List A → List B → Type 0) (buffer buffer_after : List A)
    (room room_after : List B) (needed count returned : ℕ) : Type 0 where
  -- both are at the fronts of their buffers
  pub done : returned ≡ status.done → HandsOutBoth Means buffer buffer_after room room_after needed count
  -- one of the two has no room
  pub short : returned ≡ status.short → AreShortFor Means buffer room needed count
  -- at every other status the buffers are as they were
  pub unwritten : (returned ≢ status.done) → buffer_after ≡ buffer
  pub none : (returned ≢ status.done) → room_after ≡ room
