-- What is made of values of forms and of lists, and why it is not made.
use Rattle.std.proofs.Common.{◌≡◌, ◌⊎◌, ℕ, List, Option, Some, None, inl, inr, refl}
use Rattle.std.specs.Prelude.{⊤}
use Rattle.acl_perm.specs.Profile.{full}
use Rattle.acl_nfs4.specs.Ace.{Ace}
use Rattle.acl_nfs4.specs.Spelling.{Xdr}
use Rattle.acl_forms.specs.Forms.{IsFormFaultAt}
use Rattle.acl_forms.specs.ReadFaults.{no_memory_left}
use Rattle.acl_forms.specs.declared.fault.ReadFault.{ReadFault}
use Rattle.acl_forms.specs.declared.form.Form.{Form}
use Rattle.aclck_c.specs.FormValues.{IsRefusedValue, value_refusal}
use Rattle.aclck_c.specs.declared.failure.Failure.{Failure}
use Rattle.aclck_c.specs.declared.failure.Failure.TheVariants as failure
use Rattle.aclck_c.specs.declared.refusal.Refusal.{Refusal}
use Rattle.aclck_c.specs.internal.Failures.{IsFailure, IsListFailure, of_refusal}
use Rattle.aclck_c.specs.internal.FormFailures.{IsFormFailure, IsHoldingFailure, IsValueFailure, of_value}

-- if a refusal says why the input is refused, so does the failure
pub refusal_failure : (IsRefused : Refusal → Type 0) (o : Option Refusal)
    → ((shown : Refusal) → Some shown ≡ o → IsRefused shown) → IsFailure ⊤ IsRefused ⊤ (of_refusal o)
refusal_failure IsRefused (Some shown) says = says shown refl
refusal_failure IsRefused None says = tt

-- the value has the fault, or memory ran out
pub value_failure : (form : Form) (value : List ℕ) (wrong : ReadFault)
    → (wrong ≡ no_memory_left) ⊎ IsFormFaultAt form value wrong → IsValueFailure form value (of_value wrong)
value_failure form value wrong (inl none) = rw none tt
value_failure form value wrong (inr has) = refusal_failure (IsRefusedValue form value) (value_refusal wrong)
    (λ shown is. record { fault = wrong; has = has; is = is })

-- the bytes of a list are refused
pub list_failure : (form : Form) (flags : ℕ) (bytes : List ℕ) (f : Failure) → IsListFailure full bytes 0 f
    → IsFormFailure form flags bytes f
list_failure form flags bytes failure.BadArgument h = h
list_failure form flags bytes (failure.Refused shown) h = inl h
list_failure form flags bytes failure.Memory h = h

-- the form cannot hold the list of the bytes, or memory ran out
pub holding_failure : (form : Form) (flags : ℕ) (bytes : List ℕ) (list : List Ace) (f : Failure) → Xdr full list bytes
    → IsHoldingFailure form flags list f → IsFormFailure form flags bytes f
holding_failure form flags bytes list failure.BadArgument read h = h
holding_failure form flags bytes list (failure.Refused shown) read h =
    inr (record { list = list; read = read; why = h })
holding_failure form flags bytes list failure.Memory read h = (list, read)
