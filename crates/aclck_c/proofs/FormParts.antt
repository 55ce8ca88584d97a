-- What is made of parts of values of forms, and why it is not made.
use Rattle.std.proofs.Common.{◌≡◌, ◌⊎◌, ℕ, List, inl, inr}
use Rattle.acl_forms.specs.PartForms.{IsPartFaultAt}
use Rattle.acl_forms.specs.ReadFaults.{no_memory_left}
use Rattle.acl_forms.specs.declared.fault.ReadFault.{ReadFault}
use Rattle.acl_forms.specs.declared.form.Form.{Form}
use Rattle.aclck_c.specs.FormParts.{IsRefusedFormPart}
use Rattle.aclck_c.specs.FormValues.{value_refusal}
use Rattle.aclck_c.specs.internal.FormFailures.{of_value}
use Rattle.aclck_c.specs.internal.FormParts.{IsFormPartFailure}
use Rattle.aclck_c.proofs.FormValues.{refusal_failure}

-- the value has the fault, or memory ran out
pub part_failure : (form : Form) (value : List ℕ) (wrong : ReadFault)
    → (wrong ≡ no_memory_left) ⊎ IsPartFaultAt form value wrong → IsFormPartFailure form value (of_value wrong)
part_failure form value wrong (inl none) = rw none tt
part_failure form value wrong (inr has) = refusal_failure (IsRefusedFormPart form value) (value_refusal wrong)
    (λ shown is. record { fault = wrong; has = has; is = is })
