-- How a part of a value of a form is read and handed out (this library's own; only the code needs it).
use Rattle.std.specs.Prelude.{◌≡◌, ◌<◌, ◌⊎◌, ⊤, ℕ, List, length}
use Rattle.acl_forms.specs.declared.form.Form.{Form}
use Rattle.aclck_c.specs.FormParts.{IsRefusedFormPart}
use Rattle.aclck_c.specs.Out.{Puts}
use Rattle.aclck_c.specs.Status as status
use Rattle.aclck_c.specs.declared.failure.Failure.{Failure}
use Rattle.aclck_c.specs.internal.Failures.{IsFailure}

-- the value has the fault, or memory ran out
abbrev pub IsFormPartFailure : Form → List ℕ → Failure → Type 0
IsFormPartFailure form value = IsFailure ⊤ (IsRefusedFormPart form value) ⊤

-- the effect of bytes and items on their buffers, and the status
pub record PutsBothIfRoom {A B : Type 0} (bytes buffer buffer_after : List A) (items room room_after : List B)
    (returned : ℕ) : Type 0 where
  pub put : returned ≡ status.done → Puts bytes buffer buffer_after
  pub put_items : returned ≡ status.done → Puts items room room_after
  pub short : returned ≡ status.short → (length buffer < length bytes) ⊎ (length room < length items)
  pub unwritten : returned ≡ status.short → buffer_after ≡ buffer
  pub none : returned ≡ status.short → room_after ≡ room
  pub known : (returned ≡ status.done) ⊎ (returned ≡ status.short)
