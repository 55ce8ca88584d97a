-- What a call that writes a list in a form does: this library's own.
use Rattle.std.specs.Prelude.{◌≡◌, ℕ, List, Option, None, Some, Result, Ok, Err}
use Rattle.acl_perm.specs.Pieces.{Writes}
use Rattle.acl_forms.specs.declared.fault.FormFault.{FormFault}
use Rattle.acl_forms.specs.declared.form_write.FormWriteFault.{FormWriteFault}
use Rattle.acl_forms.specs.declared.form_write.FormWriteFault.TheVariants.{Form, Write}

-- a list that the form cannot hold is refused with its fault, and nothing is written
pub record IsFormRefused {K : Type 0} (holds : K → Option (List ℕ)) (failures : K → ℕ) (sink sink_after : K)
    (fault : FormFault) (r : Result (Unit {0}) FormWriteFault) : Type 0 where
  pub refused : r ≡ Err (Form fault)
  pub kept : sink_after ≡ sink

-- the result of a call that writes a list that the form holds: its text is written, or a write fails
abbrev pub WritesForm : {K : Type 0} → (K → Option (List ℕ)) → (K → ℕ) → K → K → List ℕ
    → Result (Unit {0}) FormWriteFault → Type 0
WritesForm holds failures sink sink_after text (Ok done) = Writes holds failures sink sink_after text (Ok done)
WritesForm holds failures sink sink_after text (Err (Write fault)) =
    Writes holds failures sink sink_after text (Err fault)
WritesForm holds failures sink sink_after text (Err (Form fault)) = ⊥

-- a list with this fault is refused, and any other is written as this text
abbrev pub WritesIfHeld : {K : Type 0} → (K → Option (List ℕ)) → (K → ℕ) → K → K → Option FormFault → List ℕ
    → Result (Unit {0}) FormWriteFault → Type 0
WritesIfHeld holds failures sink sink_after (Some fault) text r =
    IsFormRefused holds failures sink sink_after fault r
WritesIfHeld holds failures sink sink_after None text r = WritesForm holds failures sink sink_after text r
