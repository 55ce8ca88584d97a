-- What a form cannot hold of the rest of a list, place by place (this library's own). No public clause cites it.
use Rattle.std.specs.Prelude.{ℕ, ◌+◌, List, [], ◌∷◌, length, nat_lt, Option, None, Some, if◌then◌else◌}
use Rattle.acl_nfs4.specs.Ace.{Ace}
use Rattle.acl_forms.specs.ToolsWritten.{longest_tools_text, tools_ace_fault, tools_line}
use Rattle.acl_forms.specs.declared.fault.FormFault.{FormFault}
use Rattle.acl_forms.specs.declared.fault.FormReason.{FormReason}
use Rattle.acl_forms.specs.declared.fault.FormReason.TheVariants.{TooLong}
use Rattle.acl_forms.specs.declared.object.ObjectKind.{ObjectKind}

-- the fault of an ACE at a place, or of the ACEs after it
abbrev pub fault_or : ℕ → Option FormReason → Option FormFault → Option FormFault
fault_or place (Some reason) others = Some (record { place = place; reason = reason })
fault_or place None others = others

-- the first element for which there is a reason, if the list begins at this place
abbrev pub fault_from : {X : Type 0} → (X → Option FormReason) → ℕ → List X → Option FormFault
fault_from reason place [] = None
fault_from reason place (x ∷ list) = fault_or place (reason x) (fault_from reason (place + 1) list)

-- the fault of a text that is too long up to an ACE, or of the ACEs after it
abbrev pub unless_long : ℕ → ℕ → Option FormFault → Option FormFault
unless_long place done others = fault_or place (if nat_lt longest_tools_text done then Some TooLong else None) others

-- the first ACE from a place on that the form cannot hold, after a text of this many bytes
unfoldable pub tools_fault_from : ObjectKind → ℕ → ℕ → List Ace → Option FormFault
tools_fault_from object place done [] = None
tools_fault_from object place done (a ∷ list) = fault_or place (tools_ace_fault object a)
    (unless_long place (done + length (tools_line a))
    (tools_fault_from object (place + 1) (done + length (tools_line a)) list))
