-- What a form cannot hold of a list first (this library's own): the place of an ACE or of an entry, and the reason.
use Rattle.std.specs.Prelude.{ℕ, List, Option}
use Rattle.std.specs.List.{enumerate_from, find}
use Rattle.std.specs.Option.{is_some, option_and_then, option_map}
use Rattle.acl_forms.specs.declared.fault.FormFault.{FormFault}
use Rattle.acl_forms.specs.declared.fault.FormReason.{FormReason}

-- the first element of a list for which there is a reason: its place, and the reason
abbrev pub first_fault : {X : Type 0} → (X → Option FormReason) → List X → Option FormFault
first_fault reason list = option_and_then (λ p. option_map (λ r. record { place = p.0; reason = r }) (reason p.1))
    (find (λ p. is_some (reason p.1)) (enumerate_from 0 list))
