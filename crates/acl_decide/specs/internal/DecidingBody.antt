-- The search for the ACE that decides, as the code does it: this library's own.
use Rattle.std.specs.Prelude.{ℕ, ◌+◌, Bool, List, [], ◌∷◌, Option, Some, None, if◌then◌else◌}
use Rattle.acl_nfs4.specs.Ace.{Ace}
use Rattle.acl_decide.specs.declared.one_decider.Decision.{Decision}

-- the first ACE that passes the test, if the list begins at this place
abbrev pub decision_from : ℕ → (Ace → Bool) → List Ace → Option Decision
decision_from place test [] = None
decision_from place test (a ∷ list) =
    if test a then Some (record { place = place; kind = a.kind }) else decision_from (place + 1) test list
