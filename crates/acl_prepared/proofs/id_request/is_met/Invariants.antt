use Rattle.std.specs.Prelude.{◌≡◌, ◌==◌, take}
use Rattle.std.specs.List.{list_any}
use Rattle.acl_prepared.proofs.id_request.is_met.Given as goal

-- whether the id is one of the ids so far
abbrev pub invariant-loop-other : goal.invariant-loop-other
invariant-loop-other l = l.met ≡ list_any (λ g. l.id == g) (take l.other-index l.ids)
