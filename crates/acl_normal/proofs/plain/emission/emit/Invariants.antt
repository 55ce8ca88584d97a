use Rattle.acl_normal.proofs.Common.{aces_in, count_left, IsEmission}
use Rattle.acl_normal.proofs.plain.InTurn.{Completing}
use Rattle.acl_normal.proofs.plain.emission.emit.Given as goal

-- what has come, before all that is emitted from the rest, is emitted from the whole
abbrev pub invariant-emitted : goal.invariant-emitted
invariant-emitted l =
    Completing (IsEmission (aces_in l.fn.aces.items)) (aces_in l.form.items) (aces_in l.left.items)

-- fewer keys are left each time
abbrev pub decreases-emitted : goal.decreases-emitted
decreases-emitted l = count_left 21 (aces_in l.left.items)
