use Rattle.std.specs.Prelude.{◌≡◌}
use Rattle.acl_eval.specs.Deciding.{decides}
use Rattle.acl_eval.specs.Situation.{situation}
use Rattle.acl_decide.specs.internal.DecidingBody.{decision_from}
use Rattle.acl_decide.proofs.one_decider.first_deciding.Given as goal

-- the rest of the list gives the decision of the whole list
abbrev pub invariant-loop-place : goal.invariant-loop-place
invariant-loop-place l =
    (goal.iterator-loop-place).can_next l.place-iterator ×
    (goal.iterator-loop-place).is_finite l.place-iterator ×
    (decision_from l.place-iterator.count (decides (situation l.matcher.object l.matcher.requester) l.right.bit)
    l.place-iterator.iter
    ≡ decision_from 0 (decides (situation l.matcher.object l.matcher.requester) l.right.bit) l.fn.aces)
