use Rattle.std.specs.Prelude.{◌≡◌, ◌≢◌}
use Rattle.acl_eval.specs.Situation.{situation}
use Rattle.acl_eval.specs.Scan.{scan}
use Rattle.acl_eval.proofs.whole_request.scan.Given as goal

-- the rest of the list decides what is left of the request as the whole list decides the request
abbrev pub invariant-loop-ace : goal.invariant-loop-ace
invariant-loop-ace l =
    (goal.iterator-loop-ace).can_next l.ace-iterator ×
    (goal.iterator-loop-ace).is_finite l.ace-iterator ×
    (l.left ≢ 0) ×
    (scan l.ace-iterator (situation l.matcher.object l.matcher.requester) l.left
    ≡ scan l.fn.aces (situation l.matcher.object l.matcher.requester) l.fn.left)
