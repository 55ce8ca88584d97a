use Rattle.std.proofs.Common.{◌-◌, length}
use Rattle.acl_eval.specs.Situation.{situation}
use Rattle.acl_decide.specs.internal.RequestBody.{HasPassed}
use Rattle.acl_decide.specs.internal.OutNames.{is_out}
use Rattle.acl_decide.proofs.request_with_unknown.descend.Given as goal

-- no ACE from the first place up to this one decides the right
abbrev pub invariant-loop-item : goal.invariant-loop-item
invariant-loop-item l = HasPassed l.aces (situation l.matcher.object l.matcher.requester) l.right.bit (is_out l.out)
    l.fn.place l.place

abbrev pub decreases-loop-item : goal.decreases-loop-item
decreases-loop-item l = length l.aces - l.place
