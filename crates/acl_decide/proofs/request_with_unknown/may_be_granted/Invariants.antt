use Rattle.std.specs.Prelude.{map}
use Rattle.acl_nfs4.specs.Ace.{ace}
use Rattle.acl_eval.specs.Situation.{situation}
use Rattle.acl_decide.specs.Unknown.{Assignment, GrantsUnder}
use Rattle.acl_decide.specs.internal.RequestBody.{ArePassed, LeavesOut, open_names}
use Rattle.acl_decide.specs.internal.OutNames.{IsFor, is_out}
use Rattle.acl_decide.proofs.request_with_unknown.may_be_granted.Given as goal

-- the names are those of the list; each assignment that grants the request leaves out those that are out, and decides
-- no right before its place
abbrev pub invariant-loop-out : goal.invariant-loop-out
invariant-loop-out l =
    ((v : Assignment) → GrantsUnder v (map ace l.aces) (situation l.matcher.object l.matcher.requester) l.mask.bits
    → LeavesOut v (is_out l.out))
    × IsFor l.aces l.out
    × ArePassed l.aces (situation l.matcher.object l.matcher.requester) l.mask.bits (is_out l.out) l.places

abbrev pub decreases-loop-out : goal.decreases-loop-out
decreases-loop-out l = open_names (is_out l.out) (map ace l.aces)
