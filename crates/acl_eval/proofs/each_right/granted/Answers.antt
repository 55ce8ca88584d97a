use Rattle.std.proofs.Common.{ap, ◌∙◌}
use Rattle.std.specs.Prelude.{◌&&◌}
use Rattle.acl_perm.specs.Bits.{has_bit}
use Rattle.acl_eval.specs.Grant.{grants_bit}
use Rattle.acl_eval.specs.Situation.{situation}
use Rattle.acl_eval.proofs.GrantedRights.{within_granted}
use Rattle.acl_eval.proofs.each_right.granted.Goals as goal

pub returns-clause-requests : goal.returns-clause-requests
returns-clause-requests c =
    within_granted c.args.aces (situation c.args.object.now c.args.requester.now) c.args.mask.bits
    c.decided_to.result.granted.bits
    (λ bit. c.decided_to.ensures.granted bit
    ∙ ap (λ s. has_bit c.args.mask.bits bit && grants_bit c.args.aces s bit) c.new-matcher.ensures)
