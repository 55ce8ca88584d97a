use Rattle.std.proofs.Common.{ap, ◌∙◌}
use Rattle.std.specs.Prelude.{◌&&◌}
use Rattle.acl_perm.specs.Bits.{has_bit}
use Rattle.acl_perm.specs.Situation.{Situation}
use Rattle.acl_perm.specs.declared.mask.Mask.{Mask}
use Rattle.acl_eval.specs.Grant.{grants_bit}
use Rattle.acl_eval.specs.Situation.{situation}
use Rattle.acl_eval.specs.internal.EachRightBody.{is_undecided}
use Rattle.acl_eval.proofs.Deciders.{allows_decide, denies_decide}
use Rattle.acl_eval.proofs.each_right.decided.Goals as goal

pub returns-clause-allowed : goal.returns-clause-allowed
returns-clause-allowed c =
    allows_decide c.args.aces (situation c.args.object.now c.args.requester.now) c.args.mask.bits
    c.decided.result.allowed.bits
    (λ bit. ap (λ (m : Mask). has_bit m.bits bit) c.decided.ensures.allowed
    ∙ c.decided_to.ensures.granted bit
    ∙ ap (λ (s : Situation). has_bit c.args.mask.bits bit && grants_bit c.args.aces s bit) c.new-matcher.ensures)

pub returns-clause-denied : goal.returns-clause-denied
returns-clause-denied c =
    denies_decide c.args.aces (situation c.args.object.now c.args.requester.now) c.args.mask.bits
    c.decided_to.result.granted.bits c.decided_to.result.left.bits c.decided.result.denied.bits
    (λ bit. c.decided_to.ensures.granted bit
    ∙ ap (λ (s : Situation). has_bit c.args.mask.bits bit && grants_bit c.args.aces s bit) c.new-matcher.ensures)
    (λ bit. c.decided_to.ensures.left bit
    ∙ ap (λ (s : Situation). has_bit c.args.mask.bits bit && is_undecided s bit c.args.aces) c.new-matcher.ensures)
    c.decided.ensures.denied
