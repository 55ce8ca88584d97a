use Rattle.std.proofs.Common.{subst, ◌∙◌}
use Rattle.std.specs.Prelude.{map}
use Rattle.acl_perm.specs.Bits.{IsMask}
use Rattle.acl_nfs4.specs.Ace.{ace}
use Rattle.acl_eval.specs.Situation.{situation}
use Rattle.acl_decide.proofs.Requests.{may_of_part, never_granted, not_always}
use Rattle.acl_decide.proofs.request_with_unknown.request_answer.Goals as goal

pub returns-then-branch : goal.returns-then-branch
returns-then-branch c =
    let s = situation c.args.object.now c.args.requester.now in
    let decided = c.in_ok-decided.decided in record {
      exact = (
        may_of_part (map ace c.aces-aces.result.now) c.args.part.now.kept _ s c.args.mask.bits
            c.in_ok-may_be_granted.field-0 c.aces-aces.ensures.same c.new-matcher.ensures c.if-branch.true
            c.in_ok-may_be_granted.ensures,
        not_always c.args.part.now.kept s c.args.mask.bits c.difference.result.bits decided.allowed.bits
            decided.denied.bits decided.undecided.bits decided.unknown.bits c.difference.ensures.meaning
            (subst IsMask c.bits.ensures.value c.bits.ensures.within)
            (λ e. c.if-bits-eq0.false (c.bits.ensures.value ∙ e)) c.in_ok-decided.ensures.whole
            c.in_ok-decided.ensures.denied c.in_ok-decided.ensures.undecided c.in_ok-decided.ensures.unknown,
      );
    }

pub returns-then-bits-ne0 : goal.returns-then-bits-ne0
returns-then-bits-ne0 c =
    let s = situation c.args.object.now c.args.requester.now in
    let decided = c.in_ok-decided.decided in record {
      exact = never_granted c.args.part.now.kept s c.args.mask.bits decided.denied.bits decided.undecided.bits
          c.union.result.bits c.union.ensures.meaning c.union.result.within
          (λ e. c.if-bits-ne0.true (c.bits-2.ensures.value ∙ e)) c.in_ok-decided.ensures.denied
          c.in_ok-decided.ensures.undecided;
    }
