use Rattle.std.proofs.Common.{refl}
use Rattle.acl_eval.specs.Situation.{situation}
use Rattle.acl_decide.specs.internal.OutNames.{is_out}
use Rattle.acl_decide.proofs.Requests.{leaves_more, passed_still}
use Rattle.acl_decide.proofs.request_with_unknown.may_be_granted.Goals as goal

pub returns-in-Denied : goal.returns-in-Denied
returns-in-Denied c = λ v grants. c.in-Denied.ensures.says v (c.loop-out.invariant.0 v grants) grants

pub loop-out-smaller : goal.loop-out-smaller
loop-out-smaller c =
    let named = c.in-Against.ensures.named c.in-Against.who refl in
    c.in-Against.ensures.says.0 (is_out c.add.new.self) (c.add.ensures.more c.args.aces.now c.loop-out.invariant.1 named)

pub loop-out-preserved : goal.loop-out-preserved
loop-out-preserved c =
    let named = c.in-Against.ensures.named c.in-Against.who refl in
    let more = c.add.ensures.more c.args.aces.now c.loop-out.invariant.1 named in (
      λ v grants. leaves_more v (is_out c.loop-out.out) (is_out c.add.new.self) c.in-Against.who.now more
          (c.loop-out.invariant.0 v grants)
          (c.in-Against.ensures.says.1 v (c.loop-out.invariant.0 v grants) grants),
      c.add.ensures.kept c.args.aces.now c.loop-out.invariant.1,
      passed_still c.args.aces.now (situation c.args.matcher.now.object c.args.matcher.now.requester)
          c.args.mask.bits (is_out c.loop-out.out) (is_out c.add.new.self) c.in-Against.who.now
          c.judge.new.places more c.in-Against.ensures.passed,
    )
