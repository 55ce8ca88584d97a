use Rattle.std.proofs.Common.{◌≡◌, Some, ap, arith, rules, subst, sym, true, ◌∙◌}
use Rattle.std.specs.Prelude.{map}
use Rattle.std.specs.List.{AllByRecursion}
use Rattle.std.proofs.lemmas.List.{length-set}
use Rattle.acl_perm.specs.Bits.{has_bit}
use Rattle.acl_perm.specs.declared.kind.Kind.TheVariants.{Allow}
use Rattle.acl_nfs4.specs.Ace.{ace}
use Rattle.acl_eval.specs.Situation.{situation}
use Rattle.acl_decide.specs.Unknown.{answer_under}
use Rattle.acl_decide.specs.internal.RequestBody.{all_but}
use Rattle.acl_decide.specs.internal.OutNames.{is_out}
use Rattle.acl_decide.proofs.Requests.{allowed_here, passed_at, passed_here, says_request}
use Rattle.acl_decide.proofs.RightsOf.{rights_are, rights_have}
use Rattle.acl_decide.proofs.request_with_unknown.judge.Goals as goal

pub loop-right-init : goal.loop-right-init
loop-right-init c =
    let request = c.args.mask.bits in
    let s = situation c.args.matcher.now.object c.args.matcher.now.requester in
    let is = c.into_iter-right-iterator.ensures.into_iter_gives ∙ c.rights-right-items.ensures in (
      tt,
      tt,
      search rules,
      c.requires.passed,
      subst (AllByRecursion (λ bit. has_bit request bit ≡ true)) (sym is) (rights_are request),
      λ each bit has. rights_have request
          (λ bit. answer_under (all_but (is_out c.args.out.now)) (map ace c.args.aces.now) s bit ≡ Some Allow)
          c.args.mask.within (subst (AllByRecursion (λ bit. answer_under (all_but (is_out c.args.out.now))
          (map ace c.args.aces.now) s bit ≡ Some Allow)) is each) bit has,
    )

pub returns-in_default : goal.returns-in_default
returns-in_default c =
    let s = situation c.args.matcher.now.object c.args.matcher.now.requester in
    let request = c.args.mask.bits in
    let bit = c.from-bit.result.bit in
    let place = c.descend-verdict.new.place in
    let out = is_out c.args.out.now in
    let (next, finite, long, before, rights, granted) = c.loop-right.invariant in
    let has = subst (AllByRecursion (λ b. has_bit request b ≡ true)) c.in-Some.ensures.steps rights in
    let asked : has_bit request bit ≡ true = ap (has_bit request) c.from-bit.ensures ∙ has.0 in
    let moved = c.descend-verdict.ensures.passed in record {
      passed = passed_at c.args.aces.now s request bit place out c.loop-right.places
          (omega (arith, long, c.from-bit.result.within)) moved before;
      says = says_request c.args.aces.now s request bit out place c.descend-verdict.result asked
          (passed_here c.args.aces.now s request bit place out c.loop-right.places asked moved before)
          c.in_default.not-Granted c.descend-verdict.ensures.says;
      named = c.descend-verdict.ensures.named;
    }

pub loop-right-preserved : goal.loop-right-preserved
loop-right-preserved c =
    let aces = c.args.aces.now in
    let s = situation c.args.matcher.now.object c.args.matcher.now.requester in
    let request = c.args.mask.bits in
    let bit = c.from-bit.result.bit in
    let place = c.descend-verdict.new.place in
    let out = is_out c.args.out.now in
    let (next, finite, long, before, rights, granted) = c.loop-right.invariant in
    let has = subst (AllByRecursion (λ b. has_bit request b ≡ true)) c.in-Some.ensures.steps rights in
    let asked : has_bit request bit ≡ true = ap (has_bit request) c.from-bit.ensures ∙ has.0 in
    let moved = c.descend-verdict.ensures.passed in
    let here = allowed_here aces s bit out place
    (passed_here aces s request bit place out c.loop-right.places asked moved before) c.in-Granted.ensures.says in (
      tt,
      tt,
      length-set c.loop-right.places bit place ∙ long,
      passed_at aces s request bit place out c.loop-right.places (omega (arith, long, c.from-bit.result.within)) moved
          before,
      has.1,
      λ each. granted (subst (AllByRecursion (λ b. answer_under (all_but out) (map ace aces) s b ≡ Some Allow))
          (sym c.in-Some.ensures.steps)
          (ap (λ b. answer_under (all_but out) (map ace aces) s b) (sym c.from-bit.ensures) ∙ here, each)),
    )

pub returns-clause-says : goal.returns-clause-says
returns-clause-says c =
    let s = situation c.args.matcher.now.object c.args.matcher.now.requester in
    let (next, finite, long, before, rights, granted) = c.loop-right.invariant in
    granted (subst (AllByRecursion (λ b. answer_under (all_but (is_out c.args.out.now)) (map ace c.args.aces.now) s b
    ≡ Some Allow)) (sym c.in-None.ensures.steps.0) tt)
