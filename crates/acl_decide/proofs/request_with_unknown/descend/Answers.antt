use Rattle.std.proofs.Common.{sym, ◌∙◌}
use Rattle.acl_eval.specs.Situation.{situation}
use Rattle.acl_decide.specs.internal.OutNames.{is_out}
use Rattle.acl_decide.proofs.NameNumbers.{number_of_ace}
use Rattle.acl_decide.proofs.Requests.{named_here, passed_one, says_here}
use Rattle.acl_decide.proofs.request_with_unknown.descend.Goals as goal

pub decides-requires-clause-number : goal.decides-requires-clause-number
decides-requires-clause-number c = let lookup = c.in-Some.ensures.lookup in
    number_of_ace c.args.aces.now c.args.out.now c.in-Some.item.now c.loop-item.place c.requires.out lookup.3.0 lookup.1

pub returns-then-decides-clause-says : goal.returns-then-decides-clause-says
returns-then-decides-clause-says c =
    let lookup = c.in-Some.ensures.lookup in
    says_here c.args.aces.now c.in-Some.item.now
    (situation c.args.matcher.now.object c.args.matcher.now.requester) c.args.right.bit (is_out c.args.out.now)
    c.loop-item.place c.verdict_of.result lookup.3.0 lookup.1 (sym c.decides.ensures ∙ c.if-decides.true)
    c.verdict_of.ensures

pub returns-then-decides-clause-named : goal.returns-then-decides-clause-named
returns-then-decides-clause-named c = let lookup = c.in-Some.ensures.lookup in
    named_here c.args.aces.now c.in-Some.item.now c.loop-item.place c.verdict_of.result lookup.3.0 lookup.1
    c.verdict_of.ensures

pub loop-item-preserved : goal.loop-item-preserved
loop-item-preserved c = let lookup = c.in-Some.ensures.lookup in
    passed_one c.args.aces.now c.in-Some.item.now
    (situation c.args.matcher.now.object c.args.matcher.now.requester) c.args.right.bit (is_out c.args.out.now)
    c.args.place.now c.loop-item.place lookup.3.0 lookup.1
    (sym c.decides.ensures ∙ c.if-decides.false) c.loop-item.invariant
