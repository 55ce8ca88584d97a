use Rattle.acl_posix.proofs.Common.{arith, length-map, pair_of, sym, ◌∙◌}
use Rattle.acl_posix.specs.RawEntries.{raw_pair, raw_pairs}
use Rattle.acl_posix.proofs.view.Views.{all_rise, rise_here, rises_more}
use Rattle.acl_posix.proofs.view.first_stop.Goals as goal

pub loop-place-preserved : goal.loop-place-preserved
loop-place-preserved c =
    let raws = c.args.raws.now in
    let place = c.loop-place.place in
    rises_more (raw_pairs raws) place c.loop-place.invariant
    (rise_here (raw_pairs raws) _ place (pair_of c.entry_in.result) (pair_of c.entry_in-in-loop-place.result)
    (omega (arith, c.loop-place-test.true, length-map raws raw_pair))
    (omega (arith, c.loop-place-test.true, length-map raws raw_pair)) c.entry_in.ensures
    c.entry_in-in-loop-place.ensures (sym c.ge.ensures ∙ c.if-ge.false))

pub returns-clause-none : goal.returns-clause-none
returns-clause-none c = λ _. all_rise (raw_pairs c.args.raws.now) c.loop-place.place
    (omega (arith, c.loop-place-test.false, length-map c.args.raws.now raw_pair)) c.loop-place.invariant
