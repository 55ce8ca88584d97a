use Rattle.acl_posix.proofs.Common.{ap, arith, is_some, IsFaultOf, length-map, pair_of, pairs, subst, sym, ◌∙◌}
use Rattle.acl_posix.proofs.sorting.ValidLists.{seen_again, seen_more}
use Rattle.acl_posix.proofs.sorting.first_repeat.Goals as goal

pub loop-place-preserved : goal.loop-place-preserved
loop-place-preserved c = seen_more c.loop-place-test.true c.index-entries-place.is c.loop-place.invariant
    (sym (ap is_some c.in_ok-insert.ensures.old) ∙ sym c.is_some.ensures ∙ c.if-is_some.false)
    (λ q. grind (arith, c.in_ok-insert.ensures.updates.0 q))

pub returns-then-is_some-clause-fault : goal.returns-then-is_some-clause-fault
returns-then-is_some-clause-fault c = subst (IsFaultOf (pairs c.args.entries.now)) (sym c.repeated.ensures)
    (seen_again c.loop-place-test.true c.index-entries-place.is c.loop-place.invariant
    (sym (ap is_some c.in_ok-insert.ensures.old) ∙ sym c.is_some.ensures ∙ c.if-is_some.true))

pub unreachable-requires : goal.unreachable-requires
unreachable-requires c = c.requires (λ place lt. c.loop-place.invariant.distinct place
    (omega (arith, lt, length-map c.args.entries.now pair_of, c.loop-place-test.false)))
