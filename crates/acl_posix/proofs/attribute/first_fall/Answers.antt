use Rattle.acl_posix.proofs.Common.{arith, length-map, pair_of}
use Rattle.acl_posix.proofs.attribute.Falls.{fall_here, no_fall_more}
use Rattle.acl_posix.proofs.attribute.first_fall.Goals as goal

pub returns-then-rank-clause-some : goal.returns-then-rank-clause-some
returns-then-rank-clause-some c = record {
  in_range = omega (arith, c.loop-place-test.true, length-map c.args.entries.now pair_of);
  fall = fall_here c.args.entries.now c.loop-place.place _ _ _ _ (omega (arith, c.loop-place.auto.place))
      c.loop-place-test.true c.rank.ensures c.rank-in-loop-place.ensures c.if-rank.true;
  first = c.loop-place.invariant;
}

pub loop-place-preserved : goal.loop-place-preserved
loop-place-preserved c = no_fall_more c.args.entries.now c.loop-place.place _ _ _ _
    (omega (arith, c.loop-place.auto.place)) c.loop-place-test.true c.rank.ensures c.rank-in-loop-place.ensures
    c.if-rank.false c.loop-place.invariant
