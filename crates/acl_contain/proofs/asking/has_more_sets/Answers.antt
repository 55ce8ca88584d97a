use Rattle.acl_normal.proofs.Common.{arith}
use Rattle.acl_contain.proofs.Enumeration.{no_pair_left, pairs_left, sets_of_code}
use Rattle.acl_contain.proofs.asking.has_more_sets.Goals as goal

pub returns-then-most-whole-clause-more : goal.returns-then-most-whole-clause-more
returns-then-most-whole-clause-more c = omega (arith, sets_of_code c.args.whole.now, c.if-most-whole.true)

pub loop-i-init : goal.loop-i-init
loop-i-init c = omega (arith, sets_of_code c.args.whole.now, c.if-most-whole.false)

pub returns-then-left-pairs-clause-more : goal.returns-then-left-pairs-clause-more
returns-then-left-pairs-clause-more c =
    let next = pairs_left c.args.whole.now _ c.loop-i.i c.loop-i-test.true c.split_at.ensures.back
    c.count_partners-pairs.ensures in
    omega (arith, next, c.loop-i.invariant, c.if-left-pairs.true)

pub loop-i-preserved : goal.loop-i-preserved
loop-i-preserved c =
    let next = pairs_left c.args.whole.now _ c.loop-i.i c.loop-i-test.true c.split_at.ensures.back
    c.count_partners-pairs.ensures in
    omega (arith, next, c.loop-i.invariant, c.if-left-pairs.false)

pub returns-clause-within : goal.returns-clause-within
returns-clause-within c =
    omega (arith, no_pair_left c.args.whole.now c.loop-i.i c.loop-i-test.false, c.loop-i.invariant)
