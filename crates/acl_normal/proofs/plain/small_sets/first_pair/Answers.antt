use Rattle.acl_normal.proofs.plain.small_sets.first_pair.Goals as goal
use Rattle.acl_normal.proofs.comparison.SetSearchLemmas.{pair_here, pair_later}

pub returns-in-Some : goal.returns-in-Some
returns-in-Some c = pair_here _ _ c.loop-i-test.true c.split_at.ensures.back c.in-Some.ensures
    c.loop-i.invariant

pub loop-i-preserved : goal.loop-i-preserved
loop-i-preserved c = pair_later _ _ c.loop-i-test.true c.split_at.ensures.back c.in_default.ensures
    c.loop-i.invariant
