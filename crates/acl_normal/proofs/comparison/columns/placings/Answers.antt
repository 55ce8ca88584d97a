use Rattle.acl_normal.proofs.Common.{aces_in, ArePlacings, principals, subst, take_all}
use Rattle.acl_normal.proofs.comparison.columns.placings.Goals as goal
use Rattle.acl_normal.proofs.comparison.RowFacts.{rows_more}

pub loop-i-preserved : goal.loop-i-preserved
loop-i-preserved c =
    rows_more c.args.named.now _ _ c.loop-i-test.true c.index.ensures c.index-in-loop-i.ensures
    c.of.ensures c.in_ok-here.ensures c.in_ok-there.ensures c.in_ok-push.ensures.items c.loop-i.invariant

pub returns : goal.returns
returns c = subst
    (λ v. ArePlacings (principals v) (aces_in c.args.first.now.aces.items)
    (aces_in c.args.second.now.aces.items) c.args.right.bit c.loop-i.placings.items)
    (take_all c.loop-i.i c.args.named.now c.loop-i-test.false)
    c.loop-i.invariant
