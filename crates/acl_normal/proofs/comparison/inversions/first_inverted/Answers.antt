use Rattle.acl_normal.proofs.comparison.FirstInverting.{passed_below}
use Rattle.acl_normal.proofs.comparison.inversions.first_inverted.Goals as goal
use Rattle.acl_normal.specs.internal.comparison.FirstPlaces.{inverts}

pub loop-k-preserved : goal.loop-k-preserved
loop-k-preserved c =
    passed_below (inverts c.args.direction c.args.placing) c.args.others.now _ c.args.limit c.loop-k.k _ _
    c.split_at.ensures.front c.requires c.loop-k-test.true c.is_inverted.ensures c.if-is_inverted.false
    c.loop-k.invariant
