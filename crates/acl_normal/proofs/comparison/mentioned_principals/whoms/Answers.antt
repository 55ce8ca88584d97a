use Rattle.acl_normal.proofs.Common.{refl}
use Rattle.acl_normal.proofs.comparison.MentionedWhoms.{whoms_more}
use Rattle.acl_normal.proofs.comparison.mentioned_principals.whoms.Goals as goal

pub loop-place-preserved : goal.loop-place-preserved
loop-place-preserved c = whoms_more _ _ _ _ _ _ _ _ _ _ _ _ _ _ c.loop-place-test.true c.index-aces-place.is
    c.requires refl c.index-number.ensures c.whom.ensures c.in_ok-push.ensures.items c.loop-place.invariant
