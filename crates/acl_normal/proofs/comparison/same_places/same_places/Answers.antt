use Rattle.acl_normal.proofs.comparison.SamePlacesLemmas.{places_more, places_start}
use Rattle.acl_normal.proofs.comparison.same_places.same_places.Goals as goal

pub loop-item-init : goal.loop-item-init
loop-item-init c = places_start _ _ _ c.in_ok-places.ensures.items

pub loop-item-preserved : goal.loop-item-preserved
loop-item-preserved c = places_more _ _ _ _ _ _ _ c.loop-item-test.true c.item-item.is c.in-Some.ensures
    c.in_ok-push-in-Some.ensures.items c.loop-item.invariant
