use Rattle.acl_normal.proofs.comparison.same_places.same_places.Given as goal
use Rattle.acl_normal.specs.internal.comparison.SamePlaces.{ArePlacesOf}

abbrev pub invariant-loop-item : goal.invariant-loop-item
invariant-loop-item l = ArePlacesOf l.list l.other l.item-index l.places.items
