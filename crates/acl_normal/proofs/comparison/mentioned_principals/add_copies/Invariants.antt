use Rattle.std.specs.Prelude.{◌≡◌, take}
use Rattle.acl_normal.proofs.comparison.mentioned_principals.add_copies.Given as goal
use Rattle.acl_normal.specs.internal.comparison.SamePlaces.{with_copies}

abbrev pub invariant-loop-place : goal.invariant-loop-place
invariant-loop-place l = l.whoms.items ≡ with_copies l.fn.whoms.items (take l.place-index l.places)
