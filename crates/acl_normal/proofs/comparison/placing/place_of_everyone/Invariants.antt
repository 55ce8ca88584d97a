use Rattle.acl_normal.proofs.Common.{aces_in, false, ℕ, ◌<◌, ◌≡◌}
use Rattle.acl_normal.proofs.comparison.placing.place_of_everyone.Given as goal
use Rattle.acl_normal.specs.internal.comparison.FirstPlaces.{stops_at}

abbrev pub invariant-loop-place : goal.invariant-loop-place
invariant-loop-place l = (k : ℕ) → k < l.place → stops_at (aces_in l.list) l.whoms l.right.bit k ≡ false
