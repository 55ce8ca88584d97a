use Rattle.acl_normal.proofs.Common.{replicate, ◌≡◌}
use Rattle.acl_normal.specs.internal.rows.Waiting.{NoPlaces}
use Rattle.acl_normal.proofs.rows.waiting.empty_sets.Given as goal

abbrev pub invariant-loop-slot : goal.invariant-loop-slot
invariant-loop-slot l = l.sets.items ≡ replicate l._slot NoPlaces
