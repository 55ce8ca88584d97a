use Rattle.acl_normal.proofs.Common.{false, inverts, no_placing, slice_index_or, ℕ, ◌<◌, ◌≡◌}
use Rattle.acl_normal.proofs.comparison.inversions.first_inverted.Given as goal

abbrev pub invariant-loop-k : goal.invariant-loop-k
invariant-loop-k l = (k : ℕ) → k < l.k → inverts l.direction l.placing (slice_index_or l.others k no_placing) ≡ false
