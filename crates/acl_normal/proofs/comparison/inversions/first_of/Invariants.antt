use Rattle.acl_normal.proofs.Common.{false, inverts_any, is_selected, no_placing, slice_index_or, true, ℕ, ◌<◌, ◌≡◌}
use Rattle.acl_normal.proofs.comparison.inversions.first_of.Given as goal

abbrev pub invariant-loop-k : goal.invariant-loop-k
invariant-loop-k l = (k : ℕ) → k < l.k → is_selected l.selection (slice_index_or l.placings k no_placing) ≡ true
    → inverts_any l.selection.direction (slice_index_or l.placings k no_placing) l.placings ≡ false
