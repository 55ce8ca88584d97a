use Rattle.acl_normal.proofs.Common.{aces_in, aces_with, all_cleared, emitted_aces, left, take, ◌≡◌}
use Rattle.acl_normal.specs.internal.emit.Short.{AreLeftOf}
use Rattle.acl_normal.proofs.short_form.emitted.Given as goal

-- what is left of the places so far, and the rows of their principals
abbrev pub invariant-loop-place : goal.invariant-loop-place
invariant-loop-place l = record {
  list : emitted_aces l.left.items ≡ all_cleared (left (take l.place (aces_with l.aces l.masks)));
  rows : AreLeftOf (aces_in l.aces) l.left.items;
}
