use Rattle.acl_normal.proofs.Common.{aces_with, all_cleared, left, take, ◌≡◌}
use Rattle.acl_normal.proofs.emit.rising.cleared.Given as goal

-- the list of the places so far
abbrev pub invariant-loop-place : goal.invariant-loop-place
invariant-loop-place l = l.list ≡ all_cleared (left (take l.place (aces_with l.aces l.masks)))
