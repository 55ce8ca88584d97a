use Rattle.acl_normal.proofs.Common.{aces_with, HasRisen}
use Rattle.acl_normal.proofs.emit.rising.rises.Given as goal

-- the keys of the places so far rise, and have numbers below the bound
abbrev pub invariant-loop-place : goal.invariant-loop-place
invariant-loop-place l = HasRisen (aces_with l.aces l.masks) l.place l.bound
