use Rattle.acl_posix.proofs.Common.{pairs, ℕ, ◌<◌}
use Rattle.acl_posix.specs.Attribute.{IsFall}
use Rattle.acl_posix.proofs.attribute.first_fall.Given as goal

-- no tag type before the place comes before the one before it
abbrev pub invariant-loop-place : goal.invariant-loop-place
invariant-loop-place l = (before : ℕ) → before < l.place → IsFall (pairs l.entries) before → ⊥
