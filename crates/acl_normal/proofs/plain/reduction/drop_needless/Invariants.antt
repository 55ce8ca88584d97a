use Rattle.acl_normal.proofs.Common.{aces_in, column, default, drop, needed_keys, ℕ, ◌++◌, ◌≡◌}
use Rattle.acl_normal.proofs.plain.reduction.drop_needless.Given as goal

-- what is kept so far, and what is needed of the rest, is what is needed of all
abbrev pub invariant-loop-place : goal.invariant-loop-place
invariant-loop-place l = (bit : ℕ) → column (aces_in l.kept.items) bit
    ++ needed_keys (default (column (aces_in l.aces) bit)) (column (aces_in (drop l.place l.aces)) bit)
    ≡ needed_keys (default (column (aces_in l.aces) bit)) (column (aces_in l.aces) bit)
