use Rattle.acl_normal.proofs.Common.{[], aces_in, column, take, unshadowed, ℕ, ◌≡◌}
use Rattle.acl_normal.proofs.plain.reduction.drop_shadowed.Given as goal

-- of the ACEs so far, what isn't shadowed is kept
abbrev pub invariant-loop-place : goal.invariant-loop-place
invariant-loop-place l = (bit : ℕ) → column (aces_in l.kept.items) bit
    ≡ unshadowed [] (column (aces_in (take l.place l.aces)) bit)
