use Rattle.acl_normal.proofs.Common.{aces_in, BeginsWith, principal_here, ℕ, ◌<◌}
use Rattle.acl_normal.proofs.rows.heads.common_start.Given as goal

abbrev pub invariant-loop-ace : goal.invariant-loop-ace
invariant-loop-ace l =
    (k : ℕ) → k < l.ace-index → BeginsWith l.start (principal_here (aces_in l.aces) k)
