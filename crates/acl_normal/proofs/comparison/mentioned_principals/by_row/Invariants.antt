use Rattle.acl_normal.proofs.comparison.mentioned_principals.by_row.Given as goal
use Rattle.acl_normal.specs.internal.Shown.{aces_in}
use Rattle.acl_normal.specs.internal.comparison.MentionedRows.{AreByRow}

abbrev pub invariant-loop-place : goal.invariant-loop-place
invariant-loop-place l = AreByRow (aces_in l.aces) l.place l.table.items
