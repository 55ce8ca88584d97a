use Rattle.acl_normal.proofs.comparison.mentioned_principals.numbers_of.Given as goal
use Rattle.acl_normal.specs.internal.comparison.MentionedRows.{AreMentionedNumbers}
use Rattle.acl_normal.specs.internal.comparison.SetSearch.{principals}

abbrev pub invariant-loop-found : goal.invariant-loop-found
invariant-loop-found l = AreMentionedNumbers l.table l.found-index (principals l.whole.items) l.by_row.items
