use Rattle.acl_normal.proofs.Common.{map, take, ◌≡◌}
use Rattle.acl_normal.specs.internal.rows.LowerCounts.{count_below, headed_names}
use Rattle.acl_normal.proofs.rows.short_list.rows_of_short_list.Given as goal

-- the counts of the principals so far
abbrev pub invariant-loop-principal : goal.invariant-loop-principal
invariant-loop-principal l =
    l.rows.items ≡ map (λ p. count_below p (headed_names l.principals))
    (headed_names (take l.principal-index l.principals))
