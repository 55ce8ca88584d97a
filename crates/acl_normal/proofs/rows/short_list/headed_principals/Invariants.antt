use Rattle.acl_normal.proofs.Common.{aces_in, map, principal_of, take, ◌≡◌}
use Rattle.acl_normal.specs.internal.rows.LowerCounts.{headed_names}
use Rattle.acl_normal.proofs.rows.short_list.headed_principals.Given as goal

-- whom the ACEs so far name
abbrev pub invariant-loop-ace : goal.invariant-loop-ace
invariant-loop-ace l = headed_names l.principals.items ≡ map principal_of (aces_in (take l.ace-index l.aces))
