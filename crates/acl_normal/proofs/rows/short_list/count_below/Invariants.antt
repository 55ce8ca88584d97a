use Rattle.acl_normal.proofs.Common.{principal, take, ◌≡◌, ◌≤◌}
use Rattle.acl_normal.specs.internal.rows.LowerCounts.{count_below, headed_names}
use Rattle.acl_normal.proofs.rows.short_list.count_below.Given as goal

-- how many of the principals so far are below
abbrev pub invariant-loop-other : goal.invariant-loop-other
invariant-loop-other l = record {
  counted : l.count ≡ count_below (principal l.than.principal) (headed_names (take l.other-index l.principals));
  few : l.count ≤ l.other-index;
}
