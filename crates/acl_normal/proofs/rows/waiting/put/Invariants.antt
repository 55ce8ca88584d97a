use Rattle.acl_normal.proofs.Common.{is_users, ◌-◌, ◌≤◌}
use Rattle.acl_normal.specs.internal.rows.Waiting.{PutsBelow}
use Rattle.acl_normal.proofs.rows.waiting.put.Given as goal

abbrev pub invariant-loop-right : goal.invariant-loop-right
invariant-loop-right l = record {
  puts : PutsBelow l.place l.kind (is_users l.class) l.mask.bits l.from l.fn.sets.items l.sets.items;
  within : l.from ≤ 21;
}

abbrev pub decreases-loop-right : goal.decreases-loop-right
decreases-loop-right l = 21 - l.from
