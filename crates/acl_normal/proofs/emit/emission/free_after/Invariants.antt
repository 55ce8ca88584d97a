use Rattle.acl_normal.proofs.Common.{FitsKeys, marks, nothing_left, plain_key, ◌-◌, ◌≤◌}
use Rattle.acl_normal.proofs.emit.NewlyFree.{FreesBelow}
use Rattle.acl_normal.proofs.emit.emission.free_after.Given as goal

abbrev pub invariant-loop-right : goal.invariant-loop-right
invariant-loop-right l = record {
  frees : FreesBelow (plain_key l.at) l.mask.bits l.rows (marks (nothing_left l.rows) l.fn.ready)
      (marks (nothing_left l.rows) l.ready) l.from;
  keys : FitsKeys (nothing_left l.rows) l.ready;
  within : l.from ≤ 21;
}

abbrev pub decreases-loop-right : goal.decreases-loop-right
decreases-loop-right l = 21 - l.from
