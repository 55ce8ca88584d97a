use Rattle.std.proofs.Common.{◌≡◌, ◌-◌, ◌≤◌}
use Rattle.acl_normal.proofs.Common.{low_bits, principal, take_out}
use Rattle.acl_normal.proofs.merged.MergedRows.emit_row.Given as goal

abbrev pub invariant-loop-right : goal.invariant-loop-right
invariant-loop-right l = record {
  left : l.self ≡ take_out (principal l.p) (low_bits l.mask.bits l.from) l.fn.self;
  within : l.from ≤ 21;
}

abbrev pub decreases-loop-right : goal.decreases-loop-right
decreases-loop-right l = 21 - l.from
