use Rattle.acl_normal.proofs.Common.{FitsKeys, marks, nothing_left}
use Rattle.acl_normal.proofs.emit.Filled.{Fills}
use Rattle.acl_normal.proofs.emit.emission.fill.Given as goal

abbrev pub invariant-loop-bit : goal.invariant-loop-bit
invariant-loop-bit l = record {
  fills : Fills l.rows (marks (nothing_left l.rows) l.fn.ready) (marks (nothing_left l.rows) l.ready) l.bit;
  keys : FitsKeys (nothing_left l.rows) l.ready;
}
