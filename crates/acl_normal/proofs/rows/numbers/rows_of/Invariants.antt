use Rattle.acl_normal.proofs.Common.{aces_in, map, named_at}
use Rattle.acl_normal.proofs.rows.RowNumbers.{AreNumberedTo}
use Rattle.acl_normal.proofs.rows.numbers.rows_of.Given as goal

abbrev pub invariant-loop-i : goal.invariant-loop-i
invariant-loop-i l = AreNumberedTo (aces_in l.aces) (map (named_at (aces_in l.aces)) l.sorted) l.rows.items l.start l.i
