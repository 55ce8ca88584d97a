use Rattle.acl_normal.proofs.Common.{remaining_of, ◌≤◌}
use Rattle.acl_normal.proofs.rows.FirstPlaces.{ArePassed}
use Rattle.acl_normal.proofs.rows.remaining.Remaining.place_in.Given as goal

-- none of the places so far has the right
abbrev pub invariant-loop-at : goal.invariant-loop-at
invariant-loop-at l = record {
  in_row : l.row ≤ l.at;
  passed : ArePassed l.right.bit (remaining_of l.self-inside) l.self-inside.order.items l.row l.at;
}
