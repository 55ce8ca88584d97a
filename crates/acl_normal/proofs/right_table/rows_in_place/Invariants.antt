use Rattle.acl_normal.proofs.Common.{aces_with, all_cleared, AreRows, map, of_borrowed, take, with_bit}
use Rattle.acl_normal.proofs.right_table.rows_in_place.Given as goal

-- the rows of the places so far
abbrev pub invariant-loop-place : goal.invariant-loop-place
invariant-loop-place l = AreRows l.right.bit (aces_with l.aces l.masks)
    (with_bit l.right.bit (all_cleared (take l.place (aces_with l.aces l.masks))))
    (map of_borrowed l.rows.items)
