use Rattle.std.specs.Prelude.{◌≡◌, map, take}
use Rattle.acl_normal.specs.Tables.{of_borrowed, of_row}
use Rattle.acl_normal.proofs.right_table.owned_rows.Given as goal

-- the rows so far
abbrev pub invariant-loop-row : goal.invariant-loop-row
invariant-loop-row l = map of_row l.table.items ≡ map of_borrowed (take l.row-index l.rows)
