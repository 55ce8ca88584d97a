use Rattle.std.specs.Prelude.{◌≡◌, map, take}
use Rattle.acl_normal.specs.Tables.{of_borrowed}
use Rattle.acl_normal.specs.Programs.{rows_text}
use Rattle.acl_normal.proofs.row_lines.text_of_rows.Given as goal

-- the lines of the rows so far
abbrev pub invariant-loop-row : goal.invariant-loop-row
invariant-loop-row l = l.text.items ≡ rows_text (map of_borrowed (take l.row-index l.rows))
