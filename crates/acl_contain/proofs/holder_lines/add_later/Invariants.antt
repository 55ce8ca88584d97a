use Rattle.std.specs.Prelude.{◌++◌, ◌≡◌, drop, map}
use Rattle.acl_contain.specs.Holders.{later_words}
use Rattle.acl_normal.specs.Tables.{of_borrowed}
use Rattle.acl_contain.proofs.holder_lines.add_later.Given as goal

-- the text and the lines of the rows that are left make the whole text
abbrev pub invariant-loop-row : goal.invariant-loop-row
invariant-loop-row l = l.text.items ++ later_words l.before (map of_borrowed (drop l.row-index l.rows))
    ≡ l.fn.text.items ++ later_words l.fn.first (map of_borrowed l.rows)
