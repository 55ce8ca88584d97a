-- The table of the reasons as code holds it (this library's own). No public clause cites it.
use Rattle.std.specs.Prelude.{ℕ, List, map}
use Rattle.aclck_c.specs.declared.reason.ReasonRow.{ReasonRow}
use Rattle.aclck_c.specs.internal.Numbers.{number_of_reason}

-- the numbers and the names of the rows
abbrev pub reasons_of : List ReasonRow → List (ℕ × List ℕ)
reasons_of rows = map (λ row. (number_of_reason row.reason, row.name.now)) rows
