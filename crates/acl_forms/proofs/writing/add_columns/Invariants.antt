use Rattle.std.proofs.Common.{drop, ◌++◌, ◌+◌, ◌≡◌}
use Rattle.std.specs.Prelude.{map}
use Rattle.arrayvec.specs.ArrayVec.{array_vec_len}
use Rattle.acl_forms.specs.NfsWritten.{letter_or_hyphen}
use Rattle.acl_forms.proofs.writing.add_columns.Given as goal

-- the letters of the rows from this one on are not added yet
abbrev pub invariant-loop-row : goal.invariant-loop-row
invariant-loop-row l = record {
  text : l.line.items ++ map (letter_or_hyphen l.set) (drop l.row-index l.table)
      ≡ l.fn.line.items ++ map (letter_or_hyphen l.set) l.table;
  len : array_vec_len l.line ≡ array_vec_len l.fn.line + l.row-index;
}
