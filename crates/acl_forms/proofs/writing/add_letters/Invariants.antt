use Rattle.std.proofs.Common.{drop, ◌++◌, ◌+◌, ◌≡◌, ◌≤◌}
use Rattle.arrayvec.specs.ArrayVec.{array_vec_len}
use Rattle.acl_forms.specs.ToolsWritten.{letters_of}
use Rattle.acl_forms.proofs.writing.add_letters.Given as goal

-- the letters of the rows from this one on are not added yet
abbrev pub invariant-loop-row : goal.invariant-loop-row
invariant-loop-row l = record {
  text : l.line.items ++ letters_of (drop l.row-index l.table) l.set ≡ l.fn.line.items ++ letters_of l.table l.set;
  len : array_vec_len l.line ≤ array_vec_len l.fn.line + l.row-index;
}
