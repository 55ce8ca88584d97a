use Rattle.acl_nfs4.proofs.Common.{bar, bit_names_of, drop, join_with_byte, joined_names, names_of, row_room, ◌*◌, ◌++◌, ◌+◌, ◌≡◌, ◌≤◌}
use Rattle.arrayvec.specs.ArrayVec.{array_vec_len}
use Rattle.acl_nfs4.proofs.text.writer.add_names.Given as goal

-- the names of the rows from this one on are not added yet
abbrev pub invariant-loop-row : goal.invariant-loop-row
invariant-loop-row l = record {
  text : l.line.items ++ joined_names l.is_first (names_of (bit_names_of (drop l.row-index l.table)) l.set)
      ≡ l.fn.line.items ++ join_with_byte bar (names_of (bit_names_of l.table) l.set);
  len : array_vec_len l.line ≤ array_vec_len l.fn.line + row_room * l.row-index;
}
