use Rattle.acl_posix.proofs.Common.{lines_left, lists_of, no_lists, NumberFits, pieces_from, pieces_of, read_pieces, text_left, ◌≡◌}
use Rattle.acl_posix.proofs.reader.read_text.Given as goal

-- reading the rest of the text after the lists so far gives what reading the whole text gives
abbrev pub invariant-loop-rest : goal.invariant-loop-rest
invariant-loop-rest l = record {
  same : read_pieces l.names (lists_of l.lists) (pieces_from l.number (lines_left l.rest))
      ≡ read_pieces l.names no_lists (pieces_of l.text);
  fits : NumberFits l.number l.text l.rest;
}

abbrev pub decreases-loop-rest : goal.decreases-loop-rest
decreases-loop-rest l = text_left l.rest
