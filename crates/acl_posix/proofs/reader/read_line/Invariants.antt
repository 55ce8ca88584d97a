use Rattle.acl_posix.proofs.Common.{line_pieces, lists_of, numbered, read_pieces, ◌≡◌}
use Rattle.acl_posix.proofs.reader.Lines.{pieces_left, size_left}
use Rattle.acl_posix.proofs.reader.read_line.Given as goal
use Rattle.acl_posix.specs.internal.Reading.{RestFits}

-- reading the rest of the line after the lists so far gives what reading the whole line gives
abbrev pub invariant-loop-rest : goal.invariant-loop-rest
invariant-loop-rest l = record {
  same : read_pieces l.names (lists_of l.lists) (numbered l.number (pieces_left l.rest))
      ≡ read_pieces l.names (lists_of l.fn.lists) (numbered l.number (line_pieces l.line));
  fits : RestFits l.rest;
}

abbrev pub decreases-loop-rest : goal.decreases-loop-rest
decreases-loop-rest l = size_left l.rest
