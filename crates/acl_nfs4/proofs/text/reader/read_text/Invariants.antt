use Rattle.acl_nfs4.proofs.Common.{[], ace_lines, ace_lines_from, lines_left, NumberFits, profile_of, read_lines, text_left, ◌≡◌}
use Rattle.acl_nfs4.proofs.text.reader.read_text.Given as goal

-- what is left gives what the whole text gives
abbrev pub invariant-loop-rest : goal.invariant-loop-rest
invariant-loop-rest l = record {
  reads : read_lines (profile_of l.profile) l.acl (ace_lines_from l.number (lines_left l.rest))
      ≡ read_lines (profile_of l.profile) [] (ace_lines l.text);
  fits : NumberFits l.number l.text l.rest;
}

abbrev pub decreases-loop-rest : goal.decreases-loop-rest
decreases-loop-rest l = text_left l.rest
