use Rattle.aclck_c.proofs.posix.check.decide.Goals as goal

pub returns-clause-ok : goal.returns-clause-ok
returns-clause-ok c = record {
  file = c.in_ok-file.file;
  read = c.in_ok-file.ensures.ok;
  answer = c.check.ensures;
}
