use Rattle.aclck_c.proofs.words.aclck_read_mask.Goals as goal

pub returns-in-None-clause-arguments : goal.returns-in-None-clause-arguments
returns-in-None-clause-arguments c = record {
  bad = λ _ names. c.in-None.ensures.only names.0 names.1;
  good = λ not. absurd (not c.number-in-None.ensures);
}
