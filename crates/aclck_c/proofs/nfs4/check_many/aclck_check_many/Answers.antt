use Rattle.aclck_c.proofs.nfs4.check_many.aclck_check_many.Goals as goal

pub returns-in-Ok-clause-answer : goal.returns-in-Ok-clause-answer
returns-in-Ok-clause-answer c =
    let asked = c.in-Some.ensures in
    record {
      done = λ _. record {
        list = c.in-Ok.view;
        spelled = rw asked.profile at c.in-Ok.ensures.found;
        rights = rw (asked.owner, asked.group, asked.mask) at c.grant_each.ensures.rights;
        count = c.grant_each.ensures.count;
      };
      failed = λ not. absurd (not c.number-in-Ok.ensures);
    }
