use Rattle.aclck_c.proofs.posix.entries_made.acl_for.Goals as goal

pub returns-then-adds_mask-clause-err : goal.returns-then-adds_mask-clause-err
returns-then-adds_mask-clause-err c = rw c.if-adds_mask.true c.acl_with_mask_of.ensures.err

pub returns-else-adds_mask-clause-err : goal.returns-else-adds_mask-clause-err
returns-else-adds_mask-clause-err c = rw c.if-adds_mask.false c.acl_of.ensures.err
