use Rattle.std.proofs.Common.{rules}
use Rattle.aclck_c.proofs.Renaming.{writes_renamed}
use Rattle.aclck_c.proofs.nfs4.renamed.aclck_renamed.Goals as goal

pub returns : goal.returns
returns c = writes_renamed c.in-Some.ensures.profile c.in-Some.ensures.may_merge (search rules) c.renamed.ensures.ok
    c.renamed.ensures.err c.answer.ensures
