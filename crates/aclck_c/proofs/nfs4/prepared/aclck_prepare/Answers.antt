use Rattle.std.proofs.Common.{rules}
use Rattle.aclck_c.specs.Prepared.{Prepares}
use Rattle.aclck_c.proofs.Endings.{writes_of_list}
use Rattle.aclck_c.proofs.nfs4.prepared.aclck_prepare.Goals as goal

pub returns : goal.returns
returns c = writes_of_list (λ p. Prepares p c.args.acl.now) c.in-Some.ensures.value (search rules)
    c.prepared_bytes.ensures.ok c.prepared_bytes.ensures.err c.answer.ensures
