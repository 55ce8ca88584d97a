use Rattle.std.proofs.Common.{rules}
use Rattle.aclck_c.specs.Lists.{HaveNeeded}
use Rattle.aclck_c.proofs.Endings.{writes_of_list}
use Rattle.aclck_c.proofs.nfs4.needed.aclck_needed.Goals as goal

pub returns : goal.returns
returns c =
    writes_of_list (λ p. HaveNeeded p c.args.acl.now) c.in-Some.ensures.value (search rules)
    c.needed_masks.ensures.ok c.needed_masks.ensures.err c.answer.ensures
