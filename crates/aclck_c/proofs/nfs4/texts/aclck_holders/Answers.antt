use Rattle.std.proofs.Common.{rules}
use Rattle.aclck_c.proofs.Endings.{writes_of_list}
use Rattle.aclck_c.proofs.nfs4.texts.aclck_holders.Goals as goal
use Rattle.aclck_c.specs.Holders.{NamesHolders}

pub returns : goal.returns
returns c =
    writes_of_list (λ p. NamesHolders p c.args.question.now.mask c.args.acl.now) c.in-Some.ensures.value (search rules)
    (rw c.in-Some-right_of.ensures.value at c.holders_in.ensures.ok) c.holders_in.ensures.err c.answer.ensures
