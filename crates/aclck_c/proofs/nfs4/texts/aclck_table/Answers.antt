use Rattle.std.proofs.Common.{rules}
use Rattle.acl_normal.specs.Programs.{Tabulates}
use Rattle.aclck_c.proofs.Endings.{writes_of_list}
use Rattle.aclck_c.proofs.nfs4.texts.aclck_table.Goals as goal

pub returns : goal.returns
returns c =
    writes_of_list (λ p. Tabulates p c.args.question.now.mask c.args.acl.now) c.in-Some.ensures.value (search rules)
    (rw c.in-Some-right_of.ensures.value at c.tabulated.ensures.ok) c.tabulated.ensures.err c.answer.ensures
