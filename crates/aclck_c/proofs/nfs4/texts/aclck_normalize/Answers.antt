use Rattle.std.proofs.Common.{rules}
use Rattle.acl_normal.specs.NormalForm.{Normalizes}
use Rattle.aclck_c.proofs.Endings.{writes_of_list}
use Rattle.aclck_c.proofs.nfs4.texts.aclck_normalize.Goals as goal

pub returns : goal.returns
returns c = writes_of_list (λ p. Normalizes p c.args.acl.now) c.in-Some.ensures.value (search rules)
    c.normal_form.ensures.ok c.normal_form.ensures.err c.answer.ensures
