use Rattle.std.proofs.Common.{rules}
use Rattle.acl_normal.specs.Programs.{NormalizesAtPaths}
use Rattle.aclck_c.proofs.Endings.{writes_of_list}
use Rattle.aclck_c.proofs.nfs4.texts.aclck_normalize_inherit.Goals as goal

pub returns : goal.returns
returns c = writes_of_list (λ p. NormalizesAtPaths p c.args.acl.now) c.in-Some.ensures.value (search rules)
    c.five_forms.ensures.ok c.five_forms.ensures.err c.answer.ensures
