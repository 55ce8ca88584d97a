use Rattle.std.proofs.Common.{rules}
use Rattle.acl_nfs4.specs.AceText.{ace_text}
use Rattle.acl_nfs4.specs.Programs.{MakesText}
use Rattle.aclck_c.proofs.Endings.{writes_of_list}
use Rattle.aclck_c.proofs.nfs4.texts.aclck_show.Goals as goal

pub returns : goal.returns
returns c = writes_of_list (λ p. MakesText p ace_text c.args.acl.now) c.in-Some.ensures.value (search rules)
    c.shown.ensures.ok c.shown.ensures.err c.answer.ensures
