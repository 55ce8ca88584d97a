use Rattle.std.proofs.Common.{rules}
use Rattle.aclck_c.proofs.Endings.{writes_of_file}
use Rattle.aclck_c.proofs.FileFailures.{good_names, refused_names}
use Rattle.aclck_c.proofs.posix.texts.aclck_posix_create.Goals as goal

pub returns : goal.returns
returns c =
    let is = c.in-Some.ensures in
    writes_of_file (λ _ h. good_names c.args.text.now.names.now h.read.table h.read.named) (refused_names _)
    (search rules)
    (rw (is.mode, is.umask, is.directory) at c.created.ensures.ok) c.created.ensures.err c.answer.ensures
