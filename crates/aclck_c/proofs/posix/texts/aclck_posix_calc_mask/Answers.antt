use Rattle.aclck_c.proofs.Endings.{writes_of_file}
use Rattle.aclck_c.proofs.FileFailures.{good_names, refused_names}
use Rattle.aclck_c.proofs.posix.texts.aclck_posix_calc_mask.Goals as goal

pub returns : goal.returns
returns c = writes_of_file
    (λ _ h. good_names c.args.text.now.names.now h.read.table h.read.named) (refused_names _) tt c.masked.ensures.ok
    c.masked.ensures.err c.answer.ensures
