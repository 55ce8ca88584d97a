use Rattle.aclck_c.proofs.Endings.{writes_of_file}
use Rattle.aclck_c.proofs.FileFailures.{bridge_names, good_names}
use Rattle.aclck_c.proofs.posix.texts.aclck_posix_bridge.Goals as goal

pub returns : goal.returns
returns c = writes_of_file
    (λ _ h. good_names c.args.text.now.names.now h.read.table h.read.named) (bridge_names _) tt c.bridged.ensures.ok
    c.bridged.ensures.err c.answer.ensures
