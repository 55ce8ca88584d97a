use Rattle.aclck_c.proofs.Endings.{writes_of_entries}
use Rattle.aclck_c.proofs.posix.entries_made.aclck_entries_bridge.Goals as goal

pub returns : goal.returns
returns c = writes_of_entries tt c.bridged.ensures.ok c.bridged.ensures.err c.answer.ensures
