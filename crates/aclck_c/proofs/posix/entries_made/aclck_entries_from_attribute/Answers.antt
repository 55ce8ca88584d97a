use Rattle.aclck_c.proofs.Endings.{writes_of_entries}
use Rattle.aclck_c.proofs.posix.entries_made.aclck_entries_from_attribute.Goals as goal

pub returns : goal.returns
returns c = writes_of_entries tt c.entries_in.ensures.ok c.entries_in.ensures.err c.answer.ensures
