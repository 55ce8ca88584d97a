use Rattle.aclck_c.proofs.Endings.{writes_of_entries}
use Rattle.aclck_c.proofs.posix.entries_made.aclck_entries_to_attribute.Goals as goal

pub returns : goal.returns
returns c = writes_of_entries tt c.attribute_of.ensures.ok c.attribute_of.ensures.err c.answer.ensures
