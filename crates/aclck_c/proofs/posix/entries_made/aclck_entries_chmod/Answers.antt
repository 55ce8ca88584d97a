use Rattle.std.proofs.Common.{rules}
use Rattle.aclck_c.proofs.Endings.{writes_of_entries}
use Rattle.aclck_c.proofs.posix.entries_made.aclck_entries_chmod.Goals as goal

pub returns : goal.returns
returns c = writes_of_entries (search rules) (rw c.in-Some.ensures.value at c.with_mode.ensures.ok)
    c.with_mode.ensures.err c.answer.ensures
