use Rattle.std.proofs.Common.{rules}
use Rattle.aclck_c.proofs.Endings.{writes_of_entries}
use Rattle.aclck_c.proofs.posix.entries_made.aclck_entries_create.Goals as goal

pub returns : goal.returns
returns c =
    let is = c.in-Some.ensures in
    writes_of_entries (search rules) (rw (is.mode, is.umask) at c.created.ensures.ok) c.created.ensures.err
    c.answer.ensures
