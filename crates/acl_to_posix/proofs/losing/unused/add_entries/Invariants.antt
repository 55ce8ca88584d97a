use Rattle.std.proofs.Common.{◌≡◌, ◌++◌, drop}
use Rattle.acl_posix.specs.Check.{ids}
use Rattle.acl_posix.specs.Entries.{pairs}
use Rattle.acl_to_posix.specs.internal.LossBody.{entry_numbers}
use Rattle.acl_to_posix.proofs.losing.unused.add_entries.Given as goal

-- the ids so far and those of the entries that are left are all
abbrev pub invariant-loop-entry : goal.invariant-loop-entry
invariant-loop-entry l =
    ids l.used.items ++ entry_numbers (pairs (drop l.entry-index l.entries))
    ≡ ids l.fn.used.items ++ entry_numbers (pairs l.entries)
