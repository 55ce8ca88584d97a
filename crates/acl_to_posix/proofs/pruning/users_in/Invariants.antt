use Rattle.std.proofs.Common.{◌≡◌, ◌++◌, drop}
use Rattle.acl_posix.specs.Check.{ids}
use Rattle.acl_to_posix.specs.internal.PruningBody.{users_left}
use Rattle.acl_to_posix.proofs.pruning.users_in.Given as goal

-- the users so far, and those of the entries that are left, are those of all entries
abbrev pub invariant-loop-entry : goal.invariant-loop-entry
invariant-loop-entry l = ids l.users.items ++ users_left (drop l.entry-index l.left) ≡ users_left l.left
