use Rattle.std.proofs.Common.{◌≡◌, ◌++◌, drop}
use Rattle.acl_posix.specs.Check.{ids}
use Rattle.acl_to_posix.specs.internal.PruningBody.{groups_left}
use Rattle.acl_to_posix.proofs.pruning.groups_in.Given as goal

-- the groups so far, and those of the entries that are left, are those of all entries
abbrev pub invariant-loop-entry : goal.invariant-loop-entry
invariant-loop-entry l = ids l.groups.items ++ groups_left (drop l.entry-index l.left) ≡ groups_left l.left
