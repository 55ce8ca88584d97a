use Rattle.std.proofs.Common.{◌-◌, ◌≤◌}
use Rattle.acl_to_posix.specs.internal.ListNamesBody.{AreBelow, names_id}
use Rattle.acl_to_posix.proofs.list_names.count_of.Given as goal

-- so many of the ids are below the next number, and they are at most the bound
abbrev pub invariant-loop-id : goal.invariant-loop-id
invariant-loop-id l = AreBelow (names_id l.kind l.names l.list) l.from l.count × (l.count ≤ l.most)

abbrev pub decreases-loop-id : goal.decreases-loop-id
decreases-loop-id l = l.most - l.count
