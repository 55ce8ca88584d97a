use Rattle.acl_posix.proofs.Common.{map, packed, pairs, take, ◌≡◌}
use Rattle.acl_posix.proofs.packed.sorted_keys.Given as goal

-- the numbers of the entries before the place are there
abbrev pub invariant-loop-entry : goal.invariant-loop-entry
invariant-loop-entry l = l.keys.items ≡ map packed (pairs (take l.entry-index l.entries))
