use Rattle.acl_posix.proofs.Common.{map, pairs, take, unpacked, ◌≡◌}
use Rattle.acl_posix.proofs.packed.put_keys.Given as goal

-- the entries of the numbers before the place are written
abbrev pub invariant-loop-key : goal.invariant-loop-key
invariant-loop-key l = pairs l.entries.items ≡ map unpacked (take l.key-index l.keys)
