use Rattle.acl_posix.proofs.Common.{map, take, ◌≡◌}
use Rattle.acl_posix.specs.Attribute.{stored_raw}
use Rattle.acl_posix.proofs.attribute.stored_raws.Given as goal

-- the numbers so far are those of the pieces so far
abbrev pub invariant-loop-one : goal.invariant-loop-one
invariant-loop-one l = l.raws.items ≡ map stored_raw (take l.one-index l.stored)
