use Rattle.std.proofs.Common.{◌≡◌, take}
use Rattle.acl_posix.specs.Check.{ids}
use Rattle.aclck_c.proofs.posix.check.ids_of.Given as goal

-- the ids so far
abbrev pub invariant-loop-number : goal.invariant-loop-number
invariant-loop-number l = ids l.all.items ≡ take l.number-index l.numbers
