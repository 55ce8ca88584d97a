use Rattle.std.proofs.Common.{◌≡◌, drop}
use Rattle.acl_posix.specs.Check.{ids, is_member}
use Rattle.acl_to_posix.proofs.posix_shape.is_among.Given as goal

-- the id is one of those that are left if and only if it is one of all
abbrev pub invariant-loop-one : goal.invariant-loop-one
invariant-loop-one l = is_member l.id.value (ids (drop l.one-index l.among)) ≡ is_member l.id.value (ids l.among)
