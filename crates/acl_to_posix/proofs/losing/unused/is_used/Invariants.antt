use Rattle.std.proofs.Common.{◌≡◌, drop}
use Rattle.acl_posix.specs.Check.{ids, is_member}
use Rattle.acl_to_posix.proofs.losing.unused.is_used.Given as goal

-- the number is that of one of the ids that are left if and only if it is that of one of all
abbrev pub invariant-loop-id : goal.invariant-loop-id
invariant-loop-id l = is_member l.value (ids (drop l.id-index l.used)) ≡ is_member l.value (ids l.used)
