use Rattle.std.proofs.Common.{◌≡◌, length}
use Rattle.acl_perm.specs.Lines.{trimmed, end_trimmed}
use Rattle.acl_perm.proofs.lines.trimmed.Given as goal

abbrev pub invariant-loop-rest : goal.invariant-loop-rest
invariant-loop-rest l = end_trimmed l.rest ≡ trimmed l.bytes

abbrev pub decreases-loop-rest : goal.decreases-loop-rest
decreases-loop-rest l = length l.rest
