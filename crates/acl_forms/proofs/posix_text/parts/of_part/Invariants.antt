use Rattle.std.proofs.Common.{drop, ◌++◌, ◌≡◌}
use Rattle.std.specs.Prelude.{map}
use Rattle.acl_forms.specs.PosixRules.{of_part}
use Rattle.acl_forms.specs.internal.PosixReading.{placed}
use Rattle.acl_forms.proofs.posix_text.parts.of_part.Given as goal

-- the members of the entries from this one on are not added yet
abbrev pub invariant-loop-one : goal.invariant-loop-one
invariant-loop-one l = map placed l.members.items ++ of_part l.part (map placed (drop l.one-index l.read))
    ≡ of_part l.part (map placed l.read)
