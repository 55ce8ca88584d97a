use Rattle.std.proofs.Common.{drop, ◌++◌, ◌≡◌}
use Rattle.std.specs.Prelude.{map}
use Rattle.acl_posix.specs.Entries.{pairs}
use Rattle.acl_forms.specs.PosixRules.{placed_pairs}
use Rattle.acl_forms.specs.internal.PosixReading.{placed}
use Rattle.acl_forms.proofs.posix_text.parts.entries_of.Given as goal

-- the entries from this one on are not added yet
abbrev pub invariant-loop-one : goal.invariant-loop-one
invariant-loop-one l = pairs l.entries.items ++ placed_pairs (map placed (drop l.one-index l.read))
    ≡ placed_pairs (map placed l.read)
