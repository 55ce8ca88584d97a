use Rattle.std.proofs.Common.{length, ◌++◌, ◌≡◌}
use Rattle.acl_posix.specs.Entries.{pairs}
use Rattle.acl_forms.specs.Attributes.{entries_bytes}
use Rattle.acl_forms.proofs.attributes.read_entries.Given as goal

-- the bytes are the version, the entries that were read, and those that are left
abbrev pub invariant-loop-rest : goal.invariant-loop-rest
invariant-loop-rest l = l.bytes ≡ entries_bytes (pairs l.entries.items) ++ l.rest

abbrev pub decreases-loop-rest : goal.decreases-loop-rest
decreases-loop-rest l = length l.rest
