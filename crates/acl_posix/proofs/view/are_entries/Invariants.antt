use Rattle.acl_posix.proofs.Common.{None, ℕ, ◌<◌, ◌≡◌}
use Rattle.acl_posix.specs.RawEntries.{entry_fault_at}
use Rattle.acl_posix.proofs.view.are_entries.Given as goal

-- nothing is wrong with the numbers so far
abbrev pub invariant-loop-place : goal.invariant-loop-place
invariant-loop-place l = (before : ℕ) → before < l.place → entry_fault_at l.raws before ≡ None
