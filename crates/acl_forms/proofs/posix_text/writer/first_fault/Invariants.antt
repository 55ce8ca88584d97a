use Rattle.std.proofs.Common.{drop, ◌≡◌}
use Rattle.acl_posix.specs.Entries.{pairs}
use Rattle.acl_forms.specs.FirstFault.{first_fault}
use Rattle.acl_forms.specs.PosixWritten.{posix_entry_fault}
use Rattle.acl_forms.specs.internal.FaultSearch.{fault_from}
use Rattle.acl_forms.proofs.posix_text.writer.first_fault.Given as goal

-- the entries that are left have the fault that all have
abbrev pub invariant-loop-place : goal.invariant-loop-place
invariant-loop-place l = fault_from (posix_entry_fault l.names l.style) l.place (pairs (drop l.place l.entries))
    ≡ first_fault (posix_entry_fault l.names l.style) (pairs l.entries)
