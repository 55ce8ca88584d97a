use Rattle.std.proofs.Common.{◌≡◌, ◌+◌, ◌≤◌, length}
use Rattle.acl_nfs4.specs.Limits.{most_aces}
use Rattle.acl_forms.specs.NfsWritten.{nfs_ace_fault, nfs_text_fault}
use Rattle.acl_forms.specs.internal.FaultSearch.{fault_from}
use Rattle.acl_forms.proofs.nfs_text.writer.first_fault.Given as goal

-- the ACEs that are left give what all ACEs give
abbrev pub invariant-loop-ace : goal.invariant-loop-ace
invariant-loop-ace l =
    (goal.iterator-loop-ace).can_next l.ace-iterator ×
    (goal.iterator-loop-ace).is_finite l.ace-iterator ×
    (fault_from nfs_ace_fault l.place l.ace-iterator ≡ nfs_text_fault l.fn.aces) ×
    (l.place + length l.ace-iterator ≤ most_aces)
