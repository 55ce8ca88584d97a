use Rattle.std.proofs.Common.{length, ◌+◌, ◌≡◌, ◌≤◌}
use Rattle.acl_nfs4.specs.Limits.{most_aces}
use Rattle.acl_forms.specs.internal.FaultSearch.{tools_fault_from}
use Rattle.acl_forms.specs.ToolsWritten.{longest_tools_text}
use Rattle.acl_forms.proofs.tools.writer.first_fault.Given as goal

-- the ACEs that are left have the fault of the list
abbrev pub invariant-loop-ace : goal.invariant-loop-ace
invariant-loop-ace l =
    (goal.iterator-loop-ace).can_next l.ace-iterator ×
    (goal.iterator-loop-ace).is_finite l.ace-iterator ×
    (tools_fault_from l.object l.place l.done l.ace-iterator ≡ tools_fault_from l.object 0 0 l.fn.aces) ×
    (l.place + length l.ace-iterator ≤ most_aces) ×
    (l.done ≤ longest_tools_text)
