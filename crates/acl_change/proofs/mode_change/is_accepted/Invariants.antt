use Rattle.std.specs.Prelude.{◌≤◌}
use Rattle.acl_nfs4.specs.Limits.{most_aces, most_weight}
use Rattle.acl_change.proofs.ChmodAccepted.{AreSizesSoFar}
use Rattle.acl_change.proofs.mode_change.is_accepted.Given as goal

-- the ACEs and the mask bits so far are within the limits, and with those of the rest they are those of the whole list
abbrev pub invariant-loop-ace : goal.invariant-loop-ace
invariant-loop-ace l =
    (goal.iterator-loop-ace).can_next l.ace-iterator ×
    (goal.iterator-loop-ace).is_finite l.ace-iterator ×
    AreSizesSoFar l.mode.bits l.count l.weight l.ace-iterator l.fn.list ×
    (l.count ≤ most_aces) ×
    (l.weight ≤ most_weight)
