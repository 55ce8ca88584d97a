use Rattle.acl_change.proofs.ListChmod.{IsOnTheWay}
use Rattle.acl_change.proofs.mode_change.with_mode.Given as goal

-- the list so far and what it is to have for the ACEs that are left are the whole list
abbrev pub invariant-loop-ace : goal.invariant-loop-ace
invariant-loop-ace l =
    (goal.iterator-loop-ace).can_next l.ace-iterator ×
    (goal.iterator-loop-ace).is_finite l.ace-iterator ×
    IsOnTheWay l.mode.bits l.changed l.ace-iterator l.fn.list
