use Rattle.acl_eval.proofs.Classes.{SettleAll}
use Rattle.acl_eval.proofs.mode.mode_of.Given as goal

-- for each class, the state so far and the rest of the list settle what the whole list settles
abbrev pub invariant-loop-ace : goal.invariant-loop-ace
invariant-loop-ace l =
    (goal.iterator-loop-ace).can_next l.ace-iterator ×
    (goal.iterator-loop-ace).is_finite l.ace-iterator ×
    SettleAll l.owner l.group l.others l.ace-iterator l.fn.aces
