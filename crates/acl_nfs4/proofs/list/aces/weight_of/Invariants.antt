use Rattle.acl_nfs4.proofs.Common.{weight, ◌+◌, ◌≡◌}
use Rattle.acl_nfs4.proofs.list.aces.weight_of.Given as goal

-- the weight so far and that of the ACEs that are left are together the weight of the list
abbrev pub invariant-loop-ace : goal.invariant-loop-ace
invariant-loop-ace l =
    (goal.iterator-loop-ace).can_next l.ace-iterator ×
    (goal.iterator-loop-ace).is_finite l.ace-iterator ×
    (l.weight + weight l.ace-iterator ≡ weight l.fn.aces)
