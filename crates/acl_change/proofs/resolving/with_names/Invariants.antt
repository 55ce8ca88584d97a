use Rattle.std.specs.Prelude.{◌≡◌, ◌++◌}
use Rattle.acl_change.specs.Resolved.{resolved_list}
use Rattle.acl_eval.specs.Situation.{owner_of, owning_group_of}
use Rattle.acl_change.proofs.resolving.with_names.Given as goal

-- the list so far and the new ACEs of the rest are the whole list
abbrev pub invariant-loop-ace : goal.invariant-loop-ace
invariant-loop-ace l =
    (goal.iterator-loop-ace).can_next l.ace-iterator ×
    (goal.iterator-loop-ace).is_finite l.ace-iterator ×
    (l.list ++ resolved_list (owner_of l.object) (owning_group_of l.object) l.ace-iterator
    ≡ resolved_list (owner_of l.object) (owning_group_of l.object) l.fn.aces)
