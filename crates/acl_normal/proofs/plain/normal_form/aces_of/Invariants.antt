use Rattle.acl_normal.proofs.Common.{aces_in, ◌++◌, ◌≡◌}
use Rattle.acl_normal.proofs.plain.normal_form.aces_of.Given as goal

-- the ACEs so far and those that are left are the list
abbrev pub invariant-loop-ace : goal.invariant-loop-ace
invariant-loop-ace l =
    (goal.iterator-loop-ace).can_next l.ace-iterator ×
    (goal.iterator-loop-ace).is_finite l.ace-iterator ×
    (aces_in l.aces.items ++ l.ace-iterator ≡ l.source)
