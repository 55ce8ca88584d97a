use Rattle.std.specs.Prelude.{◌≡◌, ◌++◌}
use Rattle.acl_prepared.specs.Prepared.{prepared_aces, prepared_start}
use Rattle.acl_prepared.proofs.prepared_names.prepare.Given as goal

-- the bytes so far and those of the rest are those of the whole list
abbrev pub invariant-loop-ace : goal.invariant-loop-ace
invariant-loop-ace l =
    (goal.iterator-loop-ace).can_next l.ace-iterator ×
    (goal.iterator-loop-ace).is_finite l.ace-iterator ×
    (l.bytes.items ++ prepared_aces l.ace-iterator ≡ prepared_start ++ prepared_aces l.fn.list)
