use Rattle.std.specs.Prelude.{◌≡◌, ◌++◌}
use Rattle.acl_ids.specs.Ids.{HaveIds, with_ids}
use Rattle.acl_prepared.specs.PreparedIds.{id_aces, ids_start}
use Rattle.acl_prepared.proofs.prepared_ids.bytes_of.Given as goal

-- the bytes so far and those of the rest are those of the whole list, and the names of the rest have ids
abbrev pub invariant-loop-ace : goal.invariant-loop-ace
invariant-loop-ace l =
    (goal.iterator-loop-ace).can_next l.ace-iterator ×
    (goal.iterator-loop-ace).is_finite l.ace-iterator ×
    (l.bytes.items ++ id_aces (with_ids l.names l.ace-iterator) ≡ ids_start ++ id_aces (with_ids l.names l.fn.list)) ×
    HaveIds l.names l.ace-iterator
