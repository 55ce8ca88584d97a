use Rattle.std.proofs.Common.{◌≡◌, ◌+◌, ◌*◌, ◌≤◌, length}
use Rattle.std.specs.List.{flat_map}
use Rattle.acl_nfs4.specs.Limits.{most_aces}
use Rattle.acl_perm.proofs.PieceLemmas.{IsOut}
use Rattle.acl_forms.specs.Acl41Ids.{id_piece}
use Rattle.acl_forms.proofs.acl41_ids_writer.put_entries.Given as goal

-- a front of the bytes is out, the bytes of the ACEs that are left follow it, and no put failed
abbrev pub invariant-loop-ace : goal.invariant-loop-ace
invariant-loop-ace g l =
    (goal.iterator-loop-ace g).can_next l.ace-iterator ×
    (goal.iterator-loop-ace g).is_finite l.ace-iterator ×
    IsOut l.fn.start l.done (g.K.Sink.contents l.fn.sink) (g.K.Sink.contents l.sink) (flat_map id_piece l.fn.aces)
    (flat_map id_piece l.ace-iterator) ×
    (g.K.Sink.failure_count l.sink ≡ g.K.Sink.failure_count l.fn.sink) ×
    (l.done + 20 * length l.ace-iterator ≤ 8 + 20 * most_aces)
