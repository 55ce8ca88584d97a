use Rattle.std.proofs.Common.{◌≡◌, ◌≤◌, ◌+◌, ℕ, length}
use Rattle.acl_posix.specs.Check.{Object, Requester}
use Rattle.acl_eval.specs.BridgeLaws.{IsAsked, by_name}
use Rattle.acl_eval.specs.Grant.{grants_bit}
use Rattle.acl_ids.specs.Ids.{HaveIds, with_ids}
use Rattle.acl_to_posix.specs.internal.ShapeBody.{column_decided_by, tag_meets, tagged_column}
use Rattle.acl_to_posix.proofs.tag_column.tagged_aces.Given as goal

-- the ACEs so far, and then the rest of the list, decide as the whole list does, and the names of the rest have ids
abbrev pub invariant-loop-ace : goal.invariant-loop-ace
invariant-loop-ace l =
    (goal.iterator-loop-ace).can_next l.ace-iterator ×
    (goal.iterator-loop-ace).is_finite l.ace-iterator ×
    ((bit : ℕ) (object : Object) (requester : Requester) → IsAsked object requester
    → column_decided_by (tag_meets object requester) (tagged_column l.aces.items bit)
    (grants_bit (with_ids l.names l.ace-iterator) (by_name object requester) bit)
    ≡ grants_bit (with_ids l.names l.fn.list) (by_name object requester) bit) ×
    HaveIds l.names l.ace-iterator ×
    (length l.aces.items + length l.ace-iterator ≤ length l.fn.list)
