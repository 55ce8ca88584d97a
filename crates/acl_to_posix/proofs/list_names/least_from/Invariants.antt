use Rattle.std.proofs.Common.{◌≡◌, None, option_map}
use Rattle.acl_to_posix.specs.internal.ListNamesBody.{relevant_id}
use Rattle.acl_to_posix.proofs.NameCounts.{least_among}
use Rattle.acl_to_posix.proofs.list_names.least_from.Given as goal

-- the least so far, with the ids of the rest of the list, gives the least of all
abbrev pub invariant-loop-ace : goal.invariant-loop-ace
invariant-loop-ace l =
    (goal.iterator-loop-ace).can_next l.ace-iterator ×
    (goal.iterator-loop-ace).is_finite l.ace-iterator ×
    (least_among (relevant_id l.kind l.names) l.from (option_map (λ id. id.value) l.least) l.ace-iterator
    ≡ least_among (relevant_id l.kind l.names) l.from None l.fn.list)
