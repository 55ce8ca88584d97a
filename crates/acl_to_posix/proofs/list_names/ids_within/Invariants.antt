use Rattle.std.proofs.Common.{◌≡◌, ◌≤◌, ℕ, length}
use Rattle.std.specs.Prelude.{◌||◌}
use Rattle.acl_posix.specs.Check.{ids, is_member}
use Rattle.acl_to_posix.specs.ListNames.{AreOnce}
use Rattle.acl_to_posix.specs.internal.ListNamesBody.{names_id}
use Rattle.acl_to_posix.proofs.list_names.ids_within.Given as goal

-- those so far are at most the bound, and with those that the rest of the list names they are all
abbrev pub invariant-loop-ace : goal.invariant-loop-ace
invariant-loop-ace l =
    (goal.iterator-loop-ace).can_next l.ace-iterator ×
    (goal.iterator-loop-ace).is_finite l.ace-iterator ×
    ((id : ℕ) → (is_member id (ids l.found.items) || names_id l.kind l.names l.ace-iterator id)
    ≡ names_id l.kind l.names l.fn.list id) × AreOnce (ids l.found.items) × (length l.found.items ≤ l.most)
