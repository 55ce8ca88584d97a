use Rattle.std.specs.Prelude.{◌≡◌, ◌+◌, length}
use Rattle.std.specs.List.{position_from}
use Rattle.acl_nfs4.specs.Who.{principal_of}
use Rattle.acl_change.specs.Resolved.{first_nameless, lacks_name}
use Rattle.acl_eval.specs.Situation.{owner_of, owning_group_of}
use Rattle.acl_change.proofs.resolving.first_nameless.Given as goal

-- the ACEs before the place have their names, and the rest is that of the list
abbrev pub invariant-loop-ace : goal.invariant-loop-ace
invariant-loop-ace l =
    (goal.iterator-loop-ace).can_next l.ace-iterator ×
    (goal.iterator-loop-ace).is_finite l.ace-iterator ×
    (l.place + length l.ace-iterator ≡ length l.fn.aces) ×
    (position_from (λ a. lacks_name (owner_of l.object) (owning_group_of l.object) (principal_of a))
    l.place l.ace-iterator
    ≡ first_nameless (owner_of l.object) (owning_group_of l.object) l.fn.aces)
