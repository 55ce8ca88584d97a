use Rattle.acl_nfs4.proofs.Common.{Fits, profile_of, ◌↔◌}
use Rattle.acl_nfs4.proofs.list.aces.fit.Given as goal

-- the list fits if and only if the ACEs that are left fit
abbrev pub invariant-loop-ace : goal.invariant-loop-ace
invariant-loop-ace l =
    (goal.iterator-loop-ace).can_next l.ace-iterator ×
    (goal.iterator-loop-ace).is_finite l.ace-iterator ×
    (Fits (profile_of l.profile) l.ace-iterator ↔ Fits (profile_of l.profile) l.fn.aces)
