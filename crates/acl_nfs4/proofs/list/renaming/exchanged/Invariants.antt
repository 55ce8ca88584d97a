use Rattle.acl_nfs4.proofs.Common.{map, ◌++◌, ◌≡◌}
use Rattle.acl_nfs4.specs.Renamed.{ace_by}
use Rattle.acl_nfs4.specs.internal.NameMap.{name_for}
use Rattle.acl_nfs4.proofs.list.renaming.exchanged.Given as goal

-- the list so far and the new names of the rest are the whole list with new names
abbrev pub invariant-loop-ace : goal.invariant-loop-ace
invariant-loop-ace l =
    (goal.iterator-loop-ace).can_next l.ace-iterator ×
    (goal.iterator-loop-ace).is_finite l.ace-iterator ×
    (l.list ++ map (ace_by (name_for l.names)) l.ace-iterator ≡ map (ace_by (name_for l.names)) l.fn.aces)
