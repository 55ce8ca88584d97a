use Rattle.acl_nfs4.specs.internal.NameMap.{name_for}
use Rattle.acl_nfs4.proofs.list.MergedNames.{IsJudging}
use Rattle.acl_nfs4.proofs.list.renaming.judge_merges.Given as goal

-- no name before the place becomes one with an earlier one, and the old names of the new ones are noted
abbrev pub invariant-loop-ace : goal.invariant-loop-ace
invariant-loop-ace l =
    (goal.iterator-loop-ace).can_next l.ace-iterator ×
    (goal.iterator-loop-ace).is_finite l.ace-iterator ×
    IsJudging (name_for l.names) (name_for l.old_names) l.place l.ace-iterator l.fn.aces
