use Rattle.std.specs.Prelude.{◌≡◌, ◌++◌, map}
use Rattle.acl_perm.specs.Profile.{full}
use Rattle.acl_nfs4.specs.Spelling.{IsAccepted}
use Rattle.acl_eval.specs.Inheritance.{children, flagged}
use Rattle.acl_eval.proofs.inherit.child_with.Given as goal

-- the ACEs so far and the child of the rest are the whole child, which is accepted
abbrev pub invariant-loop-ace : goal.invariant-loop-ace
invariant-loop-ace l =
    (goal.iterator-loop-ace).can_next l.ace-iterator ×
    (goal.iterator-loop-ace).is_finite l.ace-iterator ×
    IsAccepted full (map (flagged l.more.bits) (children l.kind l.fn.parent)) ×
    (l.list ++ map (flagged l.more.bits) (children l.kind l.ace-iterator)
    ≡ map (flagged l.more.bits) (children l.kind l.fn.parent))
