use Rattle.acl_normal.proofs.Common.{drop, map, principals, ◌++◌, ◌≡◌}
use Rattle.acl_normal.specs.SmallSituations.{group_names}
use Rattle.acl_contain.proofs.asking.names_in.Given as goal

-- the names so far and those of the rest are all names
abbrev pub invariant-loop-p : goal.invariant-loop-p
invariant-loop-p l = map (λ g. g.items) l.names.items ++ group_names (principals (drop l.p-index l.set))
    ≡ group_names (principals l.set)
