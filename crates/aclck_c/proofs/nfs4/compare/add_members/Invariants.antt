use Rattle.std.specs.Prelude.{◌≡◌, ◌++◌, map, take}
use Rattle.std.specs.List.{flat_map}
use Rattle.aclck_c.specs.Compare.{ended}
use Rattle.aclck_c.proofs.nfs4.compare.add_members.Given as goal

-- the names of the groups so far
abbrev pub invariant-loop-group : goal.invariant-loop-group
invariant-loop-group l = l.text.items
    ≡ l.initial.text.items ++ flat_map ended (map (λ g. g.items) (take l.group-index l.groups))
