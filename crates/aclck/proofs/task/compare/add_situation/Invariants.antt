use Rattle.std.specs.Prelude.{◌≡◌, ◌++◌, codes, map, take}
use Rattle.std.specs.List.{flat_map}
use Rattle.aclck.specs.commands.Compare.{compare_line}
use Rattle.aclck.proofs.task.compare.add_situation.Given as goal

-- the lines of the groups so far
abbrev pub invariant-loop-group : goal.invariant-loop-group
invariant-loop-group l = l.text.items ≡ l.initial.text.items
    ++ flat_map (compare_line (codes "member")) (map (λ g. g.items) (take l.group-index l.found.groups.items))
