use Rattle.std.specs.Prelude.{◌≡◌, ◌++◌, map, take}
use Rattle.std.specs.List.{flat_map}
use Rattle.aclck_c.specs.Questions.{name_bytes}
use Rattle.aclck_c.proofs.nfs4.questions.add_names.Given as goal

-- the names so far
abbrev pub invariant-loop-name : goal.invariant-loop-name
invariant-loop-name l = l.bytes.items
    ≡ l.initial.bytes.items ++ flat_map name_bytes (map (λ n. n.items) (take l.name-index l.names))
