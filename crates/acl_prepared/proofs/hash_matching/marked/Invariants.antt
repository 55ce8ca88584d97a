use Rattle.std.specs.Prelude.{map, take}
use Rattle.acl_prepared.specs.internal.NameHashes.{AreHashesOf}
use Rattle.acl_prepared.proofs.hash_matching.marked.Given as goal

-- the hashes of the names so far are marked
abbrev pub invariant-loop-name : goal.invariant-loop-name
invariant-loop-name l = AreHashesOf l.marks (map (λ g. g.now) (take l.name-index l.names))
