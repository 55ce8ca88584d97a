use Rattle.acl_prepared.proofs.NameHashes.{hash_below}
use Rattle.acl_prepared.specs.Prepared.{name_hash}
use Rattle.acl_prepared.proofs.hash_matching.hashes_of.Goals as goal

pub returns-then-names-gt-MANY : goal.returns-then-names-gt-MANY
returns-then-names-gt-MANY c = λ name _. c.all_marked.ensures (name_hash name) (hash_below name)
