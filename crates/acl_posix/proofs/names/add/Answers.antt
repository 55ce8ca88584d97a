use Rattle.acl_posix.proofs.Common.{ap, ids_of, List, ℕ, ◌∙◌}
use Rattle.std.specs.FinMap as fin
use Rattle.acl_posix.proofs.names.NameLemmas.{name_added}
use Rattle.acl_posix.proofs.names.add.Goals as goal

pub returns-clause-added : goal.returns-clause-added
returns-clause-added c =
    ap ids_of c.in-Ok.ensures.entries ∙ name_added c.args.ids.now.entries c.in_ok-name.name c.args.id
    ∙ ap (λ (bs : List ℕ). fin.insert (ids_of c.args.ids.now.entries) bs c.args.id.value) c.in_ok-name.ensures.items
