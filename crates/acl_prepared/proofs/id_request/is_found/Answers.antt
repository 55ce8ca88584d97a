use Rattle.std.proofs.Common.{◌∙◌}
use Rattle.acl_prepared.proofs.IdGroups.{found}
use Rattle.acl_prepared.proofs.id_request.is_found.Goals as goal

pub returns : goal.returns
returns c = c.is_ok.ensures.value
    ∙ found c.args.ids.now c.args.id c.binary_search.result c.requires c.binary_search.ensures.position
