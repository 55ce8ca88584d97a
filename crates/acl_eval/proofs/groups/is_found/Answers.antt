use Rattle.std.proofs.Common.{◌∙◌}
use Rattle.acl_eval.proofs.Members.{halves}
use Rattle.acl_eval.proofs.groups.is_found.Goals as goal

pub returns : goal.returns
returns c = c.is_ok.ensures.value
    ∙ halves c.args.names.now c.args.name c.binary_search.result c.requires c.binary_search.ensures.bound
    c.binary_search.ensures.position
