use Rattle.acl_normal.proofs.Common.{◌∙◌}
use Rattle.acl_contain.proofs.Enumeration.{in_set}
use Rattle.acl_contain.proofs.asking.has.Goals as goal

pub returns : goal.returns
returns c = c.contains.ensures.value ∙ in_set c.args.p c.args.set.now
