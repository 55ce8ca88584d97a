use Rattle.std.proofs.Common.{◌∙◌}
use Rattle.acl_prepared.proofs.IdGroups.{member}
use Rattle.acl_prepared.proofs.id_request.is_among.Goals as goal

pub returns-then-ids-gt-FEW : goal.returns-then-ids-gt-FEW
returns-then-ids-gt-FEW c = c.is_found.ensures ∙ member c.args.id c.args.ids.now c.ranges.id.fits c.type_inv.ids

pub returns-else-ids-gt-FEW : goal.returns-else-ids-gt-FEW
returns-else-ids-gt-FEW c = c.is_met.ensures ∙ member c.args.id c.args.ids.now c.ranges.id.fits c.type_inv.ids
