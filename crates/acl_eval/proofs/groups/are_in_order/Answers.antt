use Rattle.acl_eval.proofs.Members.{in_order}
use Rattle.acl_eval.proofs.groups.are_in_order.Goals as goal

pub returns : goal.returns
returns c = in_order c.args.names.now c.is_sorted.result c.is_sorted.ensures.cases
