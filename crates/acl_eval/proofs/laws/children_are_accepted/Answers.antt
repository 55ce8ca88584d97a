use Rattle.acl_eval.proofs.Children.{child_accepted}
use Rattle.acl_eval.proofs.laws.children_are_accepted.Goals as goal

pub returns : goal.returns
returns c = child_accepted
