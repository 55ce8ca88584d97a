use Rattle.acl_change.proofs.ChmodChildren.{inherited_as_before}
use Rattle.acl_change.proofs.laws.chmod_inheritance.Goals as goal

pub returns : goal.returns
returns c = inherited_as_before
