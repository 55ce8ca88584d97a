use Rattle.acl_eval.proofs.Deciders.{granted_by_allows}
use Rattle.acl_eval.proofs.laws.allows_decide_what_is_granted.Goals as goal

pub returns : goal.returns
returns c = granted_by_allows
