use Rattle.acl_eval.proofs.Accepted.{only_limits_refuse}
use Rattle.acl_eval.proofs.laws.bridge_limits.Goals as goal

pub returns : goal.returns
returns c = only_limits_refuse
