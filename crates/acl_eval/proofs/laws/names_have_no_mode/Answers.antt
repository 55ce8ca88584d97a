use Rattle.acl_eval.proofs.Unnamed.{same_mode}
use Rattle.acl_eval.proofs.laws.names_have_no_mode.Goals as goal

pub returns : goal.returns
returns c = same_mode
