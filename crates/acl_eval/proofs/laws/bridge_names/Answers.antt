use Rattle.acl_eval.proofs.Accepted.{names_differ, names_valid}
use Rattle.acl_eval.proofs.laws.bridge_names.Goals as goal

pub returns : goal.returns
returns c = record { differ = names_differ; valid = names_valid }
