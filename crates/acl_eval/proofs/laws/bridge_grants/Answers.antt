use Rattle.acl_eval.proofs.BridgeLaws.{grants_singles, keeps_grants}
use Rattle.acl_eval.proofs.laws.bridge_grants.Goals as goal

pub returns : goal.returns
returns c = record { single = grants_singles; together = keeps_grants }
