use Rattle.acl_to_posix.proofs.prunings.PruningBack.{leads_back}
use Rattle.acl_to_posix.proofs.pruning_laws.pruning_leads_back.Goals as goal

pub returns : goal.returns
returns c = leads_back
