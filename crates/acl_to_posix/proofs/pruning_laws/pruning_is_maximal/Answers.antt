use Rattle.acl_to_posix.proofs.prunings.PruningMaximal.{end_is_maximal}
use Rattle.acl_to_posix.proofs.pruning_laws.pruning_is_maximal.Goals as goal

pub returns : goal.returns
returns c = end_is_maximal
