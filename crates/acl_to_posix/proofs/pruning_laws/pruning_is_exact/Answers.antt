use Rattle.acl_to_posix.proofs.prunings.PruningExact.{end_agrees}
use Rattle.acl_to_posix.proofs.prunings.PruningNames.{all_names}
use Rattle.acl_to_posix.proofs.pruning_laws.pruning_is_exact.Goals as goal

pub returns-clause-agrees : goal.returns-clause-agrees
returns-clause-agrees c = end_agrees

pub returns-clause-names : goal.returns-clause-names
returns-clause-names c = all_names
