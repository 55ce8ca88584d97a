use Rattle.acl_to_posix.proofs.prunings.PruningLists.{grants_decide, has_one_end}
use Rattle.acl_to_posix.proofs.pruning_laws.pruning_has_one_end.Goals as goal

pub returns-clause-order : goal.returns-clause-order
returns-clause-order c = has_one_end

pub returns-clause-grants : goal.returns-clause-grants
returns-clause-grants c = grants_decide
