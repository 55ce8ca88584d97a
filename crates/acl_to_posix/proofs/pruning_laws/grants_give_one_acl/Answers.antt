use Rattle.acl_to_posix.proofs.PosixOfLists.{grants_decide}
use Rattle.acl_to_posix.proofs.prunings.PruningGrants.{grants_give_one}
use Rattle.acl_to_posix.proofs.pruning_laws.grants_give_one_acl.Goals as goal

pub returns-clause-acls : goal.returns-clause-acls
returns-clause-acls c = grants_give_one

pub returns-clause-lists : goal.returns-clause-lists
returns-clause-lists c = grants_decide
