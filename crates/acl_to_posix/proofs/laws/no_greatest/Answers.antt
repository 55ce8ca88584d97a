use Rattle.acl_to_posix.proofs.no_greatest.UserCase.{user_case}
use Rattle.acl_to_posix.proofs.no_greatest.PermissionsCase.{permissions_case}
use Rattle.acl_to_posix.proofs.no_greatest.GroupsCase.{groups_case}
use Rattle.acl_to_posix.proofs.laws.no_greatest.Goals as goal

pub returns-clause-users : goal.returns-clause-users
returns-clause-users c = user_case

pub returns-clause-permissions : goal.returns-clause-permissions
returns-clause-permissions c = permissions_case

pub returns-clause-groups : goal.returns-clause-groups
returns-clause-groups c = groups_case
