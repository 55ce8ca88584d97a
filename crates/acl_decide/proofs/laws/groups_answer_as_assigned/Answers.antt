use Rattle.acl_decide.proofs.Memberships.{groups_answer, groups_grant}
use Rattle.acl_decide.proofs.laws.groups_answer_as_assigned.Goals as goal

pub returns-clause-decided : goal.returns-clause-decided
returns-clause-decided c = groups_answer

pub returns-clause-grants : goal.returns-clause-grants
returns-clause-grants c = groups_grant
