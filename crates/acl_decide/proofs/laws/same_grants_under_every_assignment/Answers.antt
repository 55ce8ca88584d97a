use Rattle.acl_decide.proofs.Memberships.{same_under}
use Rattle.acl_decide.proofs.laws.same_grants_under_every_assignment.Goals as goal

pub returns : goal.returns
returns c = same_under
