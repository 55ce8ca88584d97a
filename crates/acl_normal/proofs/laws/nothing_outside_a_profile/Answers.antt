use Rattle.acl_normal.proofs.unique.Profiles.{denied_outside, same_within}
use Rattle.acl_normal.proofs.laws.nothing_outside_a_profile.Goals as goal

pub returns-clause-denied : goal.returns-clause-denied
returns-clause-denied c = denied_outside

pub returns-clause-same : goal.returns-clause-same
returns-clause-same c = same_within
