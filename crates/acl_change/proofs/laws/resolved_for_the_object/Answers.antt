use Rattle.acl_change.proofs.ResolvedLists.{resolved_at_most, resolved_grants, resolved_same}
use Rattle.acl_change.proofs.laws.resolved_for_the_object.Goals as goal

pub returns-clause-grants : goal.returns-clause-grants
returns-clause-grants c = resolved_grants

pub returns-clause-same : goal.returns-clause-same
returns-clause-same c = resolved_same

pub returns-clause-at_most : goal.returns-clause-at_most
returns-clause-at_most c = resolved_at_most
