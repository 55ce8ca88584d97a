use Rattle.acl_nt.proofs.WholeGrants.{part_is_bounded, part_is_tight}
use Rattle.acl_nt.proofs.laws.part_grants_no_more.Goals as goal

pub returns-clause-at_most : goal.returns-clause-at_most
returns-clause-at_most c = part_is_bounded

pub returns-clause-same : goal.returns-clause-same
returns-clause-same c = part_is_tight
