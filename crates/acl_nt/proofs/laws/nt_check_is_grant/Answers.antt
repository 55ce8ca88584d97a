use Rattle.acl_nt.proofs.NtGrants.{check_is_grant}
use Rattle.acl_nt.proofs.laws.nt_check_is_grant.Goals as goal

pub returns : goal.returns
returns c = check_is_grant
