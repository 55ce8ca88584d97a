use Rattle.acl_change.proofs.ChmodGrants.{mode_after}
use Rattle.acl_change.proofs.laws.chmod_mode.Goals as goal

pub returns : goal.returns
returns c = mode_after
