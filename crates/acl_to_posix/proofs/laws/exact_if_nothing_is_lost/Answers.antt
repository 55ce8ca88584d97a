use Rattle.acl_to_posix.proofs.losses.LossSearches.{sound_is_exact}
use Rattle.acl_to_posix.proofs.laws.exact_if_nothing_is_lost.Goals as goal

pub returns : goal.returns
returns c = sound_is_exact
