use Rattle.aclck.proofs.PathLemmas.{forms_own, grants_at_paths, paths_tell}
use Rattle.aclck.proofs.laws.headline_over_paths.Goals as goal

pub returns : goal.returns
returns c = record { equal_bytes = paths_tell; same_grants = grants_at_paths; twice_is_once = forms_own }
