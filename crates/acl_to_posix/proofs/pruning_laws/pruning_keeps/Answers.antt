use Rattle.acl_to_posix.proofs.prunings.PruningKept.{pruning_keeps_entries, pruning_loses_nothing}
use Rattle.acl_to_posix.proofs.pruning_laws.pruning_keeps.Goals as goal

pub returns-clause-grants : goal.returns-clause-grants
returns-clause-grants c = pruning_loses_nothing

pub returns-clause-entries : goal.returns-clause-entries
returns-clause-entries c = pruning_keeps_entries
