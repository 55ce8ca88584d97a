use Rattle.acl_to_posix.proofs.prunings.KeptEntries.{entries_decide}
use Rattle.acl_to_posix.proofs.laws.entries_decide_loss.Goals as goal

pub returns : goal.returns
returns c = entries_decide
