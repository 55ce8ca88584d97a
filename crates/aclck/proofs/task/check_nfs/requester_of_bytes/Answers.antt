use Rattle.aclck.proofs.CheckNfsLemmas.{requester_is}
use Rattle.aclck.proofs.task.check_nfs.requester_of_bytes.Goals as goal

pub returns : goal.returns
returns c = requester_is c.new.result _ _ c.new.ensures.named c.new.ensures.user c.new.ensures.groups
