use Rattle.acl_nfs4.proofs.text.AceWritten.{name_is_read}
use Rattle.acl_nfs4.proofs.laws.names_are_read.Goals as goal

pub returns : goal.returns
returns c = name_is_read
