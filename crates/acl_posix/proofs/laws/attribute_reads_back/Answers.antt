use Rattle.acl_posix.proofs.attribute.ReadBack.{reads_back}
use Rattle.acl_posix.proofs.laws.attribute_reads_back.Goals as goal

pub returns : goal.returns
returns c acl h = reads_back acl h
