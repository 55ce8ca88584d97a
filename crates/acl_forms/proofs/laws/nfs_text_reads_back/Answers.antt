use Rattle.acl_forms.proofs.NfsReadBack.{nfs_written_reads_back}
use Rattle.acl_forms.proofs.laws.nfs_text_reads_back.Goals as goal

pub returns : goal.returns
returns c = nfs_written_reads_back
