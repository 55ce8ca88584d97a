use Rattle.acl_posix.proofs.reader.Settled.{back}
use Rattle.acl_posix.proofs.writer.ReadBack.{short_reads}
use Rattle.acl_posix.proofs.laws.short_text_reads_back.Goals as goal

pub returns : goal.returns
returns c names file other h = back _ names file other (short_reads names file h)
