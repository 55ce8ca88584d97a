use Rattle.acl_posix.proofs.reader.Settled.{back}
use Rattle.acl_posix.proofs.writer.ReadBack.{shown_reads}
use Rattle.acl_posix.proofs.laws.shown_text_reads_back.Goals as goal

pub returns : goal.returns
returns c names file other h = back _ names file other (shown_reads names file h)
