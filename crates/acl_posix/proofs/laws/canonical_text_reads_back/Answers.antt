use Rattle.acl_posix.proofs.Exports.{back, canonical_reads}
use Rattle.acl_posix.proofs.laws.canonical_text_reads_back.Goals as goal

pub returns : goal.returns
returns c names file other h = back _ names file other (canonical_reads names file h)
