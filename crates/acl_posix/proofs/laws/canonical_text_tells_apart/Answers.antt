use Rattle.acl_posix.proofs.Common.{canonical_text}
use Rattle.acl_posix.proofs.Exports.{apart, canonical_reads}
use Rattle.acl_posix.proofs.laws.canonical_text_tells_apart.Goals as goal

pub returns : goal.returns
returns c = apart canonical_text canonical_reads
