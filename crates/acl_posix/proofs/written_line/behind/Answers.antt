use Rattle.acl_posix.proofs.written_line.FirstLines.{behind_is}
use Rattle.acl_posix.proofs.written_line.behind.Goals as goal

pub returns : goal.returns
returns c = behind_is c.args.bytes.now c.args.beginning.now _ c.strip_prefix.ensures.cases
