use Rattle.acl_posix.proofs.written_line.FirstLines.{access_first, default_first}
use Rattle.acl_posix.proofs.written_line.written_line.Goals as goal

pub returns-in-Some : goal.returns-in-Some
returns-in-Some c = access_first c.args.text.now _ _ c.in-Some.ensures

pub returns : goal.returns
returns c = default_first c.args.text.now c.in_ok-bytes.bytes.now _ _ c.in_ok-bytes.ensures c.in_ok-entry.ensures
