use Rattle.acl_posix.proofs.written_line.FirstLines.{perm_found}
use Rattle.acl_posix.proofs.written_line.perm_before.Goals as goal

pub returns : goal.returns
returns c =
    perm_found c.args.bytes.now c.in_ok-read.read c.in_ok-write.write c.in_ok-execute.execute c.perm_of-perm.result.bits
    c.in-len4-up.len_at_least c.in_ok-read.ensures c.in_ok-write.ensures c.in_ok-execute.ensures c.if-feed-ne10.false
    c.perm_of-perm.ensures c.perm_of-perm.result.within
