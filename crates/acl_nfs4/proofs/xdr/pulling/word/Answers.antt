use Rattle.std.proofs.Common.{arith}
use Rattle.acl_nfs4.proofs.xdr.FromSource.{is_word}
use Rattle.acl_nfs4.proofs.xdr.pulling.word.Goals as goal

pub returns : goal.returns
returns g c =
    let (piece, taken, filled) = c.in_ok-fill.ensures in
    (piece, taken, is_word (omega arith) filled c.word_in.ensures)
