use Rattle.acl_nfs4.proofs.Exits.{exit_is}
use Rattle.acl_nfs4.proofs.xdr.PulledList.{count_answers, count_lacks}
use Rattle.acl_nfs4.proofs.xdr.decoder.pull_count.Goals as goal

pub returns-in_err-number-clause-drawn : goal.returns-in_err-number-clause-drawn
returns-in_err-number-clause-drawn g c =
    let (piece, taken, lacking) = c.in_err-number.ensures in
    rw (exit_is c.from_residual.result c.from_residual.ensures.1) (piece, taken, λ q. count_lacks q lacking)

pub returns-clause-drawn : goal.returns-clause-drawn
returns-clause-drawn g c =
    let (piece, taken, word) = c.in_ok-number.ensures in (
      piece,
      taken,
      count_answers _ c.count_of.result c.placed.result word.0 word.1 c.placed.ensures c.count_of.ensures.exact,
    )
