use Rattle.acl_nfs4.proofs.Common.{ap, arith, count_of, profile_of, sym, ◌∙◌}
use Rattle.acl_nfs4.proofs.feed.Scanning.{none_scanned}
use Rattle.acl_nfs4.proofs.feed.Streaming.{judged_is, text_refused, text_short}
use Rattle.acl_nfs4.proofs.xdr.view.judge.Goals as goal

pub returns-then-bytes-lt4 : goal.returns-then-bytes-lt4
returns-then-bytes-lt4 c = rw c.at_front.ensures
    (text_short (profile_of c.args.profile) c.args.bytes.now c.if-bytes-lt4.true)

pub returns-in-Err : goal.returns-in-Err
returns-in-Err c = rw c.at_front-in-Err.ensures (
  4,
  text_refused (profile_of c.args.profile) c.args.bytes.now c.in-Err.reason (omega arith)
      (ap count_of (sym c.word_in.ensures) ∙ c.in-Err.ensures.exact),
)

pub scan-requires-clause-scanned : goal.scan-requires-clause-scanned
scan-requires-clause-scanned c = none_scanned (profile_of c.args.profile) c.split_at.result.1.now

pub returns-in-Ok : goal.returns-in-Ok
returns-in-Ok c =
    judged_is (profile_of c.args.profile) c.args.bytes.now c.split_at.result.1.now c.in-Ok.count c.scan.result.progress
    c.scan.result.fault (λ i. omega (arith, c.type_inv.bytes i)) (omega arith)
    (ap count_of (sym c.word_in.ensures) ∙ c.in-Ok.ensures.exact) c.split_at.ensures.back c.scan.ensures.scanned
    c.scan.ensures.ends
