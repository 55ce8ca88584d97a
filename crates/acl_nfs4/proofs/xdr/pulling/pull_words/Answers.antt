use Rattle.acl_nfs4.proofs.Common.{from_who, refl, who_len_of}
use Rattle.acl_nfs4.proofs.Exits.{exit_is}
use Rattle.acl_nfs4.proofs.xdr.Fields.{who_len_some}
use Rattle.acl_nfs4.proofs.xdr.FromSource.{placed_value, placed_light, word_drawn, word_lacks, word_refused}
use Rattle.acl_nfs4.proofs.xdr.PulledAce.{mask_drawn, mask_lacks, mask_refused}
use Rattle.acl_nfs4.proofs.xdr.OneFault.{len_never}
use Rattle.acl_nfs4.proofs.xdr.pulling.pull_words.Goals as goal

pub returns-in_err-pull_head-clause-drawn : goal.returns-in_err-pull_head-clause-drawn
returns-in_err-pull_head-clause-drawn g c =
    rw (exit_is c.from_residual.result c.from_residual.ensures.1) c.in_err-pull_head.ensures

pub returns-in_err-rights-clause-drawn : goal.returns-in_err-rights-clause-drawn
returns-in_err-rights-clause-drawn g c =
    rw (exit_is c.from_residual-in_err-rights.result c.from_residual-in_err-rights.ensures.1)
    (mask_lacks c.in_ok-pull_head.ensures c.in_err-rights.ensures refl)

pub returns-in_err-mask-clause-drawn : goal.returns-in_err-mask-clause-drawn
returns-in_err-mask-clause-drawn g c =
    rw (exit_is c.from_residual-in_err-mask.result c.from_residual-in_err-mask.ensures.1)
    (mask_refused c.in_ok-pull_head.ensures c.mask_of.result c.in_ok-rights.ensures c.mask_of.ensures.exact
    c.in_err-mask.ensures refl)

pub returns-in_err-number-clause-drawn : goal.returns-in_err-number-clause-drawn
returns-in_err-number-clause-drawn g c =
    let w = c.in_ok-pull_head.ensures in
    let d = mask_drawn w _ c.mask_of.result c.in_ok-mask.mask c.in_ok-rights.ensures c.in_ok-mask.ensures
    c.mask_of.ensures.exact in rw (exit_is c.from_residual-in_err-number.result c.from_residual-in_err-number.ensures.1)
    (word_lacks who_len_of (from_who w.kind w.flags c.in_ok-mask.mask.bits) d c.in_err-number.ensures refl)

pub returns-in_err-len-clause-drawn : goal.returns-in_err-len-clause-drawn
returns-in_err-len-clause-drawn g c =
    let w = c.in_ok-pull_head.ensures in
    let m = c.in_ok-mask.mask in
    let d = mask_drawn w _ c.mask_of.result m c.in_ok-rights.ensures c.in_ok-mask.ensures c.mask_of.ensures.exact in
    rw (exit_is c.from_residual-in_err-len.result c.from_residual-in_err-len.ensures.1)
    (word_refused _ (λ z. z) c.who_len_of.result who_len_of (from_who w.kind w.flags m.bits) d c.in_ok-number.ensures
    c.who_len_of.ensures.exact c.in_err-len.ensures refl len_never)

pub returns-clause-drawn : goal.returns-clause-drawn
returns-clause-drawn g c =
    let w = c.in_ok-pull_head.ensures in
    let m = c.in_ok-mask.mask in
    let len = c.in_ok-len.len in
    let is = placed_value (λ z. z) _ c.who_len_of.result _ len c.in_ok-len.ensures c.who_len_of.ensures.exact in
    let d = mask_drawn w _ c.mask_of.result m c.in_ok-rights.ensures c.in_ok-mask.ensures c.mask_of.ensures.exact in
    record {
      kind = w.kind;
      flags = w.flags;
      mask = m.bits;
      given = _;
      drawn = word_drawn _ (λ z. z) c.who_len_of.result who_len_of (from_who w.kind w.flags m.bits) d
          c.in_ok-number.ensures c.who_len_of.ensures.exact len c.in_ok-len.ensures;
      some = who_len_some c.in_ok-number.number len is;
      weighs = rw c.bits.ensures.value refl;
      light = rw c.bits.ensures.value
          (placed_light c.args.next.weight c.mask_of.result m _ c.in_ok-mask.ensures c.mask_of.ensures.light);
    }
