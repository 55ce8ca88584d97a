use Rattle.acl_nfs4.proofs.Common.{arith, flags_of, from_flags, from_mask, kind_of, profile_of, refl}
use Rattle.acl_nfs4.proofs.Exits.{exit_is}
use Rattle.acl_nfs4.proofs.xdr.FromSource.{none_drawn, word_drawn, word_lacks, word_refused}
use Rattle.acl_nfs4.proofs.xdr.PulledAce.{kind_drawn}
use Rattle.acl_nfs4.proofs.xdr.OneFault.{flags_never, kind_never}
use Rattle.acl_nfs4.proofs.xdr.pulling.pull_head.Goals as goal

pub returns-in_err-kind : goal.returns-in_err-kind
returns-in_err-kind g c =
    let rest = from_flags (profile_of c.args.next.profile) c.args.next.weight in
    rw (exit_is c.from_residual.result c.from_residual.ensures.1)
    (word_lacks kind_of rest (none_drawn c.args.room.now) c.in_err-kind.ensures (omega arith))

pub returns-in_err-placed : goal.returns-in_err-placed
returns-in_err-placed g c =
    let rest = from_flags (profile_of c.args.next.profile) c.args.next.weight in
    rw (exit_is c.from_residual-in_err-placed.result c.from_residual-in_err-placed.ensures.1)
    (word_refused _ (λ z. z) c.kind_of.result kind_of rest (none_drawn c.args.room.now) c.in_ok-kind.ensures
    c.kind_of.ensures c.in_err-placed.ensures (omega arith) kind_never)

pub returns-in_err-flags : goal.returns-in_err-flags
returns-in_err-flags g c =
    let q = profile_of c.args.next.profile in
    let k = c.in_ok-placed.field-0 in
    let d = kind_drawn q c.args.next.weight c.args.next.offset c.args.room.now _ c.kind_of.result k c.in_ok-kind.ensures
    c.in_ok-placed.ensures c.kind_of.ensures in
    rw (exit_is c.from_residual-in_err-flags.result c.from_residual-in_err-flags.ensures.1)
    (word_lacks (flags_of q) (from_mask q c.args.next.weight k) d c.in_err-flags.ensures refl)

pub returns-in_err-placed-2 : goal.returns-in_err-placed-2
returns-in_err-placed-2 g c =
    let q = profile_of c.args.next.profile in
    let k = c.in_ok-placed.field-0 in
    let d = kind_drawn q c.args.next.weight c.args.next.offset c.args.room.now _ c.kind_of.result k c.in_ok-kind.ensures
    c.in_ok-placed.ensures c.kind_of.ensures in
    rw (exit_is c.from_residual-in_err-placed-2.result c.from_residual-in_err-placed-2.ensures.1)
    (word_refused _ (λ z. z.bits) c.flags_of.result (flags_of q) (from_mask q c.args.next.weight k) d
    c.in_ok-flags.ensures c.flags_of.ensures c.in_err-placed-2.ensures refl (flags_never q))

pub returns : goal.returns
returns g c =
    let q = profile_of c.args.next.profile in
    let k = c.in_ok-placed.field-0 in
    let d = kind_drawn q c.args.next.weight c.args.next.offset c.args.room.now _ c.kind_of.result k c.in_ok-kind.ensures
    c.in_ok-placed.ensures c.kind_of.ensures in
    record {
      kind = k;
      flags = c.in_ok-placed-2.field-0.bits;
      given = _;
      drawn = word_drawn _ (λ z. z.bits) c.flags_of.result (flags_of q) (from_mask q c.args.next.weight k) d
          c.in_ok-flags.ensures c.flags_of.ensures c.in_ok-placed-2.field-0 c.in_ok-placed-2.ensures;
    }
