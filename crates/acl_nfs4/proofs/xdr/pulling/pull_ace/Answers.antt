use Rattle.acl_nfs4.proofs.Common.{arith, refl}
use Rattle.acl_nfs4.proofs.Exits.{exit_is}
use Rattle.acl_nfs4.proofs.xdr.Fields.{len_bounds}
use Rattle.acl_nfs4.proofs.xdr.PulledAce.{padding_drawn, padding_lacks, padding_refused, who_drawn, who_lacks, who_refused}
use Rattle.acl_nfs4.proofs.xdr.pulling.pull_ace.Goals as goal

pub returns-in_err-words : goal.returns-in_err-words
returns-in_err-words g c = rw (exit_is c.from_residual.result c.from_residual.ensures.1) c.in_err-words.ensures.drawn

pub returns-in_err-fill : goal.returns-in_err-fill
returns-in_err-fill g c = rw (exit_is c.from_residual-in_err-fill.result c.from_residual-in_err-fill.ensures.1)
    (who_lacks c.in_ok-words.ensures.drawn c.in_err-fill.ensures (omega arith) refl)

pub returns-in_err-placed : goal.returns-in_err-placed
returns-in_err-placed g c = rw (exit_is c.from_residual-in_err-placed.result c.from_residual-in_err-placed.ensures.1)
    (who_refused c.in_ok-words.ensures.drawn (λ z. z.now) c.who_of.result c.in_ok-fill.ensures (omega arith)
    c.in_err-placed.ensures c.who_of.ensures refl)

pub returns-in_err-fill-2 : goal.returns-in_err-fill-2
returns-in_err-fill-2 g c =
    let d = who_drawn c.in_ok-words.ensures.drawn _ (λ z. z.now) c.who_of.result c.in_ok-placed.field-0
    c.in_ok-fill.ensures (omega arith) c.in_ok-placed.ensures c.who_of.ensures in
    rw (exit_is c.from_residual-in_err-fill-2.result c.from_residual-in_err-fill-2.ensures.1)
    (padding_lacks c.in_ok-words.ensures.drawn _ d c.in_err-fill-2.ensures (omega arith) (omega arith))

pub returns-in_err-placed-2 : goal.returns-in_err-placed-2
returns-in_err-placed-2 g c =
    let d = who_drawn c.in_ok-words.ensures.drawn _ (λ z. z.now) c.who_of.result c.in_ok-placed.field-0
    c.in_ok-fill.ensures (omega arith) c.in_ok-placed.ensures c.who_of.ensures in
    rw (exit_is c.from_residual-in_err-placed-2.result c.from_residual-in_err-placed-2.ensures.1)
    (padding_refused c.in_ok-words.ensures.drawn _ d c.padding_of.result c.in_ok-fill-2.ensures (omega arith)
    c.in_err-placed-2.ensures c.padding_of.ensures (omega arith))

pub returns : goal.returns
returns g c =
    let w = c.in_ok-words.ensures.drawn in
    let who = c.in_ok-placed.field-0 in
    let d = who_drawn w _ (λ z. z.now) c.who_of.result who c.in_ok-fill.ensures (omega arith) c.in_ok-placed.ensures
    c.who_of.ensures in
    record {
      ace = record { kind = w.kind; flags = w.flags; mask = w.mask; who = who.now };
      given = _;
      drawn = padding_drawn w _ d _ c.padding_of.result c.in_ok-placed-2.field-0 c.in_ok-fill-2.ensures (omega arith)
          (omega arith) c.in_ok-placed-2.ensures c.padding_of.ensures;
      weighs = w.weighs;
      light = w.light;
      inside = let some = len_bounds c.in_ok-words.words.len w.some in
          omega (arith, some, c.requires.room, c.pull_words.auto.room, c.fill.auto.room, c.fill-2.auto.room);
    }
