use Rattle.std.proofs.Common.{◌∙◌, refl}
use Rattle.std.proofs.lemmas.Bool.{false≢true}
use Rattle.acl_nfs4.specs.Who.{principal_of}
use Rattle.acl_prepared.proofs.IdBytes.{id_layout}
use Rattle.acl_prepared.proofs.PreparedBytes.{kind_read, rank_read}
use Rattle.acl_prepared.proofs.id_ace.first_id_ace.Goals as goal

pub returns-in_err-mask-clause-first : goal.returns-in_err-mask-clause-first
returns-in_err-mask-clause-first c = λ a more is e.
    let l = id_layout a c.args.bytes.now more c.in_ok-number.number.now c.in_ok-number.rest.now
    c.from_le_bytes-number.result is e c.in_ok-number.ensures.cases.0 c.in_ok-number.ensures.cases.1
    c.from_le_bytes-number.ensures in
    absurd (false≢true (c.in_err-mask.ensures.within.1 (rw l.numbers.mask is.mask)))

pub returns-clause-first : goal.returns-clause-first
returns-clause-first c = λ a more is e.
    let l = id_layout a c.args.bytes.now more c.in_ok-number.number.now c.in_ok-number.rest.now
    c.from_le_bytes-number.result is e c.in_ok-number.ensures.cases.0 c.in_ok-number.ensures.cases.1
    c.from_le_bytes-number.ensures in (
      refl,
      (
        record {
          mask = c.in_ok-mask.ensures.value ∙ l.numbers.mask;
          kind = c.kind_of.ensures ∙ kind_read (principal_of a) a.kind _ l.numbers.sort;
          whom = rw (rank_read (principal_of a) a.kind _ l.numbers.sort, l.numbers.id) is.named;
        },
        l.behind,
      ),
    )
