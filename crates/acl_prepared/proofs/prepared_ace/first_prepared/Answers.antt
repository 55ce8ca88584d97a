use Rattle.std.proofs.Common.{◌≡◌, ◌∙◌, ap, arith, length, length-append, refl}
use Rattle.std.proofs.lemmas.Bool.{false≢true}
use Rattle.std.proofs.lemmas.List.{drop_at, take_at}
use Rattle.acl_perm.specs.Order.{principal_name}
use Rattle.acl_nfs4.specs.Who.{principal_of}
use Rattle.acl_prepared.proofs.PreparedBytes.{kind_read, layout, rank_read}
use Rattle.acl_prepared.proofs.prepared_ace.first_prepared.Goals as goal

pub returns-in_err-name-clause-first : goal.returns-in_err-name-clause-first
returns-in_err-name-clause-first c = λ a more is e.
    let l = layout a c.args.bytes.now more c.in_ok-number.number.now c.in_ok-number.after.now
    c.from_le_bytes-number.result is e c.in_ok-number.ensures.cases.0 c.in_ok-number.ensures.cases.1
    c.from_le_bytes-number.ensures in
    absurd (omega (
      arith,
      c.in_err-name.ensures.cases,
      l.numbers.size,
      ap length l.behind ∙ length-append (principal_name (principal_of a)) more,
    ))

pub returns-in_err-mask-clause-first : goal.returns-in_err-mask-clause-first
returns-in_err-mask-clause-first c = λ a more is e.
    let l = layout a c.args.bytes.now more c.in_ok-number.number.now c.in_ok-number.after.now
    c.from_le_bytes-number.result is e c.in_ok-number.ensures.cases.0 c.in_ok-number.ensures.cases.1
    c.from_le_bytes-number.ensures in
    absurd (false≢true (c.in_err-mask.ensures.within.1 (rw l.numbers.mask is.mask)))

pub returns-in_err-whom-clause-first : goal.returns-in_err-whom-clause-first
returns-in_err-whom-clause-first c = λ a more is e.
    let l = layout a c.args.bytes.now more c.in_ok-number.number.now c.in_ok-number.after.now
    c.from_le_bytes-number.result is e c.in_ok-number.ensures.cases.0 c.in_ok-number.ensures.cases.1
    c.from_le_bytes-number.ensures in
    let p = principal_of a in
    let name : c.in_ok-name.name.now ≡ principal_name p =
    c.in_ok-name.ensures.cases.1 ∙ rw (l.numbers.size, l.behind) (take_at (principal_name p) more _ refl) in
    absurd (false≢true (c.in_err-whom.ensures p (rank_read p a.kind _ l.numbers.sort) name).0)

pub returns-clause-first : goal.returns-clause-first
returns-clause-first c = λ a more is e.
    let l = layout a c.args.bytes.now more c.in_ok-number.number.now c.in_ok-number.after.now
    c.from_le_bytes-number.result is e c.in_ok-number.ensures.cases.0 c.in_ok-number.ensures.cases.1
    c.from_le_bytes-number.ensures in
    let p = principal_of a in
    let name : c.in_ok-name.name.now ≡ principal_name p =
    c.in_ok-name.ensures.cases.1 ∙ rw (l.numbers.size, l.behind) (take_at (principal_name p) more _ refl) in (
      refl,
      (
        record {
          mask = c.in_ok-mask.ensures.value ∙ l.numbers.mask;
          kind = c.kind_of.ensures ∙ kind_read p a.kind _ l.numbers.sort;
          whom = (c.in_ok-whom.ensures p (rank_read p a.kind _ l.numbers.sort) name).1;
          hash = l.numbers.hash;
        },
        c.in_ok-name.ensures.cases.2 ∙ rw (l.numbers.size, l.behind) (drop_at (principal_name p) more _ refl),
      ),
    )
