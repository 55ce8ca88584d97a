use Rattle.std.proofs.Common.{arith, refl, sym, ◌∙◌}
use Rattle.std.specs.Prelude.{◌&&◌}
use Rattle.std.proofs.lemmas.Bool.{false≢true}
use Rattle.acl_perm.specs.Bits.{has_bit}
use Rattle.acl_eval.specs.Grant.{grants_bit}
use Rattle.acl_prepared.specs.PreparedIds.{id_ace, id_situation}
use Rattle.acl_eval.specs.internal.EachRightBody.{is_undecided}
use Rattle.acl_prepared.specs.internal.IdsBody.{IsIdPart, IsIdReadAs}
use Rattle.acl_prepared.proofs.PreparedLists.{all_read, one_more, some_first}
use Rattle.acl_prepared.proofs.prepared_ids.decided_to.Goals as goal

pub returns-in_err-first : goal.returns-in_err-first
returns-in_err-first c = λ list parts e.
    let old = c.loop-rest.invariant list parts e in
    let none = c.in_err-first.ensures.first in
    absurd (some_first id_ace IsIdPart old.0 c.loop-rest.rest.now (sym c.is_empty.ensures ∙ c.loop-rest-test.true)
    old.1 old.2 (λ a more is begins. false≢true (none a more is begins).0))

pub loop-rest-preserved : goal.loop-rest-preserved
loop-rest-preserved c = λ list parts e.
    let old = c.loop-rest.invariant list parts e in
    let s = id_situation c.args.object c.args.requester.now in
    one_more id_ace IsIdPart (λ a. IsIdReadAs a c.in_ok-first.first) s
    (λ bit. has_bit c.args.mask.bits bit && grants_bit list s bit)
    (λ bit. has_bit c.args.mask.bits bit && is_undecided s bit list) old.0 c.loop-rest.rest.now
    c.in_ok-first.first.rest.now c.loop-rest.so_far c.after_id-so_far.result
    (sym c.is_empty.ensures ∙ c.loop-rest-test.true) old.1 old.2 c.in_ok-first.ensures.first
    c.after_id-so_far.ensures.granted c.after_id-so_far.ensures.left old.3 old.4

pub returns : goal.returns
returns c = λ list parts e.
    let old = c.loop-rest.invariant list parts e in
    let s = id_situation c.args.object c.args.requester.now in (
      refl,
      all_read id_ace IsIdPart s c.args.mask.bits list old.0 c.loop-rest.rest.now c.loop-rest.so_far
          (λ a. omega arith) (sym c.is_empty.ensures ∙ c.loop-rest-test.false) old.2 old.3 old.4,
    )
