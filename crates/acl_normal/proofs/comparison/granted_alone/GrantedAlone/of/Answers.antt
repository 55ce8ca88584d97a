use Rattle.acl_normal.proofs.Common.{arith, length, length-set, Nobody, refl, slice_index_or, subst, ◌∙◌, ◌<◌}
use Rattle.acl_normal.proofs.comparison.GrantedAloneLemmas.{alone_done, alone_everyone, alone_named, alone_nobody, alone_start}
use Rattle.acl_normal.proofs.comparison.RightsByNumber.{whom_in}
use Rattle.acl_normal.proofs.comparison.granted_alone.GrantedAlone.of.Goals as goal
use Rattle.acl_normal.proofs.comparison.granted_alone.GrantedAlone.of.Goals.{in-Everyone, in-Nobody, in-One}
use Rattle.acl_normal.specs.internal.comparison.FirstPlaces.{IsWhomWithin}

pub loop-place-init : goal.loop-place-init
loop-place-init c = record {
  count = omega (arith, c.in_ok-named.ensures.len, c.in_ok-named.named.ok.0);
  alone = λ whole long whoms. alone_start whole c.args.list.now c.none.result
      (c.in_ok-named.ensures.items_if_clones_equal (λ y e. e)) long c.none.ensures.granted c.none.ensures.decided
      c.none-everyone.ensures.granted c.none-everyone.ensures.decided;
}

pub loop-place-preserved : goal.loop-place-preserved
loop-place-preserved c = elim c.match-whoms-place.branch [
  | in-Nobody w ↦ rw (w.named-is, w.everyone-is) (record {
    count = c.loop-place.invariant.count;
    alone = λ whole long whoms. alone_nobody whole _ c.loop-place-test.true c.index-list-place.is w.in-Nobody.is whoms
        (c.loop-place.invariant.alone whole long whoms);
  })
  | in-One w ↦
      let within : IsWhomWithin (slice_index_or c.args.whoms.now c.loop-place.place Nobody)
      (length c.loop-place.named.items) =
      whom_in c.args.whoms.now (omega (arith, c.loop-place.invariant.count))
      (omega (arith, c.requires.whoms, c.loop-place-test.true)) c.requires.within in
      let inside : w.in-One.number < length c.loop-place.named.items =
      subst (λ v. IsWhomWithin v (length c.loop-place.named.items)) w.in-One.is within in
      rw (w.named-is, w.everyone-is) (record {
        count = length-set c.loop-place.named.items w.in-One.number w.with-decision.result
            ∙ c.loop-place.invariant.count;
        alone = λ whole long whoms. alone_named whole _ c.loop-place-test.true c.index-list-place.is w.in-One.is whoms
            inside w.index.ensures w.with-decision.ensures (c.loop-place.invariant.alone whole long whoms);
      })
  | in-Everyone w ↦ rw (w.named-is, w.everyone-is) (record {
    count = c.loop-place.invariant.count;
    alone = λ whole long whoms. alone_everyone whole _ c.loop-place-test.true c.index-list-place.is w.in-Everyone.is
        whoms refl w.with-everyone.ensures (c.loop-place.invariant.alone whole long whoms);
  })
]

pub returns-clause-granted : goal.returns-clause-granted
returns-clause-granted c = λ whole long whoms.
    alone_done whole c.loop-place-test.false (c.loop-place.invariant.alone whole long whoms)
