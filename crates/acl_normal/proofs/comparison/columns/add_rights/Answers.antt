use Rattle.acl_normal.proofs.Common.{arith, Nobody, refl, slice_index_or, slice_set, subst, sym, vec_len}
use Rattle.acl_normal.proofs.comparison.RightsByNumber.{add_at, adds_none, adds_one, whom_in}
use Rattle.acl_normal.proofs.comparison.columns.add_rights.Goals as goal
use Rattle.acl_normal.proofs.comparison.columns.add_rights.Goals.{in-One, in_default}
use Rattle.acl_normal.specs.internal.comparison.Columns.{AddsTo}
use Rattle.acl_normal.specs.internal.comparison.FirstPlaces.{IsWhomWithin}

pub index-requires : goal.index-requires
index-requires c =
    subst (λ w. IsWhomWithin w (vec_len c.loop-place.rights)) c.in-One.is
    (whom_in c.args.whoms.now (omega (arith, c.loop-place.invariant.count))
    (omega (arith, c.requires.whoms, c.loop-place-test.true)) c.requires.within)

pub loop-place-preserved : goal.loop-place-preserved
loop-place-preserved c =
    let whom = slice_index_or c.args.whoms.now c.loop-place.place Nobody in
    let more = c.index-list-place.result.mask.bits in
    let within : IsWhomWithin whom (vec_len c.loop-place.rights) =
    whom_in c.args.whoms.now (omega (arith, c.loop-place.invariant.count))
    (omega (arith, c.requires.whoms, c.loop-place-test.true)) c.requires.within in
    let old = c.loop-place.rights.items in
    let added : AddsTo whom more old c.match-whoms-place.rights.items =
    elim c.match-whoms-place.branch [
      | in-One w ↦ rw w.rights-is
          (subst (λ v. AddsTo v more old (slice_set old w.in-One.number w.union-all.result)) (sym w.in-One.is)
          (adds_one w.union-all.result
          (omega (
            arith,
            subst (λ v. IsWhomWithin v (vec_len c.loop-place.rights)) w.in-One.is within,
            c.loop-place.rights.ok.0,
          )) w.index.ensures w.union-all.ensures.meaning refl))
      | in_default w ↦ rw w.rights-is (adds_none whom w.in_default.not-One)
    ] in
    add_at _ _ c.loop-place-test.true c.index-list-place.is added c.loop-place.invariant
