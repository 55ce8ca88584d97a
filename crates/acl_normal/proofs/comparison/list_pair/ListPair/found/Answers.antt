use Rattle.acl_normal.proofs.comparison.FoundSoFar.{found_done, found_more, found_skip, nothing_found}
use Rattle.acl_normal.proofs.comparison.list_pair.ListPair.found.Goals as goal
use Rattle.acl_normal.proofs.comparison.list_pair.ListPair.found.Goals.{then-is_in+in_ok-next+else-is_before, then-is_in+in_ok-next+then-is_before, else-is_in}
use Rattle.acl_normal.proofs.Common.{bits_from_mask, refl, subst, sym, ◌∙◌, ◌≡◌}
use Rattle.acl_normal.specs.internal.comparison.FirstPair.{earlier_of}
use Rattle.acl_normal.specs.internal.comparison.TwoLists.{HaveSameColumn}

pub loop-bit-init : goal.loop-bit-init
loop-bit-init c = nothing_found c.nothing-found.ensures

pub found_on-requires-clause-right : goal.found_on-requires-clause-right
found_on-requires-clause-right c =
    bits_from_mask _ _ c.self.inside.apart.within (sym c.is_in.ensures ∙ c.if-is_in.true)

pub loop-bit-preserved : goal.loop-bit-preserved
loop-bit-preserved c =
    let old = c.loop-bit.found in
    elim c.if-is_in.branch [
      | then-is_in+in_ok-next+then-is_before w ↦
          let first : w.in_ok-next.next ≡ earlier_of old w.in_ok-next.next =
          rw (sym w.is_before.ensures ∙ w.if-is_before.true) refl in
          rw w.found-is (found_more
          (bits_from_mask _ _ c.self.inside.apart.within (sym c.is_in.ensures ∙ w.if-is_in.true))
          first c.loop-bit.invariant w.in_ok-next.ensures)
      | then-is_in+in_ok-next+else-is_before w ↦
          let first : old ≡ earlier_of old w.in_ok-next.next =
          rw (sym w.is_before.ensures ∙ w.if-is_before.false) refl in
          rw w.found-is (found_more
          (bits_from_mask _ _ c.self.inside.apart.within (sym c.is_in.ensures ∙ w.if-is_in.true))
          first c.loop-bit.invariant w.in_ok-next.ensures)
      | else-is_in w ↦ rw w.found-is (found_skip
          (subst (λ both. HaveSameColumn both c.loop-bit.bit) c.self.view_is
          (c.self.invariant.apart.same c.loop-bit.bit (sym c.is_in.ensures ∙ w.if-is_in.false)))
          c.loop-bit.invariant)
    ]

pub returns : goal.returns
returns c = found_done c.loop-bit-test.false c.loop-bit.invariant
