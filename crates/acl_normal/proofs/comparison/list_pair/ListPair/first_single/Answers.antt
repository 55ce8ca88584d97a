use Rattle.acl_normal.proofs.Common.{aces_in, all_mentioned, ap, arith, cases_eq, inl, inr, length, principals, subst, sym, TwoLists, ◌∙◌}
use Rattle.acl_normal.proofs.comparison.FirstPlaceLemmas.{whoms_length}
use Rattle.acl_normal.proofs.comparison.GrantedAloneLemmas.{single_same, single_unlike, singles_differing}
use Rattle.acl_normal.proofs.comparison.RightsByNumber.{whoms_within}
use Rattle.acl_normal.proofs.comparison.list_pair.ListPair.first_single.Goals as goal
use Rattle.acl_normal.specs.internal.comparison.FirstPlaces.{OnAll}
use Rattle.acl_normal.specs.internal.comparison.TwoLists.{AlikeToOne}

pub of-requires-clause-whoms : goal.of-requires-clause-whoms
of-requires-clause-whoms c = whoms_length (principals c.self.inside.mentioned.now) _ _ c.self.invariant.first_whoms

pub of-requires-2-clause-whoms : goal.of-requires-2-clause-whoms
of-requires-2-clause-whoms c = whoms_length (principals c.self.inside.mentioned.now) _ _ c.self.invariant.second_whoms

pub of-requires-clause-within : goal.of-requires-clause-within
of-requires-clause-within c = whoms_within (principals c.self.inside.mentioned.now) (aces_in c.self.inside.first.now)
    c.self.inside.first_whoms.now
    (c.count-count.ensures
    ∙ sym (ap length (c.self.invariant.mentioned ∙ ap all_mentioned c.self.view_is))) c.self.invariant.first_whoms

pub of-requires-2-clause-within : goal.of-requires-2-clause-within
of-requires-2-clause-within c = whoms_within (principals c.self.inside.mentioned.now)
    (aces_in c.self.inside.second.now) c.self.inside.second_whoms.now
    (c.count-count.ensures
    ∙ sym (ap length (c.self.invariant.mentioned ∙ ap all_mentioned c.self.view_is))) c.self.invariant.second_whoms

pub returns-then-bits-ne0 : goal.returns-then-bits-ne0
returns-then-bits-ne0 c = record {
  within = omega (arith, c.loop-number-test.true, c.count-count.ensures);
  before = c.loop-number.invariant;
  at = λ _. single_unlike c.args.self.now c.loop-number.number c.differing.result.within
      (singles_differing c.args.self.now c.self.inside.first_whoms.now c.self.inside.second_whoms.now c.to.result.bits
      c.to-in-loop-number.result.bits (ap (λ (both : TwoLists). both.first) c.self.view_is)
      (ap (λ (both : TwoLists). both.second) c.self.view_is)
      (c.self.invariant.mentioned ∙ ap all_mentioned c.self.view_is) c.count-count.ensures c.loop-number-test.true
      c.in_ok-here.ensures.count c.in_ok-there.ensures.count c.in_ok-here.ensures.granted
      c.in_ok-there.ensures.granted c.self.invariant.first_whoms c.self.invariant.second_whoms c.to.ensures
      c.to-in-loop-number.ensures c.differing.ensures)
      (λ e. c.if-bits-ne0.true (c.bits.ensures.value ∙ e));
}

pub loop-number-preserved : goal.loop-number-preserved
loop-number-preserved c = λ k l. elim (cases_eq k c.loop-number.number) [
  | inl e ↦ subst (λ v. OnAll (AlikeToOne c.args.self.now) v) (sym e)
      (single_same c.args.self.now c.loop-number.number c.differing.result.within
      (singles_differing c.args.self.now c.self.inside.first_whoms.now c.self.inside.second_whoms.now c.to.result.bits
      c.to-in-loop-number.result.bits (ap (λ (both : TwoLists). both.first) c.self.view_is)
      (ap (λ (both : TwoLists). both.second) c.self.view_is)
      (c.self.invariant.mentioned ∙ ap all_mentioned c.self.view_is) c.count-count.ensures c.loop-number-test.true
      c.in_ok-here.ensures.count c.in_ok-there.ensures.count c.in_ok-here.ensures.granted
      c.in_ok-there.ensures.granted c.self.invariant.first_whoms c.self.invariant.second_whoms c.to.ensures
      c.to-in-loop-number.ensures c.differing.ensures)
      (sym c.bits.ensures.value ∙ c.if-bits-ne0.false))
  | inr n ↦ c.loop-number.invariant k (omega (arith, l, n))
]
