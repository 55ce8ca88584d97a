use Rattle.std.proofs.Common.{arith, refl, sym, ◌∙◌}
use Rattle.acl_normal.proofs.comparison.DifferingRightsLemmas.{alike_is, none_more, walk_both, walk_here, walk_there}
use Rattle.acl_normal.proofs.comparison.differing_rights.rights_apart.Goals as goal

pub loop-here-preserved-then-bits-eq0 : goal.loop-here-preserved-then-bits-eq0
loop-here-preserved-then-bits-eq0 c = record {
  walked = λ whole named others. walk_here whole _ c.loop-here-test.true c.index-list-here.is refl named
      c.open_statement-own.ensures.rights (none_more _ (sym c.bits.ensures.value ∙ c.if-bits-eq0.true))
      (c.loop-here.invariant.walked whole named others);
  apart = c.loop-here.invariant.apart;
  here = omega arith;
  there = c.loop-here.invariant.there;
}

pub loop-here-preserved-then-bits-eq0-2 : goal.loop-here-preserved-then-bits-eq0-2
loop-here-preserved-then-bits-eq0-2 c = record {
  walked = λ whole named others. walk_there whole _ c.if-there-other.true c.index-other-there.is refl
      others c.open_statement-theirs.ensures.rights
      (none_more _ (sym c.bits-else-bits-eq0.ensures.value ∙ c.if-bits-eq0-2.true))
      (c.loop-here.invariant.walked whole named others);
  apart = c.loop-here.invariant.apart;
  here = c.loop-here.invariant.here;
  there = omega arith;
}

pub loop-here-preserved-then-have_same_key : goal.loop-here-preserved-then-have_same_key
loop-here-preserved-then-have_same_key c =
    let same = alike_is c.open_statement-own.result c.open_statement-theirs.result
    (sym c.have_same_key.ensures ∙ c.if-have_same_key.true) in
    record {
      walked = λ whole named others. walk_both whole _ _ _ c.loop-here-test.true
          c.if-there-other.true c.index-list-here.is c.index-other-there.is refl refl named others
          c.open_statement-own.ensures.rights c.open_statement-theirs.ensures.rights c.differing.ensures
          c.union-apart.ensures.meaning
          (sym c.open_statement-own.ensures.whom ∙ same.whom ∙ c.open_statement-theirs.ensures.whom)
          (sym c.open_statement-own.ensures.kind ∙ same.kind ∙ c.open_statement-theirs.ensures.kind)
          (c.loop-here.invariant.walked whole named others);
      apart = c.union-apart.result.within;
      here = omega arith;
      there = omega arith;
    }

pub loop-here-preserved-then-steps_to : goal.loop-here-preserved-then-steps_to
loop-here-preserved-then-steps_to c = record {
  walked = λ whole named others. walk_there whole _ c.if-there-other.true c.index-other-there.is refl
      others c.open_statement-theirs.ensures.rights c.union-apart-then-steps_to.ensures.meaning
      (c.loop-here.invariant.walked whole named others);
  apart = c.union-apart-then-steps_to.result.within;
  here = c.loop-here.invariant.here;
  there = omega arith;
}

pub loop-here-preserved : goal.loop-here-preserved
loop-here-preserved c = record {
  walked = λ whole named others. walk_here whole _ c.loop-here-test.true c.index-list-here.is refl named
      c.open_statement-own.ensures.rights c.union-apart-else-steps_to.ensures.meaning
      (c.loop-here.invariant.walked whole named others);
  apart = c.union-apart-else-steps_to.result.within;
  here = omega arith;
  there = c.loop-here.invariant.there;
}
