use Rattle.acl_normal.proofs.Common.{refl}
use Rattle.acl_normal.proofs.comparison.evaluation.granted_to.Goals as goal
use Rattle.acl_normal.proofs.comparison.DifferingRightsLemmas.{is_whom_at}
use Rattle.acl_normal.proofs.comparison.MembersFacts.{matched_bits}
use Rattle.acl_normal.proofs.comparison.SetEvaluation.{loop_more}

pub loop-place-preserved : goal.loop-place-preserved
loop-place-preserved c = record {
  decides = λ whole named set. loop_more _ c.loop-place-test.true c.index-list-place.is
      c.granted_anew.ensures c.union-granted.ensures.meaning c.union-decided.ensures.meaning
      (matched_bits whole _
      (is_whom_at whole _ _ c.loop-place-test.true c.index-list-place.is refl named) set
      c.rights_matched-rights.ensures) (c.loop-place.invariant.decides whole named set);
  granted = c.union-granted.result.within;
  decided = c.union-decided.result.within;
}
