use Rattle.acl_normal.proofs.comparison.evaluation.granted.Goals as goal
use Rattle.acl_normal.proofs.comparison.SetEvaluation.{loop_more}

pub loop-item-preserved : goal.loop-item-preserved
loop-item-preserved c = record {
  decides = loop_more _ c.loop-item-test.true c.item-item.is c.granted_anew.ensures
      c.union-granted.ensures.meaning c.union-decided.ensures.meaning c.own_rights-rights.ensures
      c.loop-item.invariant.decides;
  granted = c.union-granted.result.within;
  decided = c.union-decided.result.within;
}
