use Rattle.acl_normal.proofs.comparison.evaluation.rights_of.Goals as goal
use Rattle.acl_normal.proofs.comparison.SetEvaluation.{covers_more}

pub loop-item-preserved : goal.loop-item-preserved
loop-item-preserved c = record {
  covers = covers_more c.loop-item-test.true c.item-item.is c.union-rights.ensures.meaning
      c.loop-item.invariant.covers;
  rights = c.union-rights.result.within;
}
