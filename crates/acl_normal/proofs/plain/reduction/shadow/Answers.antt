use Rattle.acl_normal.proofs.Common.{arith, principal}
use Rattle.acl_normal.specs.internal.Best.{is_shadowed}
use Rattle.acl_normal.proofs.plain.Gathered.{union_more, shadows_gathered}
use Rattle.acl_normal.proofs.plain.reduction.shadow.Goals as goal

pub loop-item-preserved : goal.loop-item-preserved
loop-item-preserved c = record {
  within = c.union-bits.result.within;
  marks = union_more (is_shadowed (principal c.args.of)) (shadows_gathered (principal c.args.of)) _ _ _ _
      (omega arith) c.item-item.is c.loop-item.invariant.marks c.own_shadow.ensures c.union-bits.ensures.meaning;
}
