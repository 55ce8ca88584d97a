use Rattle.acl_normal.proofs.Common.{arith, everyone}
use Rattle.acl_normal.specs.internal.Best.{is_shadowed}
use Rattle.acl_normal.proofs.plain.Gathered.{default_allows_more, shadows_gathered, union_more}
use Rattle.acl_normal.proofs.plain.reduction.allowed_to_everyone.Goals as goal

pub loop-item-preserved : goal.loop-item-preserved
loop-item-preserved c = record {
  within = (c.union-allowed.result.within, c.union-seen.result.within);
  seen = union_more (is_shadowed everyone) (shadows_gathered everyone) _ _ _ _ (omega arith) c.item-item.is
      c.loop-item.invariant.seen c.own_shadow.ensures c.union-seen.ensures.meaning;
  allowed = default_allows_more _ _ _ _ _ (omega arith) c.item-item.is c.loop-item.invariant.allowed
      c.loop-item.invariant.seen c.own_allowed.ensures c.union-allowed.ensures.meaning;
}
