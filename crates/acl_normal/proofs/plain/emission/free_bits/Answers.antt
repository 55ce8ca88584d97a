use Rattle.acl_normal.proofs.Common.{ace, ace_key, arith, column, conflicts_before}
use Rattle.acl_normal.proofs.plain.Gathered.{blocks_gathered, free_more, union_more}
use Rattle.acl_normal.proofs.plain.emission.free_bits.Goals as goal

pub loop-other-preserved : goal.loop-other-preserved
loop-other-preserved c =
    let e = ace_key (ace c.args.item.now) in record {
      within = (c.union-free.result.within, c.union-blocked.result.within);
      blocked = union_more (λ list bit. conflicts_before (column list bit) e) (blocks_gathered e) _ _ _ _
          (omega arith) c.other-item.is c.loop-other.invariant.blocked c.own_conflict.ensures
          c.union-blocked.ensures.meaning;
      free = free_more e _ _ _ _ _ (omega arith) c.other-item.is c.loop-other.invariant.free
          c.loop-other.invariant.blocked c.own_free.ensures c.union-free.ensures.meaning;
    }
