use Rattle.acl_normal.proofs.Common.{ace, arith, column, has_opposite, principal_of}
use Rattle.acl_normal.proofs.plain.Gathered.{union_more, opposites_gathered}
use Rattle.acl_normal.proofs.plain.reduction.opposite.Goals as goal

pub loop-other-preserved : goal.loop-other-preserved
loop-other-preserved c =
    let p = principal_of (ace c.args.item.now) in record {
      within = c.union-bits.result.within;
      marks = union_more (λ list bit. has_opposite c.args.item.now.kind p (column list bit))
          (opposites_gathered c.args.item.now.kind p) _ _ _ _
          (omega arith) c.other-item.is c.loop-other.invariant.marks c.own_opposite.ensures
          c.union-bits.ensures.meaning;
    }
