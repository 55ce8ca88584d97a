use Rattle.acl_normal.proofs.Common.{arith, principal, sym, ◌∙◌}
use Rattle.acl_normal.proofs.rows.Publics.{NoneFree, none_free_absent, none_free_more, free_nowhere}
use Rattle.acl_normal.proofs.merged.MergedRows.is_free.Goals as goal
use Rattle.acl_normal.proofs.unique.NextRight.{past_absent}

pub loop-right-preserved : goal.loop-right-preserved
loop-right-preserved c =
    let next = c.in-Some.ensures.some in record {
      none = none_free_more c.args.self.now (principal c.args.p) c.args.bits.bits c.in-Some.right.bit
          (past_absent (NoneFree c.args.self.now (principal c.args.p) c.args.bits.bits) c.args.bits.bits
          c.loop-right.from c.in-Some.right.bit
          (none_free_absent c.args.self.now (principal c.args.p) c.args.bits.bits) next.above next.lacks
          c.loop-right.invariant.none)
          (λ has. sym c.is_free_at.ensures ∙ c.if-is_free_at.false);
      within = omega (arith, c.in-Some.right.within);
    }

pub returns : goal.returns
returns c =
    free_nowhere c.args.self.now (principal c.args.p) c.args.bits.bits c.args.bits.within
    (past_absent (NoneFree c.args.self.now (principal c.args.p) c.args.bits.bits) c.args.bits.bits c.loop-right.from 21
    (none_free_absent c.args.self.now (principal c.args.p) c.args.bits.bits) c.loop-right.invariant.within
    c.in_default.ensures.none c.loop-right.invariant.none)
