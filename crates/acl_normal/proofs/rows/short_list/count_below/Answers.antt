use Rattle.acl_normal.proofs.Common.{arith, false, is_lt, principal, principal_cmp, true, ◌≡◌}
use Rattle.acl_normal.proofs.rows.ShortListRows.{counted_more}
use Rattle.acl_normal.proofs.rows.short_list.count_below.Goals as goal
use Rattle.acl_normal.proofs.rows.short_list.count_below.Goals.{then-is_lt, else-is_lt}

pub loop-other-preserved : goal.loop-other-preserved
loop-other-preserved c =
    let all = c.args.principals.now in
    let i = c.loop-other.other-index in
    let h = c.other-item.result in
    let p = principal c.args.than.now.principal in
    elim c.if-is_lt.branch [
      | then-is_lt w ↦
          let less : is_lt (principal_cmp (principal h.principal) p) ≡ true =
          cc (c.compared.ensures, c.is_lt.ensures, w.if-is_lt.true) in
          record {
            counted = counted_more all i h p c.loop-other.count _ true (omega arith) c.other-item.is
                c.loop-other.invariant.counted less w.count-is;
            few = omega (arith, w.count-is, c.loop-other.invariant.few);
          }
      | else-is_lt w ↦
          let less : is_lt (principal_cmp (principal h.principal) p) ≡ false =
          cc (c.compared.ensures, c.is_lt.ensures, w.if-is_lt.false) in
          record {
            counted = counted_more all i h p c.loop-other.count _ false (omega arith) c.other-item.is
                c.loop-other.invariant.counted less w.count-is;
            few = omega (arith, w.count-is, c.loop-other.invariant.few);
          }
    ]
