use Rattle.acl_normal.proofs.Common.{IfOk, replicate, subst, sym, unwrap_or, ◌≡◌}
use Rattle.acl_contain.proofs.Enumeration.{user_found, user_passed}
use Rattle.acl_contain.proofs.asking.user_in.Goals as goal

pub returns-in-Some : goal.returns-in-Some
returns-in-Some c = subst (λ o. IfOk c.from_slice.result (λ v. v.items ≡ unwrap_or o (replicate c.args.strange 0x75)))
    (sym (user_found c.args.set.now _ c.loop-p.p-index c.loop-p-test.true (sym c.in-Some.ensures)
    c.loop-p.invariant)) c.from_slice.ensures.items

pub loop-p-preserved : goal.loop-p-preserved
loop-p-preserved c = user_passed c.args.set.now _ c.loop-p.p-index c.loop-p-test.true (sym c.in_default.ensures)
    c.loop-p.invariant
