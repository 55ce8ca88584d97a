use Rattle.acl_normal.proofs.Common.{ap, arith, column, first_at, IsOnce, principal, subst, sym, ◌∙◌}
use Rattle.std.proofs.lemmas.Bool.{leb-true, leb-false}
use Rattle.acl_normal.proofs.rows.FreeBits.{free_none, free_some, not_from}
use Rattle.acl_normal.proofs.merged.MergedRows.is_free_at.Goals as goal

pub returns-in-None : goal.returns-in-None
returns-in-None c =
    free_none c.args.self.now c.args.right.bit (principal c.args.p)
    (ap (first_at c.args.right.bit (principal c.args.p)) (sym c.self.view_is) ∙ sym c.source.ensures ∙ c.in-None.is)

pub returns-in-Some : goal.returns-in-Some
returns-in-Some c =
    let clear = rw c.of.ensures at c.last_clear.ensures.clear c.in-Some.place in
    let blocked = rw c.of.ensures at c.last_clear.ensures.blocked c.in-Some.place in
    free_some c.args.self.now c.args.right.bit (principal c.args.p) c.in-Some.kind c.in-Some.place _
    (subst (λ v. IsOnce (column v c.args.right.bit)) c.self.view_is (c.self.invariant.once c.args.right.bit))
    (ap (first_at c.args.right.bit (principal c.args.p)) (sym c.self.view_is) ∙ sym c.source.ensures ∙ c.in-Some.is)
    (not_from _ _ (λ t. clear (leb-true _ _ t))
    (λ f. blocked (leb-false _ _ f) (omega (arith, rw c.in-Some.is at c.source.type_inv))))
