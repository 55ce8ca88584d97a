use Rattle.acl_normal.proofs.Common.{ace, ace_key, ap, false_from_ne_true, has_bit, no_bit, one_bit, only_bit, subst, sym, true, ◌∙◌, ◌≡◌}
use Rattle.acl_normal.proofs.plain.FreeInRows.{free_is_right}
use Rattle.acl_normal.proofs.plain.by_rows.own_right.Goals as goal

pub returns-then-has_free-clause-here : goal.returns-then-has_free-clause-here
returns-then-has_free-clause-here c =
    let b = c.args.right.bit in
    let free = sym c.has_free.ensures ∙ c.if-has_free.true in
    ap (λ v. has_bit v b)
    (c.alone.ensures (free_is_right c.args.rows.now b (ace_key (ace c.args.item.now)) c.requires free))
    ∙ one_bit b ∙ sym free

pub returns-then-has_free-clause-others : goal.returns-then-has_free-clause-others
returns-then-has_free-clause-others c = λ bit other.
    let b = c.args.right.bit in
    let free = sym c.has_free.ensures ∙ c.if-has_free.true in
    false_from_ne_true _ (λ has. other (only_bit b bit
    (subst (λ v. has_bit v bit ≡ true)
    (c.alone.ensures (free_is_right c.args.rows.now b (ace_key (ace c.args.item.now)) c.requires free)) has)))

pub returns-clause-here : goal.returns-clause-here
returns-clause-here c = no_bit c.args.right.bit ∙ sym c.if-has_free.false ∙ c.has_free.ensures

pub returns-clause-others : goal.returns-clause-others
returns-clause-others c = λ bit other. no_bit bit
