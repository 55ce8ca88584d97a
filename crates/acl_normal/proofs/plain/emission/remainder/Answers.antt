use Rattle.acl_normal.proofs.Common.{Ace, ace, ap, cond, is_inherit_only, not, principal_eq, principal_of, sym, true, without, ◌&&◌, ◌∙◌, ◌≡◌}
use Rattle.acl_normal.proofs.unique.Bits.{difference_is}
use Rattle.acl_normal.proofs.plain.emission.remainder.Goals as goal

pub returns-then-is_same : goal.returns-then-is_same
returns-then-is_same c =
    let a = ace c.args.item.now in
    let first = c.args.first.now in
    let same : principal_eq (principal_of a) (principal_of (ace first)) ≡ true =
    rw (← c.principal.ensures, ← c.principal-then-takes_part.ensures) (sym c.is_same.ensures ∙ c.if-is_same.true) in
    let part : not (is_inherit_only a) ≡ true = sym c.takes_part.ensures ∙ c.if-takes_part.true in
    let left : Ace = record a { mask = without a.mask first.mask.bits } in
    ap (λ m. record a { mask = m }) (difference_is a.mask first.mask.bits c.difference.ensures.meaning)
    ∙ sym (ap (λ t. cond (t && not (is_inherit_only a)) left a) same ∙ ap (λ t. cond t left a) part)
