use Rattle.acl_contain.proofs.joins.Starting.{are_numbers}
use Rattle.acl_contain.specs.internal.Joining.{ArePrincipalNumbers, IsKeptAce, number_of}
use Rattle.acl_normal.proofs.Common.{AreWhoms, aces_in, ap, append-nil, arith, length, length-map, map, principal, principals, subst, sym, take_all, ◌+◌, ◌∙◌, ◌≡◌}
use Rattle.acl_normal.proofs.Each.{all_at}
use Rattle.acl_contain.proofs.tidying.numbers.Numbers.of.Goals as goal

pub returns-clause-numbers : goal.returns-clause-numbers
returns-clause-numbers c =
    let list = aces_in c.args.aces.now in
    let found = c.in_ok-mentions.mentions in
    let ps = principals found.principals.items in
    let ws = found.whoms.items in
    let numbers = c.loop-whom.numbers.items in
    let count : length ps ≡ c.len-others.result = omega (
      arith,
      c.len-others.ensures,
      found.principals.ok,
      length-map found.principals.items principal,
    ) in
    let whole : numbers ≡ map (number_of (length ps)) ws =
    c.loop-whom.invariant
    ∙ ap (map (number_of c.len-others.result)) (take_all c.loop-whom.whom-index c.deref-whom-items.result.now
    c.loop-whom-test.false ∙ c.deref-whom-items.ensures.value)
    ∙ ap (λ n. map (number_of n) ws) (sym count) in
    subst (λ n. ArePrincipalNumbers list (n + 1) numbers) count
    (are_numbers list ps ws numbers
    (λ i l. (all_at (IsKeptAce list) list i _ l c.requires.each).flags)
    (subst (λ v. AreWhoms ps v ws) (append-nil list) c.in_ok-mentions.ensures.whoms) whole)
