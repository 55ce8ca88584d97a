use Rattle.std.proofs.Common.{arith, length, refl, ◌≡◌}
use Rattle.std.specs.List.{range_with_len}
use Rattle.std.proofs.lemmas.Iterator.{YieldsList-from_range, items_from_collect}
use Rattle.acl_normal.proofs.Common.{ace, aces_in, ap, IsByPrincipal, length-map, subst, sym, ◌∙◌}
use Rattle.acl_normal.specs.internal.rows.RowNumbers.{DoNotFall}
use Rattle.acl_normal.proofs.rows.RisingRows.{in_turn}
use Rattle.acl_normal.proofs.rows.numbers.row_numbers.Goals as goal

pub returns-in_ok-order-in-Some-clause-order : goal.returns-in_ok-order-in-Some-clause-order
returns-in_ok-order-in-Some-clause-order c =
    let xs = aces_in c.args.aces.now in
    let falls : DoNotFall xs = rw c.in-Some.is at c.in_ok-rows.ensures.order in
    let items : c.in_ok-order-in-Some.order.items ≡ range_with_len 0 (length c.args.aces.now) =
    rw c.in_ok-order-in-Some.was at (items_from_collect _ c.collect.ensures.ran
    (YieldsList-from_range 0 (length c.args.aces.now) (length c.args.aces.now) refl (omega arith))) in
    subst (IsByPrincipal xs)
    (ap (range_with_len 0) (length-map c.args.aces.now ace) ∙ sym items) (in_turn xs falls)
