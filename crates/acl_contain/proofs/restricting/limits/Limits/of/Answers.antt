use Rattle.acl_normal.proofs.Common.{AllByRecursion, ArePlacings, List, Principal, ace, aces_in, arith, length, length-map, no_placing, refl, slice_index_or, subst, sym, ℕ, ◌<◌, ◌≡◌, ◌≤◌}
use Rattle.acl_normal.proofs.Each.{all_at}
use Rattle.acl_normal.proofs.Exports.{rows_within}
use Rattle.acl_normal.specs.declared.comparison.placing.Placing.{Placing}
use Rattle.acl_normal.specs.internal.comparison.PlaceTables.{IsPlacingWithin}
use Rattle.acl_contain.proofs.restricting.limits.Limits.of.Goals as goal
use Rattle.acl_contain.specs.declared.restricting.named.Named.{Named}
use Rattle.acl_contain.specs.internal.Limits.{bound_of}

-- the places of placings are within the longer of the two lists, also in a copy of them
within_longer : (n : Named) {ps : List Principal} {bit size : ℕ} {rows copy : List Placing}
    → length n.list.aces.items ≤ size → length n.bound.aces.items ≤ size → copy ≡ rows
    → ArePlacings ps (aces_in n.list.aces.items) (bound_of n) bit rows → AllByRecursion (IsPlacingWithin size) copy
within_longer n {ps} {bit} {size} {rows} first second same placed = subst (AllByRecursion (IsPlacingWithin size))
    (sym same) (rows_within ps (aces_in n.list.aces.items) (bound_of n) bit size rows
    (omega (arith, first, length-map n.list.aces.items ace))
    (omega (arith, second, length-map n.bound.aces.items ace)) placed.each)

pub denied_before-requires-clause-places : goal.denied_before-requires-clause-places
denied_before-requires-clause-places c = within_longer c.args.named.now
    (omega (arith, c.max-size.ensures, c.len.ensures)) (omega (arith, c.max-size.ensures, c.len-2.ensures))
    c.deref-2.ensures.value c.in_ok-placings.ensures

pub denied_before-requires-2-clause-places : goal.denied_before-requires-2-clause-places
denied_before-requires-2-clause-places c = within_longer c.args.named.now
    (omega (arith, c.max-size.ensures, c.len.ensures)) (omega (arith, c.max-size.ensures, c.len-2.ensures))
    c.deref-3.ensures.value c.in_ok-placings.ensures

pub invariant_of-result : goal.invariant_of-result
invariant_of-result c = record {
  tables = record {
    in_users = λ k l. omega (arith, (at k l).there, c.in_ok-users.ensures.count);
    in_others = λ k l. omega (arith, (at k l).there, c.in_ok-others.ensures.count);
  };
}
  where
    at : (k : ℕ) → k < length c.in_ok-placings.placings.items
        → IsPlacingWithin c.max-size.result (slice_index_or c.in_ok-placings.placings.items k no_placing)
    at k l = all_at (IsPlacingWithin c.max-size.result) c.in_ok-placings.placings.items k no_placing l
        (within_longer c.args.named.now (omega (arith, c.max-size.ensures, c.len.ensures))
        (omega (arith, c.max-size.ensures, c.len-2.ensures)) refl c.in_ok-placings.ensures)
