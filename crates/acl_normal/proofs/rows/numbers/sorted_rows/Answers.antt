use Rattle.std.proofs.Common.{◌≡◌, map}
use Rattle.std.proofs.lemmas.Fn.{always_returns_same}
use Rattle.std.proofs.lemmas.List.Sorted.{ranks_by}
use Rattle.acl_normal.specs.internal.rows.RowNumbers.{AreSorted, tail_here}
use Rattle.acl_normal.proofs.rows.SortedPlaces.{head_cmp, head_total, sorted_by_principal, sorted_names}
use Rattle.acl_normal.proofs.rows.numbers.sorted_rows.Goals as goal
use Rattle.acl_normal.proofs.rows.numbers.sorted_rows.Goals.{After-sort_unstable_by}
use Rattle.acl_normal.proofs.Common.{aces_in, ap, is_lt, IsByPrincipal, rules, subst, sym, ◌∙◌}

-- the places in the order of the principals
sorted : (c : After-sort_unstable_by) → AreSorted (aces_in c.args.aces.now) c.sort_unstable_by.new.self.items
sorted c =
    let xs = aces_in c.args.aces.now in
    sorted_names xs c.in_ok-sorted.sorted.items c.sort_unstable_by.new.self.items
    c.in_ok-sorted.ensures c.sort_unstable_by.ensures.permutation
    (c.sort_unstable_by.ensures.sorted
    (λ a b. is_lt (head_cmp (a.head, tail_here xs a) (b.head, tail_here xs b)))
    (ranks_by head_total (λ n. (n.head, tail_here xs n)))
    (always_returns_same _
    (λ a r. is_lt r ≡ is_lt (head_cmp (a.0.now.head, tail_here xs a.0.now)
    (a.1.0.now.head, tail_here xs a.1.0.now)))
    _ (λ a r f' k. search rules)))

pub rows_of-requires : goal.rows_of-requires
rows_of-requires c =
    subst (AreSorted (aces_in c.args.aces.now)) (sym c.deref.ensures.value)
    (sorted (goal.at.rows_of-requires c).After-sort_unstable_by)

pub returns-clause-order : goal.returns-clause-order
returns-clause-order c =
    subst (IsByPrincipal (aces_in c.args.aces.now))
    (sym (c.in_ok-order.ensures ∙ ap (map (λ n. n.place)) c.deref-2.ensures.value))
    (sorted_by_principal (aces_in c.args.aces.now) c.sort_unstable_by.new.self.items
    (sorted (goal.at.returns-clause-order c).After-sort_unstable_by))
