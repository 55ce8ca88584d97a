use Rattle.std.proofs.Common.{◌≡◌, List}
use Rattle.acl_normal.proofs.Common.{Ace, AceRef, aces_in, ap, Inside, IsRemaining, nothing_left, remaining_of, sym, ◌∙◌}
use Rattle.acl_normal.proofs.emit.InRemaining.{outline_of}
use Rattle.acl_normal.proofs.rows.remaining.Remaining.row_named.Goals as goal
use Rattle.acl_normal.proofs.rows.RowsAlike.{found_row, missed_row, order_alike, rows_alike}

pub find_row-requires-clause-rows : goal.find_row-requires-clause-rows
find_row-requires-clause-rows c =
    let s = c.self.inside in
    rw (c.deref.ensures.value, c.deref-2.ensures.value) (rows_alike (remaining_of s) (aces_in s.aces.items) s.rows.items
    (outline_of s c.self.invariant) c.self.invariant.list.rows)

pub find_row-requires-clause-order : goal.find_row-requires-clause-order
find_row-requires-clause-order c =
    let s = c.self.inside in
    rw (c.deref.ensures.value, c.deref-3.ensures.value) (order_alike (remaining_of s) (aces_in s.aces.items)
    s.order.items (outline_of s c.self.invariant) c.self.invariant.list.order)

-- the ACEs have the outline of what is left
outline_seen : (s : Inside) (aces : List AceRef) (list : List Ace) → IsRemaining s → aces ≡ s.aces.items
    → remaining_of s ≡ list → nothing_left (aces_in aces) ≡ nothing_left list
outline_seen s aces list right e is =
    ap (λ v. nothing_left (aces_in v)) e ∙ sym (outline_of s right) ∙ ap nothing_left is

pub returns-clause-found : goal.returns-clause-found
returns-clause-found c =
    found_row _ _ c.args.self.now c.find_row.result
    (outline_seen c.self.inside _ _ c.self.invariant c.deref.ensures.value c.self.view_is)
    c.find_row.ensures.found

pub returns-clause-missing : goal.returns-clause-missing
returns-clause-missing c =
    missed_row _ _ c.args.self.now c.find_row.result
    (outline_seen c.self.inside _ _ c.self.invariant c.deref.ensures.value c.self.view_is)
    c.find_row.ensures.missing
