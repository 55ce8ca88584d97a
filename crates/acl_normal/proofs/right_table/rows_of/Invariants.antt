use Rattle.acl_normal.proofs.Common.{Ace, All, AreRows, emitted_ace, emitted_aces, HasKey, HasFirstPlaces, List, map, of_borrowed, AreInRows, take, with_bit}
use Rattle.acl_normal.proofs.right_table.rows_of.Given as goal

-- the rows of the ACEs so far, whatever list has these places
abbrev pub invariant-loop-item : goal.invariant-loop-item
invariant-loop-item l = (list : List Ace) → HasFirstPlaces l.right.bit list l.places → AreInRows list l.form
    → All (λ e. HasKey l.right.bit list (emitted_ace e)) l.form
    → AreRows l.right.bit list (with_bit l.right.bit (emitted_aces (take l.item-index l.form)))
    (map of_borrowed l.table.items)
