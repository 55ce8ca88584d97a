use Rattle.acl_normal.proofs.Common.{aces_in, ArePlacings, principals, take}
use Rattle.acl_normal.proofs.comparison.columns.placings.Given as goal

abbrev pub invariant-loop-i : goal.invariant-loop-i
invariant-loop-i l = ArePlacings (principals (take l.i l.named)) (aces_in l.fn.first.aces.items)
    (aces_in l.fn.second.aces.items) l.fn.right.bit l.placings.items
