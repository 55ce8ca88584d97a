use Rattle.acl_normal.proofs.Common.{ace, aces_in, principal_of, take, take_out, ◌≡◌}
use Rattle.acl_normal.proofs.plain.emission.without.Given as goal

-- of the ACEs so far, what is not taken is left
abbrev pub invariant-loop-item : goal.invariant-loop-item
invariant-loop-item l = aces_in l.rest.items
    ≡ take_out (principal_of (ace l.first)) l.first.mask.bits (aces_in (take l.item-index l.left))
