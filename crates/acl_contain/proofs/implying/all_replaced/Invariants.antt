use Rattle.std.specs.Prelude.{◌≡◌, take}
use Rattle.acl_normal.specs.internal.Shown.{aces_in}
use Rattle.acl_contain.specs.internal.RightReplaced.{all_replaced}
use Rattle.acl_contain.proofs.implying.all_replaced.Given as goal

-- the ACEs so far
abbrev pub invariant-loop-item : goal.invariant-loop-item
invariant-loop-item l =
    aces_in l.aces.items ≡ all_replaced l.right.bit l.others.bits (aces_in (take l.item-index l.list))
