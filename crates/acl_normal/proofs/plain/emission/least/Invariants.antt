use Rattle.acl_normal.proofs.Common.{ace, aces_in, option_map, take}
use Rattle.acl_normal.specs.internal.Best.{Best}
use Rattle.acl_normal.proofs.plain.emission.least.Given as goal

-- the best of the ACEs so far
abbrev pub invariant-loop-item : goal.invariant-loop-item
invariant-loop-item l = Best (aces_in l.left) (aces_in (take l.item-index l.left)) (option_map ace l.best)
