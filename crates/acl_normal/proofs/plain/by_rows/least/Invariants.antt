use Rattle.acl_normal.proofs.Common.{ace, option_map, take}
use Rattle.acl_normal.specs.internal.Best.{Best}
use Rattle.acl_normal.proofs.plain.by_rows.least.Given as goal

-- the best of the ACEs so far
abbrev pub invariant-loop-item : goal.invariant-loop-item
invariant-loop-item l = Best l.rows (take l.item-index l.rows) (option_map ace l.best)
