use Rattle.std.specs.Prelude.{◌≡◌, take}
use Rattle.acl_normal.specs.Common.{aces_in}
use Rattle.acl_contain.proofs.restricting.written.Given as goal

-- the list of the ACEs so far
abbrev pub invariant-loop-item : goal.invariant-loop-item
invariant-loop-item l = l.list ≡ aces_in (take l.item-index l.aces)
