use Rattle.acl_nfs4.proofs.Common.{ace, map, take, ◌≡◌}
use Rattle.acl_nfs4.proofs.list.build.list_of.Given as goal

-- the list has the ACEs so far
abbrev pub invariant-loop-item : goal.invariant-loop-item
invariant-loop-item l = l.list ≡ map ace (take l.item-index l.aces)
