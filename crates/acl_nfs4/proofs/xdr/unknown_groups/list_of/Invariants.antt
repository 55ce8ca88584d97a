use Rattle.acl_nfs4.proofs.Common.{ace, map, take, ◌≡◌}
use Rattle.acl_nfs4.specs.UnknownGroups.{with_groups}
use Rattle.acl_nfs4.proofs.xdr.unknown_groups.list_of.Given as goal

-- the list has the ACEs so far, with groups
abbrev pub invariant-loop-item : goal.invariant-loop-item
invariant-loop-item l = l.list ≡ with_groups l.suffix (map ace (take l.item-index l.aces))
