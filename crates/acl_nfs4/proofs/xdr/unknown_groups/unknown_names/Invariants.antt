use Rattle.acl_nfs4.proofs.Common.{take}
use Rattle.acl_nfs4.specs.internal.PartReading.{HasUnknownNames}
use Rattle.acl_nfs4.proofs.xdr.unknown_groups.unknown_names.Given as goal

-- the names are those of the ACEs so far
abbrev pub invariant-loop-item : goal.invariant-loop-item
invariant-loop-item l = HasUnknownNames l.names (take l.item-index l.aces)
