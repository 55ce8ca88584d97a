use Rattle.acl_nfs4.specs.internal.NameMap.{name_for}
use Rattle.acl_nfs4.proofs.list.RenamingTable.{IsReading}
use Rattle.acl_nfs4.proofs.list.renaming.names_of.Given as goal

-- the names are those of the rows before the place, and these rows are good
abbrev pub invariant-loop-place : goal.invariant-loop-place
invariant-loop-place l = IsReading (name_for l.names) l.place l.table
