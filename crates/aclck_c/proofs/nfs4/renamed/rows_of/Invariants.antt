use Rattle.std.proofs.Common.{◌≡◌, take}
use Rattle.acl_nfs4.specs.Renamed.{rows}
use Rattle.aclck_c.specs.Renaming.{rows_from}
use Rattle.aclck_c.proofs.nfs4.renamed.rows_of.Given as goal

-- the rows so far
abbrev pub invariant-loop-row : goal.invariant-loop-row
invariant-loop-row l = rows l.all.items ≡ rows_from (take l.row-index l.table)
