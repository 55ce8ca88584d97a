-- A call that exchanges names, as the code makes it (this library's own; only the code needs it).
use Rattle.std.specs.Prelude.{◌≡◌, ⊤, ℕ, Bool, List, Result, Ok, Err}
use Rattle.std.specs.Global.{Vec}
use Rattle.acl_perm.specs.Profile.{Profile}
use Rattle.acl_nfs4.specs.Renamed.{rows}
use Rattle.acl_nfs4.specs.declared.list.renaming.RenameFault.{RenameFault}
use Rattle.acl_nfs4.specs.declared.list.renaming.RenameFault.TheVariants as fault
use Rattle.acl_nfs4.specs.declared.list.renaming.Renaming.{Renaming}
use Rattle.aclck_c.specs.Refusal.{merged}
use Rattle.aclck_c.specs.Renaming.{AreRenamings, IsRefusedRenaming, IsRenamingTable, rows_from}
use Rattle.aclck_c.specs.declared.failure.Failure.{Failure}
use Rattle.aclck_c.specs.declared.failure.Failure.TheVariants as failure
use Rattle.aclck_c.specs.declared.nfs4.renamed.RawRenaming.{RawRenaming}
use Rattle.aclck_c.specs.internal.Failures.{IsFailure}

-- the failure of names that are not exchanged
abbrev pub of_rename_fault : RenameFault → Failure
of_rename_fault (fault.Row place) = failure.BadArgument
of_rename_fault (fault.Merged place) = failure.Refused (merged place)
of_rename_fault fault.Memory = failure.Memory

-- a row of the table is refused, the bytes or the names are refused, or memory ran out
abbrev pub IsRenamingFailure : Profile → Bool → List ℕ → List RawRenaming → Failure → Type 0
IsRenamingFailure p may_merge bytes table =
    IsFailure (IsRenamingTable table) (IsRefusedRenaming p may_merge bytes table) ⊤

-- the rows that a call reads from a table, or that there are none
abbrev pub ReadsRows : List RawRenaming → Result (Vec Renaming) Failure → Type 0
ReadsRows table (Ok all) = AreRenamings table × (rows all.items ≡ rows_from table)
ReadsRows table (Err failure.BadArgument) = AreRenamings table → ⊥
ReadsRows table (Err (failure.Refused shown)) = ⊥
ReadsRows table (Err failure.Memory) = ⊤
