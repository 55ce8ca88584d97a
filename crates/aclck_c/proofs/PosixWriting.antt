-- Faults of names, of entries and of forms that cannot hold them are failures of a call over all three.
use Rattle.std.proofs.Common.{Err, List, inl, inr}
use Rattle.acl_posix.specs.Names.{empty_table}
use Rattle.acl_posix.specs.Entries.{Entries}
use Rattle.acl_posix.specs.declared.raw_entry.RawEntry.{RawEntry}
use Rattle.aclck_c.specs.Entries.{HoldEntries}
use Rattle.aclck_c.specs.Names.{AreGoodNames, names_added, names_of_ids}
use Rattle.aclck_c.specs.declared.failure.Failure.{Failure}
use Rattle.aclck_c.specs.declared.failure.Failure.TheVariants as failure
use Rattle.aclck_c.specs.declared.posix.names.RawName.{RawName}
use Rattle.aclck_c.specs.declared.posix.written.WrittenForm.{WrittenForm}
use Rattle.aclck_c.specs.internal.Failures.{AreFailure, ReadsIdNames}
use Rattle.aclck_c.specs.internal.FormFailures.{IsPosixHoldingFailure, IsWritingFailure}
use Rattle.aclck_c.proofs.FileFailures.{no_table}

-- what is refused of the names
pub names_failure : (form : WrittenForm) (names : List RawName) (raws : List RawEntry) (f : Failure)
    → ReadsIdNames (names_added empty_table names) (names_of_ids names) (Err f) → IsWritingFailure form names raws f
names_failure form names raws failure.BadArgument h = no_table names h
names_failure form names raws (failure.Refused shown) h = absurd h
names_failure form names raws failure.Memory h = h

-- what is refused of the entries, with names that make a table
pub entries_failure : (form : WrittenForm) (names : List RawName) (raws : List RawEntry) (f : Failure)
    → AreGoodNames names → AreFailure raws f → IsWritingFailure form names raws f
entries_failure form names raws failure.BadArgument named h = absurd (h tt)
entries_failure form names raws (failure.Refused shown) named h = record { named = named; refused = inl h }
entries_failure form names raws failure.Memory named h = h

-- the form cannot hold the entries, or memory ran out
pub holding_failure : (form : WrittenForm) (names : List RawName) (raws : List RawEntry) (acl : Entries) (f : Failure)
    → AreGoodNames names → HoldEntries raws acl → IsPosixHoldingFailure form (names_of_ids names) acl f
    → IsWritingFailure form names raws f
holding_failure form names raws acl failure.BadArgument named holds h = absurd (h tt)
holding_failure form names raws acl (failure.Refused shown) named holds h =
    record { named = named; refused = inr (record { acl = acl; holds = holds; why = h }) }
holding_failure form names raws acl failure.Memory named holds h = h
