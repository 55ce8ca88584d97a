-- Faults of names, of lists and of names without an id are failures of a call over all three.
use Rattle.std.proofs.Common.{ℕ, List, Err, inl, inr, refl}
use Rattle.acl_perm.specs.Profile.{Profile}
use Rattle.acl_posix.specs.Names.{Table, empty_table}
use Rattle.acl_nfs4.specs.Ace.{Ace}
use Rattle.acl_nfs4.specs.Fault.{IsWholeFault}
use Rattle.acl_nfs4.specs.Spelling.{Xdr}
use Rattle.acl_nfs4.specs.declared.xdr.fault.Fault.{Fault}
use Rattle.acl_ids.specs.Ids.{IsIdsFault}
use Rattle.acl_ids.specs.declared.id_names.IdsFault.{IdsFault}
use Rattle.acl_ids.specs.declared.id_names.IdsFault.TheVariants as faults
use Rattle.aclck_c.specs.Names.{AreNames, names_added}
use Rattle.aclck_c.specs.declared.failure.Failure.{Failure}
use Rattle.aclck_c.specs.declared.failure.Failure.TheVariants as failure
use Rattle.aclck_c.specs.declared.posix.names.RawName.{RawName}
use Rattle.aclck_c.specs.internal.Failures.{ReadsTable, of_list_fault}
use Rattle.aclck_c.specs.internal.IdFailures.{IsIdsFailure, of_ids}
use Rattle.aclck_c.proofs.FileFailures.{good_names, no_table}

-- what is refused of the names
pub names_failure : (p : Profile) (bytes : List ℕ) (names : List RawName) (f : Failure)
    → ReadsTable (names_added empty_table names) (Err f) → IsIdsFailure p bytes names f
names_failure p bytes names failure.BadArgument h = no_table names h
names_failure p bytes names (failure.Refused shown) h = absurd h
names_failure p bytes names failure.Memory h = h

-- the fault of the bytes
pub list_failure : (p : Profile) (bytes : List ℕ) (names : List RawName) (table : Table) (f : Fault)
    → AreNames names table → IsWholeFault p bytes f.offset f.reason → IsIdsFailure p bytes names (of_list_fault f)
list_failure p bytes names table f named has = record {
  named = good_names names table named;
  refused = inl (record { offset = f.offset; reason = f.reason; has = has; is = refl });
}

-- the first name without an id
pub unknown_failure : (p : Profile) (bytes : List ℕ) (names : List RawName) (table : Table) (list : List Ace)
    (f : IdsFault) → AreNames names table → Xdr p list bytes → IsIdsFault table list f
    → IsIdsFailure p bytes names (of_ids f)
unknown_failure p bytes names table list (faults.UnknownName place) named spelled unknown = record {
  named = good_names names table named;
  refused = inr (record {
    table = table;
    list = list;
    place = place;
    named = named;
    spelled = spelled;
    unknown = unknown;
    is = refl;
  });
}
unknown_failure p bytes names table list faults.Memory named spelled known = tt
