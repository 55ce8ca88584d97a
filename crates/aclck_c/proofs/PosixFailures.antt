-- Faults of names, of lists and of lists without a POSIX ACL are failures of a call over all three.
use Rattle.std.proofs.Common.{ℕ, List, Err, inl, inr, refl}
use Rattle.acl_perm.specs.Profile.{full}
use Rattle.acl_posix.specs.Names.{Table, empty_table}
use Rattle.acl_nfs4.specs.Ace.{Ace}
use Rattle.acl_nfs4.specs.Fault.{IsWholeFault}
use Rattle.acl_nfs4.specs.Spelling.{Xdr}
use Rattle.acl_nfs4.specs.declared.xdr.fault.Fault.{Fault}
use Rattle.acl_to_posix.specs.PosixOfList.{IsToPosixFault}
use Rattle.acl_to_posix.specs.declared.posix_shape.ShapeFault.{ShapeFault}
use Rattle.acl_to_posix.specs.declared.posix_shape.ShapeFault.TheVariants as shape
use Rattle.aclck_c.specs.Names.{AreNames, names_added}
use Rattle.aclck_c.specs.declared.failure.Failure.{Failure}
use Rattle.aclck_c.specs.declared.failure.Failure.TheVariants as failure
use Rattle.aclck_c.specs.declared.posix.names.RawName.{RawName}
use Rattle.aclck_c.specs.internal.Failures.{ReadsTable, of_list_fault}
use Rattle.aclck_c.specs.internal.PosixFailures.{IsPosixFailure, of_shape}
use Rattle.aclck_c.proofs.FileFailures.{good_names, no_table}

-- what is refused of the names
pub names_failure : (bytes : List ℕ) (names : List RawName) (most : ℕ) (f : Failure)
    → ReadsTable (names_added empty_table names) (Err f) → IsPosixFailure bytes names most f
names_failure bytes names most failure.BadArgument h = no_table names h
names_failure bytes names most (failure.Refused shown) h = absurd h
names_failure bytes names most failure.Memory h = h

-- the fault of the bytes
pub list_failure : (bytes : List ℕ) (names : List RawName) (most : ℕ) (table : Table) (f : Fault)
    → AreNames names table → IsWholeFault full bytes f.offset f.reason
    → IsPosixFailure bytes names most (of_list_fault f)
list_failure bytes names most table f named has = record {
  named = good_names names table named;
  refused = inl (record { offset = f.offset; reason = f.reason; has = has; is = refl });
}

-- a name of the list has no id, the list names too many users and groups, or memory ran out
pub shape_failure : (bytes : List ℕ) (names : List RawName) (most : ℕ) (table : Table) (list : List Ace)
    (f : ShapeFault) → AreNames names table → Xdr full list bytes → IsToPosixFault table list most f
    → IsPosixFailure bytes names most (of_shape f)
shape_failure bytes names most table list (shape.NoId place) named spelled has = record {
  named = good_names names table named;
  refused = inr (record {
    table = table;
    list = list;
    fault = shape.NoId place;
    named = named;
    spelled = spelled;
    has = has;
    is = refl;
  });
}
shape_failure bytes names most table list shape.TooManyNames named spelled has = record {
  named = good_names names table named;
  refused = inr (record {
    table = table;
    list = list;
    fault = shape.TooManyNames;
    named = named;
    spelled = spelled;
    has = has;
    is = refl;
  });
}
shape_failure bytes names most table list shape.Memory named spelled has = tt
