-- Why an identifier that nobody knows gets no group of its own.
use Rattle.std.proofs.Common.{ℕ, List, inr, inl, refl}
use Rattle.acl_perm.specs.Profile.{Profile}
use Rattle.acl_nfs4.specs.AccessPart.{IsPartOf, Part}
use Rattle.acl_nfs4.specs.UnknownGroups.{IsGroupsFault}
use Rattle.acl_nfs4.specs.declared.xdr.unknown_groups.GroupsFault.{GroupsFault}
use Rattle.acl_nfs4.specs.declared.xdr.unknown_groups.GroupsFault.TheVariants as fault
use Rattle.aclck_c.specs.declared.failure.Failure.{Failure}
use Rattle.aclck_c.specs.declared.failure.Failure.TheVariants as failure
use Rattle.aclck_c.specs.internal.Failures.{IsNamingFailure, IsPartFailure, of_groups}

-- an identifier gets no name, or the name of another group, or memory ran out
pub groups_failure : (p : Profile) (bytes suffix : List ℕ) (part : Part) (f : GroupsFault) → IsPartOf p bytes part
    → IsGroupsFault suffix part.kept f → IsNamingFailure p bytes suffix (of_groups f)
groups_failure p bytes suffix part (fault.Name place) read found =
    inr (inl (record { part = part; read = read; place = place; found = found; is = refl }))
groups_failure p bytes suffix part (fault.Merged place) read found =
    inr (inr (record { part = part; read = read; named = found.0; place = place; found = found.1; is = refl }))
groups_failure p bytes suffix part fault.Memory read found = tt

-- the bytes are refused, or memory ran out
pub part_failure : (p : Profile) (bytes suffix : List ℕ) (f : Failure) → IsPartFailure p bytes f
    → IsNamingFailure p bytes suffix f
part_failure p bytes suffix failure.BadArgument h = h
part_failure p bytes suffix (failure.Refused shown) h = inl h
part_failure p bytes suffix failure.Memory h = h
