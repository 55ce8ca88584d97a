-- Why a list has no list for one object.
use Rattle.std.proofs.Common.{ℕ, List, inr, inl, refl}
use Rattle.acl_perm.specs.Profile.{Profile}
use Rattle.acl_nfs4.specs.Ace.{Ace}
use Rattle.acl_nfs4.specs.Spelling.{Xdr}
use Rattle.acl_change.specs.Resolved.{IsResolveFault}
use Rattle.acl_change.specs.declared.resolving.ResolveFault.{ResolveFault}
use Rattle.acl_change.specs.declared.resolving.ResolveFault.TheVariants as fault
use Rattle.aclck_c.specs.declared.failure.Failure.{Failure}
use Rattle.aclck_c.specs.declared.failure.Failure.TheVariants as failure
use Rattle.aclck_c.specs.internal.Failures.{IsListFailure, IsObjectFailure, of_resolve}

-- an ACE needs a name that no ACE can have, or memory ran out
pub object_failure : (p : Profile) (bytes owner group : List ℕ) (list : List Ace) (f : ResolveFault) → Xdr p list bytes
    → IsResolveFault owner group list f → IsObjectFailure p bytes owner group (of_resolve f)
object_failure p bytes owner group list (fault.Name place) read found =
    inr (record { list = list; read = read; place = place; found = found; is = refl })
object_failure p bytes owner group list fault.Memory read found = (list, read)

-- the bytes are refused, or memory ran out
pub list_failure : (p : Profile) (bytes owner group : List ℕ) (f : Failure) → IsListFailure p bytes 0 f
    → IsObjectFailure p bytes owner group f
list_failure p bytes owner group failure.BadArgument h = h
list_failure p bytes owner group (failure.Refused shown) h = inl h
list_failure p bytes owner group failure.Memory h = h
