-- Why a list has no list with a new mode.
use Rattle.std.proofs.Common.{ℕ, List, inl, inr, refl}
use Rattle.acl_perm.specs.Profile.{Profile, full}
use Rattle.acl_nfs4.specs.Ace.{Ace}
use Rattle.acl_nfs4.specs.Spelling.{IsAccepted, Xdr}
use Rattle.std.specs.Prelude.{◌≡◌}
use Rattle.acl_change.specs.ListChmod.{chmod_list}
use Rattle.acl_change.specs.declared.mode_change.ChmodFault.{ChmodFault}
use Rattle.acl_change.specs.declared.mode_change.ChmodFault.TheVariants.{Limits, Memory}
use Rattle.aclck_c.specs.declared.failure.Failure.{Failure}
use Rattle.aclck_c.specs.declared.failure.Failure.TheVariants as failure
use Rattle.aclck_c.specs.internal.Failures.{IsChmodFailure, IsListFailure, of_chmod}

-- the list is above a limit, or memory ran out
pub chmod_failure : (p : Profile) (mode : ℕ) (bytes : List ℕ) (list : List Ace) (f : ChmodFault) → Xdr p list bytes
    → (f ≡ Limits → IsAccepted full (chmod_list mode list) → ⊥)
    → IsChmodFailure p mode bytes (of_chmod f)
chmod_failure p mode bytes list Limits read past = inr (record { list = list; read = read; past = past refl }, refl)
chmod_failure p mode bytes list Memory read past = (list, read)

-- the bytes are refused, or memory ran out
pub list_failure : (p : Profile) (mode : ℕ) (bytes : List ℕ) (f : Failure) → IsListFailure p bytes 0 f
    → IsChmodFailure p mode bytes f
list_failure p mode bytes failure.BadArgument h = h
list_failure p mode bytes (failure.Refused shown) h = inl h
list_failure p mode bytes failure.Memory h = h
