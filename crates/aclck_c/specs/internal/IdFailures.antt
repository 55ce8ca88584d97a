-- Why a list is not prepared for ids (this library's own; only the code needs it).
use Rattle.std.specs.Prelude.{⊤, ℕ, List}
use Rattle.acl_perm.specs.Profile.{Profile}
use Rattle.acl_ids.specs.declared.id_names.IdsFault.{IdsFault}
use Rattle.acl_ids.specs.declared.id_names.IdsFault.TheVariants as faults
use Rattle.aclck_c.specs.Ids.{IsRefusedForIds, unknown_at}
use Rattle.aclck_c.specs.Names.{AreGoodNames}
use Rattle.aclck_c.specs.declared.failure.Failure.{Failure}
use Rattle.aclck_c.specs.declared.failure.Failure.TheVariants as failure
use Rattle.aclck_c.specs.declared.posix.names.RawName.{RawName}
use Rattle.aclck_c.specs.internal.Failures.{IsFailure}

-- the failure of a list that is not prepared
abbrev pub of_ids : IdsFault → Failure
of_ids (faults.UnknownName place) = failure.Refused (unknown_at place)
of_ids faults.Memory = failure.Memory

-- the names make no table, the list is refused, or memory ran out
abbrev pub IsIdsFailure : Profile → List ℕ → List RawName → Failure → Type 0
IsIdsFailure p bytes names = IsFailure (AreGoodNames names) (IsRefusedForIds p bytes names) ⊤
