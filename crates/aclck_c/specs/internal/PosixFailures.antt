-- Why an NFSv4 list has no POSIX ACL (this library's own; only the code needs it).
use Rattle.std.specs.Prelude.{⊤, ℕ, List}
use Rattle.acl_to_posix.specs.declared.posix_shape.ShapeFault.{ShapeFault}
use Rattle.aclck_c.specs.Names.{AreGoodNames}
use Rattle.aclck_c.specs.ToPosix.{IsRefusedAsPosix, shape_refusal}
use Rattle.aclck_c.specs.declared.failure.Failure.{Failure}
use Rattle.aclck_c.specs.declared.posix.names.RawName.{RawName}
use Rattle.aclck_c.specs.internal.Failures.{IsFailure, of_refusal}

-- the failure of a list that has no POSIX ACL
abbrev pub of_shape : ShapeFault → Failure
of_shape fault = of_refusal (shape_refusal fault)

-- the names make no table, the bytes have the fault or their list has, or memory ran out
abbrev pub IsPosixFailure : List ℕ → List RawName → ℕ → Failure → Type 0
IsPosixFailure bytes names most = IsFailure (AreGoodNames names) (IsRefusedAsPosix bytes names most) ⊤
