-- Faults of the bridge are failures of a call over names and a text.
use Rattle.std.proofs.Common.{inl, inr, refl}
use Rattle.acl_posix.specs.declared.file.PosixFile.{PosixFile}
use Rattle.acl_eval.specs.Bridge.{IsBridgeFault, bridge_list}
use Rattle.acl_eval.specs.declared.bridging.BridgeFault.{BridgeFault}
use Rattle.acl_eval.specs.declared.bridging.BridgeFault.TheVariants as bridge
use Rattle.aclck_c.specs.Posix.{SpellsFile}
use Rattle.aclck_c.specs.declared.failure.Failure.{Failure}
use Rattle.aclck_c.specs.declared.failure.Failure.TheVariants as failure
use Rattle.aclck_c.specs.declared.posix.file.RawPosixText.{RawPosixText}
use Rattle.aclck_c.specs.internal.Failures.{IsBridgeFailure, IsFileFailure, of_bridge}

-- the list of the file is above a limit, or memory ran out
pub bridge_failure : (given : RawPosixText) (found : PosixFile) (f : BridgeFault)
    → SpellsFile given found → IsBridgeFault (bridge_list found.access) f
    → IsBridgeFailure given (of_bridge f)
bridge_failure given found bridge.Limits spells h = inr (record { file = found; read = spells; past = h }, refl)
bridge_failure given found bridge.Memory spells h = tt

-- what is refused of the names or the text
pub file_failure : (given : RawPosixText) (f : Failure) → IsFileFailure given f
    → IsBridgeFailure given f
file_failure given failure.BadArgument h = h
file_failure given (failure.Refused shown) h = inl h
file_failure given failure.Memory h = tt
