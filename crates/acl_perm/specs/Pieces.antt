-- A text that is written whole, or in several pieces: this library's own.
use Rattle.std.specs.Prelude.{◌≡◌, ◌+◌, ◌-◌, ◌<◌, ◌≤◌, ℕ, List, length, take, Option, Result, Ok, Err, OnOk, OnErr, IfErr}
use Rattle.std.specs.Io.KnownBytes.{Appends}
use Rattle.acl_perm.specs.Devices.{one_more}
use Rattle.acl_perm.specs.declared.whole.WriteFault.{WriteFault}

-- the effect on a sink of a call that writes a text: the bytes that the sink holds, and how many puts failed
pub record Writes {K : Type 0} (holds : K → Option (List ℕ)) (failures : K → ℕ) (sink sink_after : K)
    (text : List ℕ) (r : Result (Unit {0}) WriteFault) : Type 0 where
  -- all of the text went out
  pub ok : OnOk r (Appends (holds sink) (holds sink_after) text)
  -- no put failed
  pub none_failed : OnOk r (failures sink_after ≡ failures sink)
  -- a beginning of the text went out, and the fault has its length
  pub err : IfErr r (λ fault. Appends (holds sink) (holds sink_after) (take fault.written text))
  -- the beginning that went out was not all of the text
  pub short : IfErr r (λ fault. fault.written < length text)
  -- one put failed
  pub failed : OnErr r (failures sink_after ≡ one_more (failures sink))

-- the result of a call that writes a part of a text after its first `done` bytes: how many are out after it, or a fault
-- with the number of the bytes that went out
abbrev pub WritesFrom : Option (List ℕ) → Option (List ℕ) → ℕ → List ℕ → Result ℕ WriteFault → Type 0
WritesFrom held holds done part (Ok n) = (n ≡ done + length part) × Appends held holds part
WritesFrom held holds done part (Err fault) = (done ≤ fault.written) × (fault.written < done + length part)
    × Appends held holds (take (fault.written - done) part)

-- the effect on a sink of a call that writes a part of a text: that of `Writes`, with the numbers of bytes counted from
-- the start of the text, of which `done` bytes were out before
pub record WritesOn {K : Type 0} (holds : K → Option (List ℕ)) (failures : K → ℕ) (sink sink_after : K) (done : ℕ)
    (part : List ℕ) (r : Result ℕ WriteFault) : Type 0 where
  -- the part went out, or a beginning of it that is not all of it
  pub written : WritesFrom (holds sink) (holds sink_after) done part r
  -- no put failed
  pub none_failed : OnOk r (failures sink_after ≡ failures sink)
  -- one put failed
  pub failed : OnErr r (failures sink_after ≡ one_more (failures sink))
