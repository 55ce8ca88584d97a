-- How the text at the end of a command is written (this library's own).
use Rattle.std.specs.Prelude.{◌≡◌, ◌⊎◌, ◌<◌, List, ℕ, Option, true, IfErr, IfOk, Result, length, take}
use Rattle.std.specs.Io.KnownBytes.{Appends}
use Rattle.acl_perm.specs.Devices.{failures_after}
use Rattle.aclck.specs.Answer.{origin_of, has_write_failed, is_write}
use Rattle.aclck.specs.declared.answer.Origin.{Origin}
use Rattle.aclck.specs.declared.answer.Origin.TheVariants as origin
use Rattle.aclck.specs.declared.answer.Outcome.{Outcome}
use Rattle.aclck.specs.declared.answer.RunFault.{RunFault}

-- what was written of a text, by the origin of the fault: a proper beginning if a write failed, and nothing if memory
-- ran out before
abbrev pub WritesTextPart : List ℕ → Option (List ℕ) → Option (List ℕ) → Origin → Type 0
WritesTextPart text held holds origin.Input = ⊥
WritesTextPart text held holds origin.Source = ⊥
WritesTextPart text held holds (origin.Sink w) = (w.written < length text) × Appends held holds (take w.written text)
WritesTextPart text held holds origin.Memory = Unit {0}

-- the effect on a sink of a call that writes a text, after which a command ends with an outcome: the bytes that the
-- sink holds before and after, and how many puts failed
pub record WritesText {K : Type 0} (outcome : Outcome) (text : List ℕ) (holds : K → Option (List ℕ)) (failures : K → ℕ)
    (sink sink_after : K) (r : Result Outcome RunFault) : Type 0 where
  pub done : IfOk r (λ o. (o ≡ outcome) × Appends (holds sink) (holds sink_after) text)
  pub part : IfErr r (λ e. WritesTextPart text (holds sink) (holds sink_after) (origin_of e))
  pub unwritten : IfErr r (λ e. (is_write e ≡ true) ⊎ (sink_after ≡ sink))
  pub writes : failures sink_after ≡ failures_after (failures sink) (has_write_failed r)
