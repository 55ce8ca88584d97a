-- The result of a run of the command that some words name, from which the status is made (this library's own).
use Rattle.std.specs.Prelude.{◌≡◌, ◌⊎◌, List, ℕ, Option, None, Bool, false, true, if◌then◌else◌, IfErr, IsSomeAnd, OnOk, Result, Ok, Err}
use Rattle.std.specs.Io.KnownBytes.{IsAtEnd}
use Rattle.acl_perm.specs.Devices.{failures_after}
use Rattle.aclck.specs.Answer.{Fails, is_read, is_input_fault, is_write}
use Rattle.aclck.specs.Task.{Answers, Task}
use Rattle.aclck.specs.declared.answer.Outcome.{Outcome}
use Rattle.aclck.specs.declared.answer.RunFault.TheVariants as fault
use Rattle.aclck.specs.declared.line.LineFault.{LineFault}
use Rattle.aclck.specs.declared.line.LineFault.TheVariants as line
use Rattle.aclck.specs.declared.command.CommandFault.{CommandFault}
use Rattle.aclck.specs.declared.command.CommandFault.TheVariants as command
use Rattle.aclck.specs.Command.{IsDone, IsEnded, IsStopped, IsTaken}

-- the faults of words as the program reports them
abbrev pub command_fault_of : LineFault → CommandFault
command_fault_of line.Usage = command.Usage
command_fault_of line.Memory = command.Run fault.Memory

-- 2 for a refused input, 3 for usage, 4 for a device or memory
abbrev pub status_of : CommandFault → ℕ
status_of command.Usage = 3
status_of (command.Run f) = if is_input_fault f then 2 else 4

-- the result of a command whose words ask for this task
abbrev pub Performs : Option Task → Option (List ℕ) → Option (List ℕ) → Option (List ℕ)
    → Result Outcome CommandFault → Type 0
Performs task known held holds (Ok o) = IsDone task known held holds o
Performs task known held holds (Err command.Usage) = task ≡ None
Performs task known held holds (Err (command.Run f)) =
    (f ≡ fault.Memory) ⊎ IsSomeAnd task (λ t. Fails (Answers t) known held holds f)

-- the fault is that a read failed
abbrev pub is_read_fault : CommandFault → Bool
is_read_fault command.Usage = false
is_read_fault (command.Run f) = is_read f

-- the fault is that a write failed
abbrev pub is_write_fault : CommandFault → Bool
is_write_fault command.Usage = false
is_write_fault (command.Run f) = is_write f

-- the result is a fault of this kind
abbrev pub has_failed : (CommandFault → Bool) → Result Outcome CommandFault → Bool
has_failed test (Ok o) = false
has_failed test (Err e) = test e

-- the effect of a run of the command whose words ask for this task on a source, as in `RunReads`
pub record TaskReads {S : Type 0} (task : Option Task) (left : S → Option (List ℕ)) (reads_failed : S → ℕ)
    (source source_after : S) (r : Result Outcome CommandFault) : Type 0 where
  -- if the run ended well, the input was read to its end
  pub whole : OnOk r (IsAtEnd (left source_after))
  -- at a usage fault no input was read
  pub unread : r ≡ Err command.Usage → source_after ≡ source
  -- little of the source was taken, or nothing
  pub bound : (source_after ≡ source) ⊎ IsTaken task (left source) (left source_after)
  -- if a read failed, what was taken is not refused
  pub stopped : IfErr r (λ e. is_read_fault e ≡ true → IsStopped task (left source) (left source_after))
  -- a text that is refused was read to its end
  pub ended : IfErr r (λ e. status_of e ≡ 2 → IsEnded task (left source_after))
  -- one read failed if the result says so, and otherwise none
  pub reads : reads_failed source_after ≡ failures_after (reads_failed source) (has_failed is_read_fault r)

-- the effect of a run of the command whose words ask for this task on a source and a sink, as in `Runs`
pub record RunsTask {S K : Type 0} (task : Option Task)
    (left : S → Option (List ℕ)) (reads_failed : S → ℕ) (source source_after : S)
    (holds : K → Option (List ℕ)) (writes_failed : K → ℕ) (sink sink_after : K)
    (r : Result Outcome CommandFault) : Type 0 where
  -- the answer is that of the task, and its text was written, or a beginning of it if a write failed
  pub performs : Performs task (left source) (holds sink) (holds sink_after) r
  -- what was read
  pub reading : TaskReads task left reads_failed source source_after r
  -- nothing was written, unless a write failed
  pub unwritten : IfErr r (λ e. (is_write_fault e ≡ true) ⊎ (sink_after ≡ sink))
  -- one write failed if the result says so, and otherwise none
  pub writes : writes_failed sink_after ≡ failures_after (writes_failed sink) (has_failed is_write_fault r)
