-- What the exit status of the program says (this library's own).
use Rattle.std.specs.Prelude.{◌≡◌, ◌⊎◌, ◌==◌, ◌<◌, ◌≤◌, List, ℕ, Option, None, false, if◌then◌else◌, IsSome, IsSomeAnd}
use Rattle.std.specs.Io.KnownBytes.{IsAtEnd}
use Rattle.clap.specs.Words.{Text}
use Rattle.acl_perm.specs.Devices.{one_more}
use Rattle.aclck.specs.Answer.{Begins, Finishes, Refuses}
use Rattle.aclck.specs.Run.{Ends, Stops, Takes}
use Rattle.aclck.specs.Task.{Answers, Task, is_command, shape_of, task_of}
use Rattle.aclck.specs.declared.answer.Outcome.{Outcome}
use Rattle.aclck.specs.declared.answer.Outcome.TheVariants as outcome
use Rattle.aclck.specs.declared.answer.RunFault.{RunFault}

-- the outcome of status 0 or 1
abbrev pub outcome_at : ℕ → Outcome
outcome_at status = if status == 0 then outcome.Yes else outcome.No

-- some input that the task refuses
abbrev pub IsRefused : Option Task → Option (List ℕ) → Type 0
IsRefused task known = IsSomeAnd task (λ t. (f : RunFault) × Refuses (Answers t) known f)

-- a proper beginning of a text of the task was written
abbrev pub IsBegun : Option Task → Option (List ℕ) → Option (List ℕ) → Option (List ℕ) → Type 0
IsBegun task known held holds = IsSomeAnd task (λ t. (n : ℕ) × Begins (Answers t) known held holds n)

-- the task ran to its end
abbrev pub IsDone : Option Task → Option (List ℕ) → Option (List ℕ) → Option (List ℕ) → Outcome → Type 0
IsDone task known held holds o = IsSomeAnd task (λ t. Finishes (Answers t) known held holds o)

-- little of the input was taken for the task
abbrev pub IsTaken : Option Task → Option (List ℕ) → Option (List ℕ) → Type 0
IsTaken task known left = IsSomeAnd task (λ t. Takes (shape_of t) known left)

-- what was taken for the task is not refused
abbrev pub IsStopped : Option Task → Option (List ℕ) → Option (List ℕ) → Type 0
IsStopped task known left = IsSomeAnd task (λ t. Stops (shape_of t) known left)

-- the text was read to its end, if the task reads a text
abbrev pub IsEnded : Option Task → Option (List ℕ) → Type 0
IsEnded task left = IsSomeAnd task (λ t. Ends (shape_of t) left)

-- what the status says about the words
pub record StatusOfWords (words : List Text) (status : ℕ) : Type 0 where
  -- the status is at most 4
  pub known : status ≤ 4
  -- below 3 the words ask for a task
  pub named : status < 3 → IsSome (task_of words)
  -- at 3 the words ask for nothing
  pub usage : status ≡ 3 → task_of words ≡ None
  -- if the first word names no command, or there is no word, the status is 3, also if memory runs out
  pub unnamed : is_command words ≡ false → status ≡ 3

-- what the status says about the input of a task: what its source has left before and after, and how many of its calls
-- failed
pub record StatusOfInput {S : Type 0} (task : Option Task) (left : S → Option (List ℕ)) (reads_failed : S → ℕ)
    (source source_after : S) (status : ℕ) : Type 0 where
  -- at 0 and 1 the input was read to its end
  pub whole : status < 2 → IsAtEnd (left source_after)
  -- at 2 the input has a fault
  pub refused : status ≡ 2 → IsRefused task (left source)
  -- at 3 no input was read
  pub unread : status ≡ 3 → source_after ≡ source
  -- little of the input was taken, or nothing
  pub bound : (source_after ≡ source) ⊎ IsTaken task (left source) (left source_after)
  -- if a read failed, what was taken does not refuse a list
  pub stopped : (reads_failed source_after ≡ reads_failed source) ⊎ IsStopped task (left source) (left source_after)
  -- a text that is refused was read to its end
  pub ended : status ≡ 2 → IsEnded task (left source_after)

-- what the status says about the output of a task over an input that may be known: what its sink holds before and
-- after, how many of the sink's calls failed, and the sink of the faults before and after
pub record StatusOfOutput {K E : Type 0} (task : Option Task) (known : Option (List ℕ))
    (holds : K → Option (List ℕ)) (writes_failed : K → ℕ) (out out_after : K) (err err_after : E) (status : ℕ)
    : Type 0 where
  -- at 0 and 1 the task ran to its end, and the text of its answer was written
  pub done : status < 2 → IsDone task known (holds out) (holds out_after) (outcome_at status)
  -- at 2 and 3 nothing was written
  pub unwritten : 2 ≤ status → status ≤ 3 → out_after ≡ out
  -- at 4 nothing was written, or a proper beginning of the text of the task's answer, and then one write failed
  pub begun : status ≡ 4 → (out_after ≡ out) ⊎ ((writes_failed out_after ≡ one_more (writes_failed out))
      × IsBegun task known (holds out) (holds out_after))
  -- at 0 and 1 nothing was written to the sink of faults
  pub unreported : status < 2 → err_after ≡ err

-- what the status says about the numbers of reads and of writes that failed, before and after
pub record StatusOfFailures (reads reads_after writes writes_after status : ℕ) : Type 0 where
  -- below 4 no read and no write failed
  pub none_failed : status < 4 → (reads_after ≡ reads) × (writes_after ≡ writes)
  -- at most one read failed
  pub one_read : (reads_after ≡ reads) ⊎ (reads_after ≡ one_more reads)
  -- at most one write failed
  pub one_write : (writes_after ≡ writes) ⊎ (writes_after ≡ one_more writes)
  -- not both a read and a write failed
  pub one_device : (reads_after ≡ reads) ⊎ (writes_after ≡ writes)

-- the effect of a run of the program at these words on a source, on a sink and on the sink of its faults, before and
-- after, with the exit status
pub record RunsWords {S K E : Type 0} (words : List Text)
    (left : S → Option (List ℕ)) (reads_failed : S → ℕ) (source source_after : S)
    (holds : K → Option (List ℕ)) (writes_failed : K → ℕ) (out out_after : K)
    (err err_after : E) (status : ℕ) : Type 0 where
  pub of_words : StatusOfWords words status
  pub of_input : StatusOfInput (task_of words) left reads_failed source source_after status
  pub of_output :
      StatusOfOutput (task_of words) (left source) holds writes_failed out out_after err err_after status
  pub of_failures : StatusOfFailures (reads_failed source) (reads_failed source_after) (writes_failed out)
      (writes_failed out_after) status
