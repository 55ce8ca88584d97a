-- What the exit status says about the result of a run.
use Rattle.std.proofs.Common.{◌≡◌, ℕ, Bool, true, false, List, Option, Some, None, Result, Ok, Err, refl, sym, ap, subst, ◌∙◌, arith, inl, inr}
use Rattle.std.proofs.lemmas.Bool.{true≢false}
use Rattle.std.specs.Prelude.{◌⊎◌, ◌<◌, ◌≤◌, IsSome}
use Rattle.clap.specs.Words.{Text}
use Rattle.acl_perm.specs.Devices.{failures_after, one_more}
use Rattle.aclck.specs.Answer.{Answer, Begins, FailsBy, Refuses, origin_of, is_input, is_read, is_input_fault, is_sink, is_source, is_write}
use Rattle.aclck.specs.Command.{IsBegun, IsDone, IsRefused, IsStopped, RunsWords, StatusOfFailures, StatusOfOutput, StatusOfWords, outcome_at}
use Rattle.aclck.specs.internal.Performing.{Performs, RunsTask, is_write_fault, status_of}
use Rattle.aclck.specs.Task.{Answers, Task, is_command, task_of}
use Rattle.aclck.specs.declared.answer.Origin.{Origin}
use Rattle.aclck.specs.declared.answer.Origin.TheVariants as origin
use Rattle.aclck.specs.declared.answer.Outcome.{Outcome}
use Rattle.aclck.specs.declared.answer.RunFault.{RunFault}
use Rattle.aclck.specs.declared.command.CommandFault.{CommandFault}
use Rattle.aclck.specs.declared.command.CommandFault.TheVariants as command

-- a fault of the input is a fault that some input has
refuses_by : (Means : List ℕ → Answer → Type 0) (known held holds : Option (List ℕ)) (f : RunFault) (c : Origin)
    → is_input c ≡ true → FailsBy Means known held holds f c → Refuses Means known f
refuses_by Means known held holds f origin.Input is h = h
refuses_by Means known held holds f origin.Source is h = absurd cc
refuses_by Means known held holds f (origin.Sink w) is h = absurd cc
refuses_by Means known held holds f origin.Memory is h = absurd cc

-- a fault of the sink leaves a beginning of a text
begins_by : (Means : List ℕ → Answer → Type 0) (known held holds : Option (List ℕ)) (f : RunFault) (c : Origin)
    → is_sink c ≡ true → FailsBy Means known held holds f c → (n : ℕ) × Begins Means known held holds n
begins_by Means known held holds f origin.Input is h = absurd cc
begins_by Means known held holds f origin.Source is h = absurd cc
begins_by Means known held holds f (origin.Sink w) is h = (w.written, h)
begins_by Means known held holds f origin.Memory is h = absurd cc

-- a run that ends with a fault of the input has a task that refuses some input
refused_run : (task : Option Task) (known held holds : Option (List ℕ)) (f : RunFault) → is_input_fault f ≡ true
    → Performs task known held holds (Err (command.Run f)) → IsRefused task known
refused_run task known held holds f is (inl memory) = absurd (true≢false (sym is ∙ ap is_input_fault memory))
refused_run None known held holds f is (inr fails) = absurd fails
refused_run (Some t) known held holds f is (inr fails) =
    (f, refuses_by (Answers t) known held holds f (origin_of f) is fails)

-- at 2 the input has a fault
pub report_refused : (task : Option Task) (known held holds : Option (List ℕ)) (f : CommandFault) (status : ℕ)
    → Performs task known held holds (Err f) → status ≡ status_of f → status ≡ 2 → IsRefused task known
report_refused task known held holds command.Usage status performs is two = absurd (omega (arith, is, two))
report_refused task known held holds (command.Run f) status performs is two =
    by (is_input_fault f) refl
  where
    by : (b : Bool) → is_input_fault f ≡ b → IsRefused task known
    by true e = refused_run task known held holds f e performs
    by false e = let four : status ≡ 4 = is ∙ rw e refl in absurd (omega (arith, four, two))

-- a command that ran to its end has a task
pub done_named : (task : Option Task) (known held holds : Option (List ℕ)) (o : Outcome)
    → Performs task known held holds (Ok o) → IsSome task
done_named None known held holds o performs = absurd performs
done_named (Some t) known held holds o performs = refl

-- a command that ends below 3 has a task
pub below_named : (task : Option Task) (known held holds : Option (List ℕ)) (f : CommandFault) (status : ℕ)
    → Performs task known held holds (Err f) → status ≡ status_of f → status < 3 → IsSome task
below_named task known held holds command.Usage status performs is below = absurd (omega (arith, is, below))
below_named task known held holds (command.Run f) status (inl memory) is below =
    let four : status ≡ 4 = is ∙ ap (λ g. status_of (command.Run g)) memory in absurd (omega (arith, four, below))
below_named None known held holds (command.Run f) status (inr fails) is below = absurd fails
below_named (Some t) known held holds (command.Run f) status (inr fails) is below = refl

-- after a failed write a beginning of a text of the task was written
begun_at : (task : Option Task) (known held holds : Option (List ℕ)) (f : CommandFault)
    → Performs task known held holds (Err f) → is_write_fault f ≡ true → IsBegun task known held holds
begun_at task known held holds command.Usage performs write = absurd cc
begun_at task known held holds (command.Run f) (inl memory) write =
    absurd (true≢false (sym write ∙ ap is_write memory))
begun_at None known held holds (command.Run f) (inr fails) write = absurd fails
begun_at (Some t) known held holds (command.Run f) (inr fails) write =
    begins_by (Answers t) known held holds f (origin_of f) write fails

-- nothing was written, or a write failed after a beginning was written
pub report_begun : (task : Option Task) (known held holds : Option (List ℕ)) (f : CommandFault) (Kept : Type 0)
    (old new : ℕ) → Performs task known held holds (Err f) → (is_write_fault f ≡ true) ⊎ Kept
    → new ≡ failures_after old (is_write_fault f)
    → Kept ⊎ ((new ≡ one_more old) × IsBegun task known held holds)
report_begun task known held holds f Kept old new performs (inr kept) failed = inl kept
report_begun task known held holds f Kept old new performs (inl write) failed =
    inr (failed ∙ ap (failures_after old) write, begun_at task known held holds f performs write)

-- ---- one result after the other

-- a number of failures after a call stays, or there is one more
stays_or_more : (old new : ℕ) (failed : Bool) → new ≡ failures_after old failed → (new ≡ old) ⊎ (new ≡ one_more old)
stays_or_more old new true is = inr is
stays_or_more old new false is = inl is

-- a fault of the input is no fault of the source and none of the sink
input_alone : (c : Origin) → is_input c ≡ true → (is_source c ≡ false) × (is_sink c ≡ false)
input_alone origin.Input is = (refl, refl)
input_alone origin.Source is = absurd cc
input_alone (origin.Sink w) is = absurd cc
input_alone origin.Memory is = absurd cc

-- a fault comes from the source, or it does not
source_or_not : (c : Origin) → (is_source c ≡ true) ⊎ (is_source c ≡ false)
source_or_not origin.Input = inr refl
source_or_not origin.Source = inl refl
source_or_not (origin.Sink w) = inr refl
source_or_not origin.Memory = inr refl

-- a fault of the source is none of the sink
source_alone : (c : Origin) → is_source c ≡ true → is_sink c ≡ false
source_alone origin.Input is = absurd cc
source_alone origin.Source is = refl
source_alone (origin.Sink w) is = absurd cc
source_alone origin.Memory is = absurd cc

-- at 2 and 3 nothing was written
nothing_written : {K E : Type 0} {task : Option Task} {known : Option (List ℕ)} {holds : K → Option (List ℕ)}
    {writes_failed : K → ℕ} {out out_after : K} {err err_after : E} (status : ℕ) → 2 ≤ status → status ≤ 3
    → out_after ≡ out → StatusOfOutput task known holds writes_failed out out_after err err_after status
nothing_written status two three same = record {
  done = λ below. absurd (omega (arith, two, below));
  unwritten = λ _ _. same;
  begun = λ four. absurd (omega (arith, three, four));
  unreported = λ below. absurd (omega (arith, two, below));
}

-- no read and no write failed
no_call_failed : {reads reads_after writes writes_after status : ℕ} → reads_after ≡ reads → writes_after ≡ writes
    → StatusOfFailures reads reads_after writes writes_after status
no_call_failed read written = record {
  none_failed = λ _. (read, written);
  one_read = inl read;
  one_write = inl written;
  one_device = inl read;
}

-- a command that ran to its end
pub ended_so : {S K E : Type 0} {words : List Text} {left : S → Option (List ℕ)} {reads_failed : S → ℕ}
    {source source_after : S} {holds : K → Option (List ℕ)} {writes_failed : K → ℕ} {out out_after : K} {err : E}
    (o : Outcome) (status : ℕ) → status < 2 → outcome_at status ≡ o
    → RunsTask (task_of words) left reads_failed source source_after holds writes_failed out out_after (Ok o)
    → (is_command words ≡ false → Ok o ≡ Err command.Usage)
    → RunsWords words left reads_failed source source_after holds writes_failed out out_after err err status
ended_so {words} {left} {source} {holds} {out} {out_after} o status below at runs unnamed = record {
  of_words = record {
    known = omega (arith, below);
    named = λ _. done_named (task_of words) (left source) (holds out) (holds out_after) o runs.performs;
    usage = λ three. absurd (omega (arith, below, three));
    unnamed = λ none. let e = unnamed none in absurd cc;
  };
  of_input = record {
    whole = λ _. runs.reading.whole;
    refused = λ two. absurd (omega (arith, below, two));
    unread = λ three. absurd (omega (arith, below, three));
    bound = runs.reading.bound;
    stopped = inl runs.reading.reads;
    ended = λ two. absurd (omega (arith, below, two));
  };
  of_output = record {
    done = λ _.
        subst (λ q. IsDone (task_of words) (left source) (holds out) (holds out_after) q) (sym at) runs.performs;
    unwritten = λ two _. absurd (omega (arith, below, two));
    begun = λ four. absurd (omega (arith, below, four));
    unreported = λ _. refl;
  };
  of_failures = no_call_failed runs.reading.reads runs.writes;
}

-- a command line that asks for nothing
bad_usage : {S K E : Type 0} {words : List Text} {left : S → Option (List ℕ)} {reads_failed : S → ℕ}
    {source source_after : S} {holds : K → Option (List ℕ)} {writes_failed : K → ℕ} {out out_after : K}
    {err err_after : E} (status : ℕ) → status ≡ 3
    → RunsTask (task_of words) left reads_failed source source_after holds writes_failed out out_after
    (Err command.Usage)
    → RunsWords words left reads_failed source source_after holds writes_failed out out_after err err_after status
bad_usage {out} {out_after} status is runs = record {
  of_words = record {
    known = omega (arith, is);
    named = λ below. absurd (omega (arith, is, below));
    usage = λ _. runs.performs;
    unnamed = λ _. is;
  };
  of_input = record {
    whole = λ below. absurd (omega (arith, is, below));
    refused = λ two. absurd (omega (arith, is, two));
    unread = λ _. runs.reading.unread refl;
    bound = runs.reading.bound;
    stopped = inl runs.reading.reads;
    ended = λ two. absurd (omega (arith, is, two));
  };
  of_output = nothing_written status (omega (arith, is)) (omega (arith, is)) (kept runs.unwritten);
  of_failures = no_call_failed runs.reading.reads runs.writes;
}
  where
    kept : (false ≡ true) ⊎ (out_after ≡ out) → out_after ≡ out
    kept (inl write) = absurd cc
    kept (inr same) = same

-- what the status says about the words of a run that ends with a fault, if it is not 3
words_ran : {words : List Text} (f : RunFault) (status : ℕ) → status ≤ 4 → (status ≡ 3 → ⊥)
    → (status < 3 → IsSome (task_of words))
    → (is_command words ≡ false → ◌≡◌ {A = Result Outcome CommandFault} (Err (command.Run f)) (Err command.Usage))
    → StatusOfWords words status
words_ran f status low other named unnamed = record {
  known = low;
  named = named;
  usage = λ three. absurd (other three);
  unnamed = λ none. let e = unnamed none in absurd cc;
}

-- a refused input
bad_input : {S K E : Type 0} {words : List Text} {left : S → Option (List ℕ)} {reads_failed : S → ℕ}
    {source source_after : S} {holds : K → Option (List ℕ)} {writes_failed : K → ℕ} {out out_after : K}
    {err err_after : E} (f : RunFault) (status : ℕ) → is_input_fault f ≡ true → status ≡ 2
    → RunsTask (task_of words) left reads_failed source source_after holds writes_failed out out_after
    (Err (command.Run f))
    → (is_command words ≡ false → ◌≡◌ {A = Result Outcome CommandFault} (Err (command.Run f)) (Err command.Usage))
    → RunsWords words left reads_failed source source_after holds writes_failed out out_after err err_after status
bad_input {words} {left} {reads_failed} {source} {source_after} {holds} {writes_failed} {out} {out_after} f status
    refused two runs unnamed = record {
      of_words = words_ran f status (omega (arith, two)) (λ three. omega (arith, two, three))
          (below_named (task_of words) (left source) (holds out) (holds out_after) (command.Run f) status
          runs.performs is) unnamed;
      of_input = record {
        whole = λ below. absurd (omega (arith, two, below));
        refused = report_refused (task_of words) (left source) (holds out) (holds out_after) (command.Run f) status
            runs.performs is;
        unread = λ three. absurd (omega (arith, two, three));
        bound = runs.reading.bound;
        stopped = inl read;
        ended = λ _. runs.reading.ended (sym is ∙ two);
      };
      of_output = nothing_written status (omega (arith, two)) (omega (arith, two)) (kept runs.unwritten);
      of_failures = no_call_failed read written;
    }
  where
    is : status ≡ status_of (command.Run f)
    is = rw refused two

    alone : (is_read f ≡ false) × (is_write f ≡ false)
    alone = input_alone (origin_of f) refused

    read : reads_failed source_after ≡ reads_failed source
    read = runs.reading.reads ∙ ap (failures_after (reads_failed source)) alone.0

    written : writes_failed out_after ≡ writes_failed out
    written = runs.writes ∙ ap (failures_after (writes_failed out)) alone.1

    kept : (is_write f ≡ true) ⊎ (out_after ≡ out) → out_after ≡ out
    kept (inl write) = absurd (true≢false (sym write ∙ alone.1))
    kept (inr same) = same

-- a device that failed, or memory that ran out
bad_device : {S K E : Type 0} {words : List Text} {left : S → Option (List ℕ)} {reads_failed : S → ℕ}
    {source source_after : S} {holds : K → Option (List ℕ)} {writes_failed : K → ℕ} {out out_after : K}
    {err err_after : E} (f : RunFault) (status : ℕ) → status ≡ 4
    → RunsTask (task_of words) left reads_failed source source_after holds writes_failed out out_after
    (Err (command.Run f))
    → (is_command words ≡ false → ◌≡◌ {A = Result Outcome CommandFault} (Err (command.Run f)) (Err command.Usage))
    → RunsWords words left reads_failed source source_after holds writes_failed out out_after err err_after status
bad_device {words} {left} {reads_failed} {source} {source_after} {holds} {writes_failed} {out} {out_after} f status
    four runs unnamed = record {
      of_words = words_ran f status (omega (arith, four)) (λ three. omega (arith, four, three))
          (λ below. absurd (omega (arith, four, below))) unnamed;
      of_input = record {
        whole = λ below. absurd (omega (arith, four, below));
        refused = λ two. absurd (omega (arith, four, two));
        unread = λ three. absurd (omega (arith, four, three));
        bound = runs.reading.bound;
        stopped = stops (source_or_not (origin_of f));
        ended = λ two. absurd (omega (arith, four, two));
      };
      of_output = record {
        done = λ below. absurd (omega (arith, four, below));
        unwritten = λ _ three. absurd (omega (arith, four, three));
        begun = λ _. report_begun (task_of words) (left source) (holds out) (holds out_after) (command.Run f)
            (out_after ≡ out) (writes_failed out) (writes_failed out_after) runs.performs runs.unwritten runs.writes;
        unreported = λ below. absurd (omega (arith, four, below));
      };
      of_failures = record {
        none_failed = λ below. absurd (omega (arith, four, below));
        one_read = stays_or_more _ _ (is_read f) runs.reading.reads;
        one_write = stays_or_more _ _ (is_write f) runs.writes;
        one_device = one (source_or_not (origin_of f));
      };
    }
  where
    no_read : is_read f ≡ false → reads_failed source_after ≡ reads_failed source
    no_read not = runs.reading.reads ∙ ap (failures_after (reads_failed source)) not

    stops : (is_read f ≡ true) ⊎ (is_read f ≡ false) → (reads_failed source_after ≡ reads_failed source)
        ⊎ IsStopped (task_of words) (left source) (left source_after)
    stops (inl read) = inr (runs.reading.stopped read)
    stops (inr not) = inl (no_read not)

    one : (is_read f ≡ true) ⊎ (is_read f ≡ false)
        → (reads_failed source_after ≡ reads_failed source) ⊎ (writes_failed out_after ≡ writes_failed out)
    one (inl read) =
        inr (runs.writes ∙ ap (failures_after (writes_failed out)) (source_alone (origin_of f) read))
    one (inr not) = inl (no_read not)

-- a command that ended with a fault, with the status of that fault
pub failed_so : {S K E : Type 0} {words : List Text} {left : S → Option (List ℕ)} {reads_failed : S → ℕ}
    {source source_after : S} {holds : K → Option (List ℕ)} {writes_failed : K → ℕ} {out out_after : K}
    {err err_after : E} (f : CommandFault) (status : ℕ) → status ≡ status_of f
    → RunsTask (task_of words) left reads_failed source source_after holds writes_failed out out_after (Err f)
    → (is_command words ≡ false → ◌≡◌ {A = Result Outcome CommandFault} (Err f) (Err command.Usage))
    → RunsWords words left reads_failed source source_after holds writes_failed out out_after err err_after status
failed_so command.Usage status is runs unnamed = bad_usage status is runs
failed_so {words} {left} {reads_failed} {source} {source_after} {holds} {writes_failed} {out} {out_after} {err}
    {err_after} (command.Run f) status is runs unnamed = by (is_input_fault f) refl
  where
    by : (b : Bool) → is_input_fault f ≡ b
        → RunsWords words left reads_failed source source_after holds writes_failed out out_after err err_after status
    by true e = bad_input f status e (is ∙ rw e refl) runs unnamed
    by false e = bad_device f status (is ∙ rw e refl) runs unnamed
