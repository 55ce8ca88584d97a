-- Runs that have read a whole text, and then write an answer about it.
use Rattle.std.proofs.Common.{◌≡◌, ◌∙◌, List, ℕ, Option, Result, Ok, Err, false, ap, inr, refl, subst, sym}
use Rattle.std.proofs.lemmas.Bool.{true≢false}
use Rattle.std.specs.Prelude.{IfSome}
use Rattle.std.specs.Io.KnownBytes.{IsAtEnd}
use Rattle.acl_perm.specs.Devices.{failures_after}
use Rattle.acl_posix.specs.Grammar.{Reads}
use Rattle.acl_posix.specs.Names.{Table}
use Rattle.acl_posix.specs.declared.file.PosixFile.{PosixFile}
use Rattle.aclck.specs.Answer.{Answer, FailsBy, Finishes, origin_of, done, is_source, refused}
use Rattle.aclck.specs.PosixAnswer.{WritesAnswer}
use Rattle.aclck.specs.Run.{Ends, Runs, Shape, Takes, of_list, of_text, of_two}
use Rattle.aclck.specs.internal.Reading.{HasInput}
use Rattle.aclck.specs.internal.Writing.{WritesText, WritesTextPart}
use Rattle.aclck.specs.declared.answer.Origin.{Origin}
use Rattle.aclck.specs.declared.answer.Origin.TheVariants as origin
use Rattle.aclck.specs.declared.answer.Outcome.{Outcome}
use Rattle.aclck.specs.declared.answer.Outcome.TheVariants as outcome
use Rattle.aclck.specs.declared.answer.RunFault.{RunFault}
use Rattle.aclck.specs.declared.answer.RunFault.TheVariants as fault

-- what was written of the text is what the fault says, for each origin of a fault
fails_so : (Means : List ℕ → Answer → Type 0) (known held holds : Option (List ℕ)) (o : Outcome) (text : List ℕ)
    (e : RunFault) (c : Origin) (input : List ℕ) → IfSome known (λ bytes. input ≡ bytes) → Means input (done o text)
    → WritesTextPart text held holds c → FailsBy Means known held holds e c
fails_so Means known held holds o text e origin.Input input is means part = absurd part
fails_so Means known held holds o text e origin.Source input is means part = absurd part
fails_so Means known held holds o text e (origin.Sink w) input is means part = record {
  input = input;
  outcome = o;
  text = text;
  is_input = is;
  means = means;
  short = part.0;
  written = part.1;
}
fails_so Means known held holds o text e origin.Memory input is means part = tt

-- the fault is none of the source
not_source : (text : List ℕ) (held holds : Option (List ℕ)) (c : Origin) → WritesTextPart text held holds c
    → is_source c ≡ false
not_source text held holds origin.Input part = absurd part
not_source text held holds origin.Source part = absurd part
not_source text held holds (origin.Sink w) part = refl
not_source text held holds origin.Memory part = refl

-- an input of any shape that was read to its end is one that ends there
ends_at : (shape : Shape) (left : Option (List ℕ)) → IsAtEnd left → Ends shape left
ends_at of_text left end = end
ends_at (of_list p) left end = tt
ends_at (of_two p) left end = tt

-- the text of the answer to the input was written, after the input was read as one of its shape
pub written_after_reading : {S K : Type 0} (Means : List ℕ → Answer → Type 0) {shape : Shape} {Holds : List ℕ → Type 0}
    {o : Outcome} {text : List ℕ} {left : S → Option (List ℕ)} {reads_failed : S → ℕ} {source source_after : S}
    {holds : K → Option (List ℕ)} {writes_failed : K → ℕ} {sink sink_after : K} (r : Result Outcome RunFault)
    → WritesText o text holds writes_failed sink sink_after r
    → HasInput Holds (left source) → ((input : List ℕ) → Holds input → Means input (done o text))
    → Takes shape (left source) (left source_after) → IsAtEnd (left source_after)
    → reads_failed source_after ≡ reads_failed source
    → Runs Means shape left reads_failed source source_after holds writes_failed sink sink_after r
written_after_reading Means {text} {left} {source} {holds} {sink} {sink_after} (Ok p) writes found means little end
    read = record {
      ran = subst (λ q. Finishes Means (left source) (holds sink) (holds sink_after) q) (sym writes.done.0) (record {
        input = found.input;
        text = text;
        is_input = found.is_input;
        means = means found.input found.holds;
        written = writes.done.1;
      });
      reading = record { whole = end; bound = little; stopped = tt; ended = tt; reads = read };
      writing = record { unwritten = writes.unwritten; writes = writes.writes };
    }
written_after_reading Means {shape} {o} {text} {left} {reads_failed} {source} {source_after} {holds} {sink} {sink_after}
    (Err e) writes found means little end read =
    let no_read = not_source text (holds sink) (holds sink_after) (origin_of e) writes.part in
    record {
      ran = fails_so Means (left source) (holds sink) (holds sink_after) o text e (origin_of e) found.input
          found.is_input (means found.input found.holds) writes.part;
      reading = record {
        whole = tt;
        bound = little;
        stopped = λ is. absurd (true≢false (sym is ∙ no_read));
        ended = λ _. ends_at shape (left source_after) end;
        reads = read ∙ sym (ap (failures_after (reads_failed source)) no_read);
      };
      writing = record { unwritten = writes.unwritten; writes = writes.writes };
    }

-- the text of the answer to the input, which is a text, was written
pub written_answer : {S K : Type 0} (Means : List ℕ → Answer → Type 0) {Holds : List ℕ → Type 0} {o : Outcome}
    {text : List ℕ} {left : S → Option (List ℕ)} {reads_failed : S → ℕ} {source source_after : S}
    {holds : K → Option (List ℕ)} {writes_failed : K → ℕ} {sink sink_after : K} (r : Result Outcome RunFault)
    → WritesText o text holds writes_failed sink sink_after r
    → HasInput Holds (left source) → ((input : List ℕ) → Holds input → Means input (done o text))
    → IsAtEnd (left source_after) → reads_failed source_after ≡ reads_failed source
    → Runs Means of_text left reads_failed source source_after holds writes_failed sink sink_after r
written_answer Means r writes found means end read = written_after_reading Means r writes found means tt end read

-- a text was written that is made of the file which the input spells
pub written_file : {S K : Type 0} {names : Table} (made : PosixFile → List ℕ) (file : PosixFile) {text : List ℕ}
    {left : S → Option (List ℕ)} {reads_failed : S → ℕ} {source source_after : S} {holds : K → Option (List ℕ)}
    {writes_failed : K → ℕ} {sink sink_after : K} (r : Result Outcome RunFault)
    → WritesText outcome.Yes text holds writes_failed sink sink_after r
    → HasInput (λ input. Reads input names file) (left source) → text ≡ made file
    → IsAtEnd (left source_after) → reads_failed source_after ≡ reads_failed source
    → Runs (WritesAnswer names made) of_text left reads_failed source source_after holds writes_failed sink sink_after r
written_file {names} made file r writes found is end read =
    written_answer (WritesAnswer names made) r writes found (λ input reads. (
      refl,
      record { file = file; read = reads; is = is },
    )) end read

-- the input is refused, because its list is above a limit
pub past_limits : {S K : Type 0} (Means : List ℕ → Answer → Type 0) {Holds : List ℕ → Type 0}
    {left : S → Option (List ℕ)} {reads_failed : S → ℕ} {source source_after : S} {holds : K → Option (List ℕ)}
    {writes_failed : K → ℕ} {sink : K}
    → HasInput Holds (left source) → ((input : List ℕ) → Holds input → Means input (refused fault.Limits))
    → IsAtEnd (left source_after) → reads_failed source_after ≡ reads_failed source
    → Runs Means of_text left reads_failed source source_after holds writes_failed sink sink (Err fault.Limits)
past_limits Means found means end read = record {
  ran = record { input = found.input; is_input = found.is_input; means = means found.input found.holds };
  reading = record { whole = tt; bound = tt; stopped = λ is. tt; ended = λ is. end; reads = read };
  writing = record { unwritten = inr refl; writes = refl };
}
