-- What a run of an engine does to its source and its sink (this library's own).
use Rattle.std.specs.Prelude.{◌≡◌, ◌⊎◌, List, ℕ, Option, true, IfErr, OnOk, Result}
use Rattle.std.specs.Io.KnownBytes.{IsAtEnd}
use Rattle.acl_perm.specs.Devices.{failures_after}
use Rattle.acl_perm.specs.Profile.{Profile}
use Rattle.aclck.specs.Answer.{Answer, Ran, has_read_failed, has_write_failed, is_read, is_input_fault, is_write}
use Rattle.aclck.specs.ListInput.{TakesLittle, TakesLittleOfTwo, TakesOpen, TakesOpenOfTwo}
use Rattle.aclck.specs.declared.answer.Outcome.{Outcome}
use Rattle.aclck.specs.declared.answer.RunFault.{RunFault}

-- what kind an input is: a text, one list, or two
pub data Shape : Type 0 where
  of_text : Shape
  of_list : Profile → Shape
  of_two : Profile → Shape

-- what a run takes of its source: of a text everything that the source gives, and of lists little more than their bytes
abbrev pub Takes : Shape → Option (List ℕ) → Option (List ℕ) → Type 0
Takes of_text known left = Unit {0}
Takes (of_list p) known left = TakesLittle p known left
Takes (of_two p) known left = TakesLittleOfTwo p known left

-- what a run has taken from its source when a read fails: for a text any bytes, and for lists only bytes that do not
-- refuse them
abbrev pub Stops : Shape → Option (List ℕ) → Option (List ℕ) → Type 0
Stops of_text known left = Unit {0}
Stops (of_list p) known left = TakesOpen p known left
Stops (of_two p) known left = TakesOpenOfTwo p known left

-- a text that is refused was read to its end
abbrev pub Ends : Shape → Option (List ℕ) → Type 0
Ends of_text left = IsAtEnd left
Ends (of_list p) left = Unit {0}
Ends (of_two p) left = Unit {0}

-- the effect of a run over an input of this shape on a source: the bytes that it has left before and after, and how
-- many of its calls failed
pub record RunReads {S : Type 0} (shape : Shape) (left : S → Option (List ℕ)) (reads_failed : S → ℕ)
    (source source_after : S) (r : Result Outcome RunFault) : Type 0 where
  -- if the run ended well, the input was read to its end
  pub whole : OnOk r (IsAtEnd (left source_after))
  -- little of the source was taken
  pub bound : Takes shape (left source) (left source_after)
  -- if a read failed, what was taken is not refused
  pub stopped : IfErr r (λ e. is_read e ≡ true → Stops shape (left source) (left source_after))
  -- a text that is refused was read to its end
  pub ended : IfErr r (λ e. is_input_fault e ≡ true → Ends shape (left source_after))
  -- one read failed if the result says so, and otherwise none
  pub reads : reads_failed source_after ≡ failures_after (reads_failed source) (has_read_failed r)

-- the effect of a run on a sink, and how many of its calls failed before and after
pub record RunWrites {K : Type 0} (writes_failed : K → ℕ) (sink sink_after : K) (r : Result Outcome RunFault)
    : Type 0 where
  -- nothing was written, unless a write failed
  pub unwritten : IfErr r (λ e. (is_write e ≡ true) ⊎ (sink_after ≡ sink))
  -- one write failed if the result says so, and otherwise none
  pub writes : writes_failed sink_after ≡ failures_after (writes_failed sink) (has_write_failed r)

-- the effect of a run over an input of this shape, with answers of this meaning, on a source and a sink
pub record Runs {S K : Type 0} (Means : List ℕ → Answer → Type 0) (shape : Shape)
    (left : S → Option (List ℕ)) (reads_failed : S → ℕ) (source source_after : S)
    (holds : K → Option (List ℕ)) (writes_failed : K → ℕ) (sink sink_after : K)
    (r : Result Outcome RunFault) : Type 0 where
  -- the answer is that of the input, and its text was written, or a beginning of it if a write failed
  pub ran : Ran Means (left source) (holds sink) (holds sink_after) r
  -- what was read
  pub reading : RunReads shape left reads_failed source source_after r
  -- what was written
  pub writing : RunWrites writes_failed sink sink_after r
