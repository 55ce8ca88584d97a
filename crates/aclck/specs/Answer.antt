-- What a command makes of an input, and what a run of it returns (this library's own).
use Rattle.std.specs.Prelude.{◌≡◌, ◌<◌, ◌∷◌, ◌++◌, [], List, ℕ, Bool, true, false, Option, codes, length, take, IfSome, Result, Ok, Err}
use Rattle.std.specs.Io.KnownBytes.{Appends}
use Rattle.acl_perm.specs.Lines.{line_feed}
use Rattle.acl_perm.specs.Profile.{Profile}
use Rattle.acl_perm.specs.declared.whole.InputFault.{InputFault}
use Rattle.acl_perm.specs.declared.whole.InputFault.TheVariants as read
use Rattle.acl_nfs4.specs.Fault.{IsWholeFault}
use Rattle.acl_nfs4.specs.declared.xdr.fault.Fault.{Fault}
use Rattle.acl_nfs4.specs.declared.xdr.fault.Reason.{Reason}
use Rattle.aclck.specs.declared.answer.Origin.{Origin}
use Rattle.aclck.specs.declared.answer.Origin.TheVariants as origin
use Rattle.aclck.specs.declared.answer.Outcome.{Outcome}
use Rattle.aclck.specs.declared.answer.Outcome.TheVariants as outcome
use Rattle.aclck.specs.declared.answer.RunFault.{RunFault}
use Rattle.aclck.specs.declared.answer.RunFault.TheVariants as fault

-- ---- answers

-- what a command makes of an input: an outcome and the whole text, or a fault that the input has
pub data Answer : Type 0 where
  done : Outcome → List ℕ → Answer
  refused : RunFault → Answer

-- the outcome is Yes
abbrev pub is_yes : Outcome → Bool
is_yes outcome.Yes = true
is_yes outcome.No = false

-- the word that reports a decision
abbrev pub decision : Bool → List ℕ
decision true = codes "granted"
decision false = codes "denied"

-- the line that reports a decision
abbrev pub decision_line : Outcome → List ℕ
decision_line o = decision (is_yes o) ++ line_feed ∷ []

-- a text with an outcome that is never No, or a fault that the input has
abbrev pub AnswersYes : (List ℕ → Type 0) → (RunFault → Type 0) → Answer → Type 0
AnswersYes IsMade Has (done o text) = (o ≡ outcome.Yes) × IsMade text
AnswersYes IsMade Has (refused f) = Has f

-- the fault is one that a list or lists have, in this sense of having one
pub record IsListFault (Has : ℕ → Reason → Type 0) (f : RunFault) : Type 0 where
  pub found : Fault
  pub is : f ≡ fault.Nfs found
  pub has : Has found.offset found.reason

-- the fault is one that these bytes have as one list of the profile and nothing more
abbrev pub IsXdrFault : Profile → List ℕ → RunFault → Type 0
IsXdrFault p input = IsListFault (IsWholeFault p input)

-- ---- faults

-- where a fault comes from: the one table of all faults
abbrev pub origin_of : RunFault → Origin
origin_of (fault.Nfs f) = origin.Input
origin_of (fault.NfsText f) = origin.Input
origin_of (fault.Posix f) = origin.Input
origin_of fault.Limits = origin.Input
origin_of fault.Read = origin.Source
origin_of (fault.Write w) = origin.Sink w
origin_of fault.Memory = origin.Memory

-- one of four, by the origin of a fault: the input, the source, the sink, or memory
abbrev pub by_origin : {X : Type 0} → X → X → X → X → Origin → X
by_origin input source sink memory origin.Input = input
by_origin input source sink memory origin.Source = source
by_origin input source sink memory (origin.Sink w) = sink
by_origin input source sink memory origin.Memory = memory

-- the origin is the input
abbrev pub is_input : Origin → Bool
is_input = by_origin true false false false

-- the origin is the source
abbrev pub is_source : Origin → Bool
is_source = by_origin false true false false

-- the origin is the sink
abbrev pub is_sink : Origin → Bool
is_sink = by_origin false false true false

-- the fault is one of the input
abbrev pub is_input_fault : RunFault → Bool
is_input_fault e = is_input (origin_of e)

-- the fault is one of the source
abbrev pub is_read : RunFault → Bool
is_read e = is_source (origin_of e)

-- the fault is one of the sink
abbrev pub is_write : RunFault → Bool
is_write e = is_sink (origin_of e)

-- the faults of whole reads as an engine reports them
abbrev pub run_fault_of : InputFault → RunFault
run_fault_of read.Read = fault.Read
run_fault_of read.Memory = fault.Memory

-- the result is that a read failed
abbrev pub has_read_failed : {X : Type 0} → Result X RunFault → Bool
has_read_failed (Ok x) = false
has_read_failed (Err e) = is_read e

-- the result is that a write failed
abbrev pub has_write_failed : Result Outcome RunFault → Bool
has_write_failed (Ok o) = false
has_write_failed (Err e) = is_write e

-- ---- runs: over a source of bytes that may be known, to a sink that held `held` and holds `holds`

-- the input's answer is this outcome with a text, and the text was written
pub record Finishes (Means : List ℕ → Answer → Type 0) (known held holds : Option (List ℕ)) (o : Outcome) : Type 0 where
  pub input : List ℕ
  pub text : List ℕ
  pub is_input : IfSome known (λ bytes. input ≡ bytes)
  pub means : Means input (done o text)
  pub written : Appends held holds text

-- the input's answer is a text, and a proper beginning of it was written
pub record Begins (Means : List ℕ → Answer → Type 0) (known held holds : Option (List ℕ)) (count : ℕ) : Type 0 where
  pub input : List ℕ
  pub outcome : Outcome
  pub text : List ℕ
  pub is_input : IfSome known (λ bytes. input ≡ bytes)
  pub means : Means input (done outcome text)
  pub short : count < length text
  pub written : Appends held holds (take count text)

-- the input is refused with this fault
pub record Refuses (Means : List ℕ → Answer → Type 0) (known : Option (List ℕ)) (f : RunFault) : Type 0 where
  pub input : List ℕ
  pub is_input : IfSome known (λ bytes. input ≡ bytes)
  pub means : Means input (refused f)

-- what a fault of this origin says about the input and about what was written
abbrev pub FailsBy : (List ℕ → Answer → Type 0) → Option (List ℕ) → Option (List ℕ) → Option (List ℕ)
    → RunFault → Origin → Type 0
FailsBy Means known held holds e origin.Input = Refuses Means known e
FailsBy Means known held holds e origin.Source = Unit {0}
FailsBy Means known held holds e (origin.Sink w) = Begins Means known held holds w.written
FailsBy Means known held holds e origin.Memory = Unit {0}

-- what a fault says about the input and about what was written
abbrev pub Fails :
    (List ℕ → Answer → Type 0) → Option (List ℕ) → Option (List ℕ) → Option (List ℕ) → RunFault → Type 0
Fails Means known held holds e = FailsBy Means known held holds e (origin_of e)

-- a run that should find an input's answer and write its text
abbrev pub Ran :
    (List ℕ → Answer → Type 0) → Option (List ℕ) → Option (List ℕ) → Option (List ℕ) → Result Outcome RunFault → Type 0
Ran Means known held holds (Ok o) = Finishes Means known held holds o
Ran Means known held holds (Err e) = Fails Means known held holds e
