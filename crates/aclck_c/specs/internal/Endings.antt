-- How calls end (this library's own; only the code needs it).
use Rattle.std.specs.Prelude.{◌≡◌, ◌<◌, ◌⊎◌, ℕ, Bool, Err, IfErr, IfOk, List, Ok, OnErr, OnOk, Result, length}
use Rattle.std.specs.Global.{Vec}
use Rattle.aclck_c.specs.Out.{Puts, truth_number}
use Rattle.aclck_c.specs.Status as status
use Rattle.aclck_c.specs.declared.failure.Failure.{Failure}
use Rattle.aclck_c.specs.declared.failure.Failure.TheVariants as failure
use Rattle.aclck_c.specs.declared.out.Made.{Made}
use Rattle.aclck_c.specs.declared.refusal.Refusal.{Refusal}

-- the effect of bytes on the buffer and on the reported length, and the status
pub record PutsIfRoom {A : Type 0} (bytes buffer buffer_after : List A) (needed_after returned : ℕ) : Type 0 where
  pub reported : needed_after ≡ length bytes
  pub put : returned ≡ status.done → Puts bytes buffer buffer_after
  pub short : returned ≡ status.short → length buffer < length bytes
  pub unwritten : returned ≡ status.short → buffer_after ≡ buffer
  pub known : (returned ≡ status.done) ⊎ (returned ≡ status.short)

-- the effect of a failure on the fault of the caller, and the status
abbrev pub ReportsFailure : Failure → Refusal → Refusal → ℕ → Type 0
ReportsFailure failure.BadArgument shown shown_after returned =
    (returned ≡ status.bad_argument) × (shown_after ≡ shown)
ReportsFailure (failure.Refused found) shown shown_after returned =
    (returned ≡ status.refused) × (shown_after ≡ found)
ReportsFailure failure.Memory shown shown_after returned = (returned ≡ status.memory) × (shown_after ≡ shown)

-- the effect of an answer that a call found, or of its failure, and the status
abbrev pub EndsAnswer : {A : Type 0} → Result A Failure → A → A → Refusal → Refusal → ℕ → Type 0
EndsAnswer (Ok found) answer answer_after fault fault_after returned =
    (returned ≡ status.done) × (answer_after ≡ found) × (fault_after ≡ fault)
EndsAnswer (Err f) answer answer_after fault fault_after returned =
    ReportsFailure f fault fault_after returned × (answer_after ≡ answer)

-- the effect of a yes or no that a call found, or of its failure, and the status
abbrev pub EndsTruth : Result Bool Failure → ℕ → ℕ → Refusal → Refusal → ℕ → Type 0
EndsTruth (Ok found) answer answer_after fault fault_after returned =
    (returned ≡ status.done) × (answer_after ≡ truth_number found) × (fault_after ≡ fault)
EndsTruth (Err f) answer answer_after fault fault_after returned =
    ReportsFailure f fault fault_after returned × (answer_after ≡ answer)

-- the effect of the bytes that a call made, or of its failure, and the status
pub record EndsCall {A : Type 0} (made : Result (Vec A) Failure) (buffer buffer_after : List A)
    (needed needed_after : ℕ) (fault fault_after : Refusal) (returned : ℕ) : Type 0 where
  pub put : IfOk made (λ bytes. PutsIfRoom bytes.items buffer buffer_after needed_after returned)
  pub kept : OnOk made (fault_after ≡ fault)
  pub reported : IfErr made (λ f. ReportsFailure f fault fault_after returned)
  pub unwritten : OnErr made (buffer_after ≡ buffer)
  pub unreported : OnErr made (needed_after ≡ needed)

-- the effect of the value and the items that a call made, or of its failure, and the status
pub record EndsBoth {V A : Type 0} (made : Result (Made V A) Failure) (value value_after : V)
    (buffer buffer_after : List A) (needed needed_after : ℕ) (fault fault_after : Refusal) (returned : ℕ)
    : Type 0 where
  pub put : IfOk made (λ m. PutsIfRoom m.items.items buffer buffer_after needed_after returned)
  pub written : IfOk made (λ m. value_after ≡ m.value)
  pub kept : OnOk made (fault_after ≡ fault)
  pub reported : IfErr made (λ f. ReportsFailure f fault fault_after returned)
  pub left : OnErr made (value_after ≡ value)
  pub unwritten : OnErr made (buffer_after ≡ buffer)
  pub unreported : OnErr made (needed_after ≡ needed)
