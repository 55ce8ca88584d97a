-- What a call promises, by what it made.
use Rattle.std.proofs.Common.{◌≡◌, ◌<◌, ℕ, List, Result, Ok, Err, arith, inl, inr, subst, sym}
use Rattle.std.specs.Prelude.{⊤, ◌≢◌, ◌++◌, IfErr, IfOk}
use Rattle.std.specs.Global.{Vec}
use Rattle.acl_perm.specs.Profile.{Profile}
use Rattle.aclck_c.specs.Call.{JudgesInput, ReportsFault, WritesOfEntries, WritesOfFile, WritesOfList}
use Rattle.aclck_c.specs.Lists.{AreList, IsRefusedList}
use Rattle.aclck_c.specs.Names.{AreGoodNames}
use Rattle.aclck_c.specs.Out.{WritesBytes}
use Rattle.aclck_c.specs.Status as status
use Rattle.aclck_c.specs.declared.failure.Failure.{Failure}
use Rattle.aclck_c.specs.declared.failure.Failure.TheVariants as failure
use Rattle.aclck_c.specs.declared.posix.file.RawPosixText.{RawPosixText}
use Rattle.aclck_c.specs.declared.refusal.Refusal.{Refusal}
use Rattle.aclck_c.specs.internal.Endings.{EndsCall, ReportsFailure}
use Rattle.aclck_c.specs.internal.Failures.{IsFailure, IsListFailure}

-- a call that fails returns neither 0 nor 5
pub fails_without_bytes : (f : Failure) (fault after : Refusal) (returned : ℕ) → ReportsFailure f fault after returned
    → (returned ≡ status.done → ⊥) × (returned ≡ status.short → ⊥)
fails_without_bytes failure.BadArgument fault after returned reports =
    (λ is. omega (arith, is, reports.0), λ is. omega (arith, is, reports.0))
fails_without_bytes (failure.Refused shown) fault after returned reports =
    (λ is. omega (arith, is, reports.0), λ is. omega (arith, is, reports.0))
fails_without_bytes failure.Memory fault after returned reports =
    (λ is. omega (arith, is, reports.0), λ is. omega (arith, is, reports.0))

-- a call that made bytes returns 0 or 5
puts_no_other : {A : Type 0} (bytes : Vec A) {buffer buffer_after : List A} {needed needed_after : ℕ}
    {fault fault_after : Refusal} {returned : ℕ}
    → EndsCall (Ok bytes) buffer buffer_after needed needed_after fault fault_after returned
    → (number : ℕ) → 0 < number → number < 5 → returned ≡ number → ⊥
puts_no_other bytes ends number above below is = elim ends.put.known [
  | inl put ↦ omega (arith, above, is, put)
  | inr put ↦ omega (arith, below, is, put)
]

-- the bytes that a call made are in the buffer
pub writes_bytes : {A : Type 0} (Means : List A → Type 0) (made : Result (Vec A) Failure) {buffer buffer_after : List A}
    {needed needed_after : ℕ} {fault fault_after : Refusal} {returned : ℕ}
    → IfOk made (λ bytes. Means bytes.items)
    → EndsCall made buffer buffer_after needed needed_after fault fault_after returned
    → WritesBytes Means buffer buffer_after needed needed_after returned
writes_bytes Means (Ok bytes) means ends = record {
  done = λ is. record { text = bytes.items; means = means; puts = ends.put.put is; reported = ends.put.reported };
  short = λ is. record { text = bytes.items; means = means; short = ends.put.short is; reported = ends.put.reported };
  unwritten = λ not. elim ends.put.known [
    | inl is ↦ absurd (not is)
    | inr is ↦ ends.put.unwritten is
  ];
  unreported = λ not fits. elim ends.put.known [
    | inl is ↦ absurd (not is)
    | inr is ↦ absurd (fits is)
  ];
}
writes_bytes Means (Err f) {fault} {fault_after} {returned} means ends =
    let fails = fails_without_bytes f fault fault_after returned ends.reported in
    record {
      done = λ is. absurd (fails.0 is);
      short = λ is. absurd (fails.1 is);
      unwritten = λ _. ends.unwritten;
      unreported = λ _ _. ends.unreported;
    }

-- what bytes say that they also say in other words
pub in_words : {A : Type 0} (Means Says : List A → Type 0) (made : Result (Vec A) Failure)
    → ((text : List A) → Means text → Says text) → IfOk made (λ bytes. Means bytes.items)
    → IfOk made (λ bytes. Says bytes.items)
in_words Means Says (Ok bytes) follows means = follows bytes.items means
in_words Means Says (Err f) follows means = tt

-- the fault of the caller is that of the failure
pub reports_fault : {A : Type 0} (AreGood Known : Type 0) (IsRefused : Refusal → Type 0) (made : Result (Vec A) Failure)
    {buffer buffer_after : List A} {needed needed_after : ℕ} {fault fault_after : Refusal} {returned : ℕ}
    → IfErr made (IsFailure AreGood IsRefused Known)
    → EndsCall made buffer buffer_after needed needed_after fault fault_after returned
    → ReportsFault IsRefused fault fault_after returned
reports_fault AreGood Known IsRefused (Ok bytes) says ends =
    record { refused = λ is. absurd (puts_no_other bytes ends 2 (omega arith) (omega arith) is); kept = λ _. ends.kept }
reports_fault AreGood Known IsRefused (Err failure.BadArgument) says ends =
    record { refused = λ is. absurd (omega (arith, is, ends.reported.0)); kept = λ _. ends.reported.1 }
reports_fault AreGood Known IsRefused (Err (failure.Refused shown)) says ends =
    record { refused = λ _. subst IsRefused (sym ends.reported.1) says; kept = λ not. absurd (not ends.reported.0) }
reports_fault AreGood Known IsRefused (Err failure.Memory) says ends =
    record { refused = λ is. absurd (omega (arith, is, ends.reported.0)); kept = λ _. ends.reported.1 }

-- what is known if memory ran out
knows_at_memory : {A : Type 0} (AreGood Known : Type 0) (IsRefused : Refusal → Type 0) (made : Result (Vec A) Failure)
    {buffer buffer_after : List A} {needed needed_after : ℕ} {fault fault_after : Refusal} {returned : ℕ}
    → IfErr made (IsFailure AreGood IsRefused Known)
    → EndsCall made buffer buffer_after needed needed_after fault fault_after returned
    → returned ≡ status.memory → Known
knows_at_memory AreGood Known IsRefused (Ok bytes) says ends is =
    absurd (puts_no_other bytes ends 4 (omega arith) (omega arith) is)
knows_at_memory AreGood Known IsRefused (Err failure.BadArgument) says ends is =
    absurd (omega (arith, is, ends.reported.0))
knows_at_memory AreGood Known IsRefused (Err (failure.Refused shown)) says ends is =
    absurd (omega (arith, is, ends.reported.0))
knows_at_memory AreGood Known IsRefused (Err failure.Memory) says ends is = says

-- what is known if an argument is bad
pub bad_argument : {A : Type 0} (AreGood Known : Type 0) (IsRefused : Refusal → Type 0) (made : Result (Vec A) Failure)
    {buffer buffer_after : List A} {needed needed_after : ℕ} {fault fault_after : Refusal} {returned : ℕ}
    → IfErr made (IsFailure AreGood IsRefused Known)
    → EndsCall made buffer buffer_after needed needed_after fault fault_after returned
    → returned ≡ status.bad_argument → AreGood → ⊥
bad_argument AreGood Known IsRefused (Ok bytes) says ends is =
    absurd (puts_no_other bytes ends 3 (omega arith) (omega arith) is)
bad_argument AreGood Known IsRefused (Err failure.BadArgument) says ends is = says
bad_argument AreGood Known IsRefused (Err (failure.Refused shown)) says ends is =
    absurd (omega (arith, is, ends.reported.0))
bad_argument AreGood Known IsRefused (Err failure.Memory) says ends is = absurd (omega (arith, is, ends.reported.0))

-- no other status is returned
pub is_known_status : {A : Type 0} (made : Result (Vec A) Failure) {buffer buffer_after : List A}
    {needed needed_after : ℕ} {fault fault_after : Refusal} {returned : ℕ}
    → EndsCall made buffer buffer_after needed needed_after fault fault_after returned
    → status.IsOneOf (status.done_or_short ++ status.failures) returned
is_known_status (Ok bytes) ends = elim ends.put.known [
  | inl is ↦ inl is
  | inr is ↦ inr (inl is)
]
is_known_status (Err (failure.Refused shown)) ends = inr (inr (inl ends.reported.0))
is_known_status (Err failure.BadArgument) ends = inr (inr (inr (inl ends.reported.0)))
is_known_status (Err failure.Memory) ends = inr (inr (inr (inr (inl ends.reported.0))))

-- what a call says about its input, with arguments that are good
pub judges_input : {A : Type 0} (AreGood Known : Type 0) (IsRefused : Refusal → Type 0) (made : Result (Vec A) Failure)
    {buffer buffer_after : List A} {needed needed_after : ℕ} {fault fault_after : Refusal} {returned : ℕ}
    → AreGood → IfErr made (IsFailure ⊤ IsRefused Known)
    → EndsCall made buffer buffer_after needed needed_after fault fault_after returned
    → JudgesInput IsRefused Known AreGood status.done_or_short fault fault_after returned
judges_input AreGood Known IsRefused made good says ends = record {
  refusal = reports_fault ⊤ Known IsRefused made says ends;
  memory = knows_at_memory ⊤ Known IsRefused made says ends;
  arguments = record { bad = λ is _. bad_argument ⊤ Known IsRefused made says ends is tt; good = λ _. good };
  known = is_known_status made ends;
}

-- a call that made bytes of a list, with arguments that are good
pub writes_of_list : {p q : Profile} {list : List ℕ} {AreGood : Type 0} (Means : Profile → List ℕ → Type 0)
    {made : Result (Vec ℕ) Failure} {buffer buffer_after : List ℕ} {needed needed_after : ℕ}
    {fault fault_after : Refusal} {returned : ℕ}
    → q ≡ p → AreGood → IfOk made (λ bytes. Means q bytes.items) → IfErr made (IsListFailure q list 0)
    → EndsCall made buffer buffer_after needed needed_after fault fault_after returned
    → WritesOfList p list AreGood (Means p) buffer buffer_after needed needed_after fault fault_after returned
writes_of_list {p} {list} {AreGood} Means {made} same good means says ends =
    let says_p = subst (λ (r : Profile). IfErr made (IsListFailure r list 0)) same says in
    record {
      bytes = writes_bytes (Means p) made
          (subst (λ (r : Profile). IfOk made (λ bytes. Means r bytes.items)) same means) ends;
      input = judges_input AreGood (AreList p list) (IsRefusedList p list 0) made good says_p ends;
    }

-- a call that made items of POSIX entries, with arguments that are good
pub writes_of_entries : {A : Type 0} {AreGood : Type 0} {IsRefused : Refusal → Type 0} {Means : List A → Type 0}
    {made : Result (Vec A) Failure} {buffer buffer_after : List A} {needed needed_after : ℕ}
    {fault fault_after : Refusal} {returned : ℕ}
    → AreGood → IfOk made (λ items. Means items.items) → IfErr made (IsFailure ⊤ IsRefused ⊤)
    → EndsCall made buffer buffer_after needed needed_after fault fault_after returned
    → WritesOfEntries AreGood IsRefused Means buffer buffer_after needed needed_after fault fault_after returned
writes_of_entries {AreGood} {IsRefused} {Means} {made} good means says ends = record {
  items = writes_bytes Means made means ends;
  input = judges_input AreGood ⊤ IsRefused made good says ends;
}

-- the names are good, unless an argument is bad or memory ran out
names_are_good : {A : Type 0} (given : RawPosixText) (IsRefused : Refusal → Type 0) (Means : List A → Type 0)
    (made : Result (Vec A) Failure) {buffer buffer_after : List A} {needed needed_after : ℕ}
    {fault fault_after : Refusal} {returned : ℕ}
    → ((text : List A) → Means text → AreGoodNames given.names.now)
    → ((shown : Refusal) → IsRefused shown → AreGoodNames given.names.now)
    → IfOk made (λ bytes. Means bytes.items) → IfErr made (IsFailure (AreGoodNames given.names.now) IsRefused ⊤)
    → EndsCall made buffer buffer_after needed needed_after fault fault_after returned
    → (returned ≢ status.bad_argument) → (returned ≢ status.memory) → AreGoodNames given.names.now
names_are_good given IsRefused Means (Ok bytes) by_text by_refusal means says ends not_bad not_memory =
    by_text bytes.items means
names_are_good given IsRefused Means (Err failure.BadArgument) by_text by_refusal means says ends not_bad not_memory =
    absurd (not_bad ends.reported.0)
names_are_good given IsRefused Means (Err (failure.Refused shown)) by_text by_refusal means says ends not_bad
    not_memory = by_refusal shown says
names_are_good given IsRefused Means (Err failure.Memory) by_text by_refusal means says ends not_bad not_memory =
    absurd (not_memory ends.reported.0)

-- a call that made bytes of the text of POSIX ACLs, with arguments other than the names that are good
pub writes_of_file : {A : Type 0} {given : RawPosixText} {IsRefused : Refusal → Type 0} {AreGood : Type 0}
    {Means : List A → Type 0} {made : Result (Vec A) Failure} {buffer buffer_after : List A} {needed needed_after : ℕ}
    {fault fault_after : Refusal} {returned : ℕ}
    → ((text : List A) → Means text → AreGoodNames given.names.now)
    → ((shown : Refusal) → IsRefused shown → AreGoodNames given.names.now)
    → AreGood → IfOk made (λ bytes. Means bytes.items)
    → IfErr made (IsFailure (AreGoodNames given.names.now) IsRefused ⊤)
    → EndsCall made buffer buffer_after needed needed_after fault fault_after returned
    → WritesOfFile given AreGood IsRefused Means buffer buffer_after needed needed_after fault fault_after returned
writes_of_file {given} {IsRefused} {Means} {made} by_text by_refusal good means says ends = record {
  bytes = writes_bytes Means made means ends;
  input = record {
    refusal = reports_fault (AreGoodNames given.names.now) ⊤ IsRefused made says ends;
    arguments = record {
      bad = λ is named _. bad_argument (AreGoodNames given.names.now) ⊤ IsRefused made says ends is named;
      good = λ _. good;
      named = names_are_good given IsRefused Means made by_text by_refusal means says ends;
    };
    known = is_known_status made ends;
  };
}
