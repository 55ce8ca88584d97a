-- What calls from C promise (this library's own): what each status says about the answer, the arguments and the input.
use Rattle.std.specs.Prelude.{◌≡◌, ◌≢◌, ◌++◌, ℕ, List, ⊤}
use Rattle.acl_perm.specs.Profile.{Profile}
use Rattle.aclck_c.specs.Compare.{IsRefusedPair}
use Rattle.acl_posix.specs.declared.raw_entry.RawEntry.{RawEntry}
use Rattle.aclck_c.specs.Entries.{AreRefusedInOrder}
use Rattle.aclck_c.specs.Lists.{AreList, IsRefusedList}
use Rattle.aclck_c.specs.Names.{AreGoodNames}
use Rattle.aclck_c.specs.Out.{WritesBytes}
use Rattle.aclck_c.specs.Posix.{IsRefusedPosix}
use Rattle.aclck_c.specs.Status as status
use Rattle.aclck_c.specs.declared.posix.file.RawPosixText.{RawPosixText}
use Rattle.aclck_c.specs.declared.refusal.Refusal.{Refusal}

-- the effect of a call on the fault of its caller
pub record ReportsFault (IsRefused : Refusal → Type 0) (fault fault_after : Refusal) (returned : ℕ) : Type 0 where
  -- the input has the fault that is reported
  pub refused : returned ≡ status.refused → IsRefused fault_after
  -- at every other status the fault is as it was
  pub kept : (returned ≢ status.refused) → fault_after ≡ fault

-- the status is that of a bad argument if and only if an argument is bad
pub record JudgesArguments (AreGood : Type 0) (returned : ℕ) : Type 0 where
  pub bad : returned ≡ status.bad_argument → AreGood → ⊥
  pub good : (returned ≢ status.bad_argument) → AreGood

-- the promise of `JudgesArguments` for a call that also takes names
pub record JudgesNames (given : RawPosixText) (AreGood : Type 0) (returned : ℕ) : Type 0 where
  pub bad : returned ≡ status.bad_argument → AreGoodNames given.names.now → AreGood → ⊥
  pub good : (returned ≢ status.bad_argument) → AreGood
  -- if memory runs out, nothing is said about the names
  pub named : (returned ≢ status.bad_argument) → (returned ≢ status.memory) → AreGoodNames given.names.now

-- what a call promises about its input and its arguments, if these are the statuses at which they are good
pub record JudgesInput (IsRefused : Refusal → Type 0) (Known AreGood : Type 0) (others : List ℕ)
    (fault fault_after : Refusal) (returned : ℕ) : Type 0 where
  pub refusal : ReportsFault IsRefused fault fault_after returned
  -- what is known of the input if memory runs out
  pub memory : returned ≡ status.memory → Known
  pub arguments : JudgesArguments AreGood returned
  -- no other status is returned
  pub known : status.IsOneOf (others ++ status.failures) returned

-- the promise of `JudgesInput` for a call that reads the text of POSIX ACLs
pub record ReadsFile (given : RawPosixText) (IsRefused : Refusal → Type 0) (AreGood : Type 0) (others : List ℕ)
    (fault fault_after : Refusal) (returned : ℕ) : Type 0 where
  pub refusal : ReportsFault IsRefused fault fault_after returned
  pub arguments : JudgesNames given AreGood returned
  -- no other status is returned
  pub known : status.IsOneOf (others ++ status.failures) returned

-- a call that only looks at the bytes of a list takes no memory
abbrev pub LooksAtList : Profile → List ℕ → Type 0 → Refusal → Refusal → ℕ → Type 0
LooksAtList p list AreGood = JudgesInput (IsRefusedList p list 0) ⊥ AreGood status.only_done

-- bytes with a fault are refused with that fault, also if memory runs out
abbrev pub ReadsList : Profile → List ℕ → Type 0 → Refusal → Refusal → ℕ → Type 0
ReadsList p list AreGood = JudgesInput (IsRefusedList p list 0) (AreList p list) AreGood status.done_or_short

-- bytes with a fault are refused with that fault, also if memory runs out, but for those of the second list
abbrev pub ReadsTwoLists : Profile → List ℕ → List ℕ → Type 0 → List ℕ → Refusal → Refusal → ℕ → Type 0
ReadsTwoLists p first second = JudgesInput (IsRefusedPair p first second) (AreList p first)

-- what a call promises that makes bytes of the list that bytes spell
pub record WritesOfList (p : Profile) (list : List ℕ) (AreGood : Type 0) (Means : List ℕ → Type 0)
    (buffer buffer_after : List ℕ) (needed needed_after : ℕ) (fault fault_after : Refusal) (returned : ℕ) : Type 0 where
  pub bytes : WritesBytes Means buffer buffer_after needed needed_after returned
  pub input : ReadsList p list AreGood fault fault_after returned

-- what a call promises that makes bytes or entries of the text of POSIX ACLs
pub record WritesOfFile {A : Type 0} (given : RawPosixText) (AreGood : Type 0) (IsRefused : Refusal → Type 0)
    (Means : List A → Type 0) (buffer buffer_after : List A) (needed needed_after : ℕ)
    (fault fault_after : Refusal) (returned : ℕ) : Type 0 where
  pub bytes : WritesBytes Means buffer buffer_after needed needed_after returned
  pub input : ReadsFile given IsRefused AreGood status.done_or_short fault fault_after returned

-- the promise of `WritesOfFile` for a call that refuses only what is no text of POSIX ACLs
abbrev pub WritesOfText : RawPosixText → Type 0 → (List ℕ → Type 0) → List ℕ → List ℕ → ℕ → ℕ
    → Refusal → Refusal → ℕ → Type 0
WritesOfText given AreGood = WritesOfFile given AreGood (IsRefusedPosix given)

-- a call that looks at POSIX entries, which must be in canonical order, takes no memory
abbrev pub LooksAtEntries : List RawEntry → Type 0 → Refusal → Refusal → ℕ → Type 0
LooksAtEntries raws AreGood = JudgesInput (AreRefusedInOrder raws) ⊥ AreGood status.only_done

-- a call over POSIX entries; if memory runs out, nothing is said about them
abbrev pub ReadsEntries : (Refusal → Type 0) → Type 0 → Refusal → Refusal → ℕ → Type 0
ReadsEntries IsRefused AreGood = JudgesInput IsRefused ⊤ AreGood status.done_or_short

-- what a call promises that makes bytes or entries of POSIX entries
pub record WritesOfEntries {A : Type 0} (AreGood : Type 0) (IsRefused : Refusal → Type 0) (Means : List A → Type 0)
    (buffer buffer_after : List A) (needed needed_after : ℕ) (fault fault_after : Refusal) (returned : ℕ)
    : Type 0 where
  pub items : WritesBytes Means buffer buffer_after needed needed_after returned
  pub input : ReadsEntries IsRefused AreGood fault fault_after returned
