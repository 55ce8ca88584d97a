-- Bytes and values in what callers give for them (this library's own).
use Rattle.std.specs.Prelude.{◌≡◌, ◌≢◌, ◌<◌, ◌≤◌, ◌++◌, ℕ, Bool, List, length, drop, false, true}
use Rattle.aclck_c.specs.Status as status

-- the buffer begins with the text, and is as it was after the text
pub record Puts {A : Type 0} (text buffer buffer_after : List A) : Type 0 where
  pub room : length text ≤ length buffer
  pub put : buffer_after ≡ text ++ drop (length text) buffer

-- the buffer begins with a text that satisfies this, and the length of the text is reported
pub record HandsOut {A : Type 0} (Means : List A → Type 0) (buffer buffer_after : List A) (needed_after : ℕ)
    : Type 0 where
  pub text : List A
  pub means : Means text
  pub puts : Puts text buffer buffer_after
  pub reported : needed_after ≡ length text

-- a text that satisfies this is longer than the buffer, and its length is reported
pub record IsShortFor {A : Type 0} (Means : List A → Type 0) (buffer : List A) (needed_after : ℕ) : Type 0 where
  pub text : List A
  pub means : Means text
  pub short : length buffer < length text
  pub reported : needed_after ≡ length text

-- the effect of a call that writes bytes of this meaning on the buffer and on the reported length
pub record WritesBytes {A : Type 0} (Means : List A → Type 0) (buffer buffer_after : List A)
    (needed needed_after returned : ℕ) : Type 0 where
  -- the bytes are at the front of the buffer
  pub done : returned ≡ status.done → HandsOut Means buffer buffer_after needed_after
  -- the bytes are longer than the buffer
  pub short : returned ≡ status.short → IsShortFor Means buffer needed_after
  -- at every other status the buffer is as it was
  pub unwritten : (returned ≢ status.done) → buffer_after ≡ buffer
  -- at every other status the reported length is as it was
  pub unreported : status.IfUnanswered returned (needed_after ≡ needed)

-- the effect of a call that writes a value of this meaning
pub record WritesValue {A : Type 0} (Means : A → Type 0) (value value_after : A) (returned : ℕ) : Type 0 where
  -- the value is written
  pub done : returned ≡ status.done → Means value_after
  -- at every other status the value is as it was
  pub unwritten : (returned ≢ status.done) → value_after ≡ value

-- the effect of a call that answers a question about access: if it fails, it gives the closed answer, which grants
-- nothing
pub record GivesAnswer {A : Type 0} (Means : A → Type 0) (closed answer : A) (returned : ℕ) : Type 0 where
  -- the answer is written
  pub done : returned ≡ status.done → Means answer
  -- at every other status the answer is the closed one
  pub failed : (returned ≢ status.done) → answer ≡ closed

-- the number of an answer: 1 for true, and 0 for false
abbrev pub truth_number : Bool → ℕ
truth_number false = 0
truth_number true = 1

-- the number is that of an answer that satisfies this
pub record IsTruthOf (Holds : Bool → Type 0) (number : ℕ) : Type 0 where
  pub answer : Bool
  pub holds : Holds answer
  pub is : number ≡ truth_number answer
