-- What calls from C return (this library's own): `enum aclck_status` of `aclck.h` has these names.
use Rattle.std.specs.Prelude.{◌≡◌, ◌≢◌, ◌⊎◌, ◌∷◌, [], ℕ, List}

-- the answer is written; every other status means that the call failed
abbrev pub done : ℕ
done = 0

-- the list or the text is refused
abbrev pub refused : ℕ
refused = 2

-- a name is empty, or a number or an option means nothing
abbrev pub bad_argument : ℕ
bad_argument = 3

-- memory ran out
abbrev pub memory : ℕ
memory = 4

-- the buffer is too short
abbrev pub short : ℕ
short = 5

-- what holds if the call has no answer: there is one at `done`, and at `short` the buffer is too short for it
abbrev pub IfUnanswered : ℕ → Type 0 → Type 0
IfUnanswered returned Holds = (returned ≢ done) → (returned ≢ short) → Holds

-- the status is one of these
abbrev pub IsOneOf : List ℕ → ℕ → Type 0
IsOneOf [] returned = ⊥
IsOneOf (s ∷ statuses) returned = (returned ≡ s) ⊎ IsOneOf statuses returned

-- what a call returns, unless it fails for its input, its arguments, or memory
abbrev pub only_done : List ℕ
only_done = done ∷ []

-- what a call that writes into a buffer returns, unless it fails for its input, its arguments, or memory
abbrev pub done_or_short : List ℕ
done_or_short = done ∷ short ∷ []

-- what every call returns that fails for its input, its arguments, or memory
abbrev pub failures : List ℕ
failures = refused ∷ bad_argument ∷ memory ∷ []
