-- How a definition continues with the value of a step before it, or ends with the fault of that step: the meaning of
-- `do` in the definitions of all crates (this library's own).
use Rattle.std.specs.Prelude.{Result, Ok, Err}

infixl 10 ◌>>=◌
-- the next step with the value of this one, or this one's error
abbrev pub ◌>>=◌ : {A B E : Type 0} → Result A E → (A → Result B E) → Result B E
(Ok x) >>= f = f x
(Err e) >>= f = Err e
