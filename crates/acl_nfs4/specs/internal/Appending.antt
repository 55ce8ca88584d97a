-- Bytes at the end of others: definitions that this library's code needs. No public clause cites them.
use Rattle.std.specs.Prelude.{◌≡◌, ℕ, List, ◌++◌, Result, Ok, Err}

-- bytes were added at the end, or the call failed and nothing changed
abbrev pub Extended : {E : Type 0} → List ℕ → List ℕ → List ℕ → Result (Unit {0}) E → Type 0
Extended old new more (Ok _) = new ≡ old ++ more
Extended old new more (Err _) = new ≡ old
