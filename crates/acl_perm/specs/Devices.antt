-- What a pull, a put and a count of failures mean (this library's own).
use Rattle.std.specs.Prelude.{◌==◌, ◌&&◌, ◌+◌, ◌-◌, ◌^◌, ℕ, Bool, true, false, List, length, min, nat_lt, take, Result, Ok, Err, Option, None, if◌then◌else◌, MatchResult}
use Rattle.std.specs.Io.KnownBytes.{Consumes, Keeps}

-- one more failure; the number stops at `u64::MAX`
abbrev pub one_more : ℕ → ℕ
one_more n = min (n + 1) (2 ^ 64 - 1)

-- a pull failed
abbrev pub pull_failed : {E : Type 0} → Result ℕ E → Bool
pull_failed (Ok n) = false
pull_failed (Err e) = true

-- a put of `bytes` failed: it gave an error, or took none of some bytes
abbrev pub put_failed : {E : Type 0} → Result ℕ E → List ℕ → Bool
put_failed (Ok n) bytes = (n == 0) && nat_lt 0 (length bytes)
put_failed (Err e) bytes = true

-- the number of failures after a call that failed or succeeded
abbrev pub failures_after : ℕ → Bool → ℕ
failures_after n failed = if failed then one_more n else n

-- the rest of a reader whose calls give at most `step` bytes; at step 0 nothing can be known
abbrev pub fused_remaining : ℕ → Option (List ℕ) → Option (List ℕ)
fused_remaining step known = if step == 0 then None else known

-- after a read, the reader has left exactly what it had without the bytes that the read gave; after an error it has the
-- same left
abbrev pub GivesOn : {E : Type 0} → Option (List ℕ) → Option (List ℕ) → Result ℕ E → List ℕ → Type 0
GivesOn old new answer buf = MatchResult answer (λ n. Consumes old new (take n buf)) (λ _. Keeps old new)
