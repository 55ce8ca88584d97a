-- The first place of a byte (this library's own).
use Rattle.std.specs.Prelude.{◌≡◌, ◌+◌, ◌<◌, ◌≤◌, ◌==◌, ℕ, List, slice_index, true, false}

-- a byte does not occur from one place up to another
abbrev pub IsAbsent : ℕ → List ℕ → ℕ → ℕ → Type 0
IsAbsent wanted bytes from to = (k : ℕ) → from ≤ k → k < to → (slice_index bytes k == wanted) ≡ false

-- which of this many bytes from a place on is the first that is wanted, or their number
pub record IsPlaceIn (wanted : ℕ) (bytes : List ℕ) (at count place : ℕ) : Type 0 where
  pub within : place ≤ count
  pub before : IsAbsent wanted bytes at (at + place)
  pub found : place < count → (slice_index bytes (at + place) == wanted) ≡ true
