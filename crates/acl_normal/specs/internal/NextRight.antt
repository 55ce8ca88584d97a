-- The rights of a mask, one after the other (this library's own).
use Rattle.std.specs.Prelude.{◌≡◌, ℕ, ◌<◌, ◌≤◌, true, false}
use Rattle.acl_perm.specs.Bits.{has_bit}

-- the mask has no right whose bit is at least one number and below another
abbrev pub LacksFrom : ℕ → ℕ → ℕ → Type 0
LacksFrom mask from end = (b : ℕ) → from ≤ b → b < end → has_bit mask b ≡ false

-- the bit of the lowest right of the mask whose bit is at least a number
pub record IsNextRight (mask from bit : ℕ) : Type 0 where
  pub has : has_bit mask bit ≡ true
  pub above : from ≤ bit
  pub lacks : LacksFrom mask from bit
