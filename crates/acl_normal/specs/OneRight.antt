-- Sets of one right (RFC 8881, section 6.2.1.3.1).
use Rattle.std.specs.Prelude.{◌≡◌, ◌^◌, ℕ}
use Rattle.std.specs.Int.{trailing_zeros, w32}

-- the set is that of its lowest right alone
abbrev pub IsOneRight : ℕ → Type 0
IsOneRight mask = mask ≡ 2 ^ trailing_zeros w32 mask
