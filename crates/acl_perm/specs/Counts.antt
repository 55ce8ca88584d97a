-- The counts of the code (this library's own).
use Rattle.std.specs.Prelude.{ℕ, ◌^◌}

-- one more than the greatest count, which has 64 bits
abbrev pub count_limit : ℕ
count_limit = 2 ^ 64
