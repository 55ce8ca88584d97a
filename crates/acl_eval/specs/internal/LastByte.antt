-- The last byte of a name, which distinguishes most names: this library's own.
use Rattle.std.specs.Prelude.{ℕ, ◌-◌, List, length, slice_index}

-- the last byte, or 0 if there is none
abbrev pub last_of : List ℕ → ℕ
last_of name = slice_index name (length name - 1)
