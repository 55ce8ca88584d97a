-- The numbers at a place of a value (MS-DTYP, section 2.4.6: the lowest byte of each number is the
-- first), and the bound of the places that a value can name.
use Rattle.std.specs.Prelude.{ℕ, ◌^◌, ◌==◌, Bool, not, List, bit_and, drop, slice_index}
use Rattle.byteorder.specs.Endian.{little_number}

-- the byte at a place
abbrev pub byte_at : List ℕ → ℕ → ℕ
byte_at bytes at = slice_index bytes at

-- the number in the two bytes at a place
abbrev pub half_at : List ℕ → ℕ → ℕ
half_at bytes at = little_number 2 (drop at bytes)

-- the number in the four bytes at a place
abbrev pub dword_at : List ℕ → ℕ → ℕ
dword_at bytes at = little_number 4 (drop at bytes)

-- the number has any of these bits
abbrev pub has_any : ℕ → ℕ → Bool
has_any n bits = not (bit_and n bits == 0)

-- each place that an offset and the sizes after it name is below this
abbrev pub place_limit : ℕ
place_limit = 2 ^ 40
