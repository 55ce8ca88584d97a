-- The digits that some bytes begin with (this library's own).
use Rattle.std.specs.Prelude.{ℕ, ◌≡◌, ◌≤◌, List, length, min, take, true}
use Rattle.std.specs.Char.{is_ascii_digit}
use Rattle.std.specs.List.{list_all}
use Rattle.std.specs.Str.Parse.{digits_value}
use Rattle.acl_posix.specs.declared.digits.FirstDigits.{FirstDigits}

-- the most digits of an id without zeros at the front
abbrev pub most_digits : ℕ
most_digits = 10

-- the digits that bytes begin with, but at most ten: how many they are, and their number
pub record AreFirstDigits (bytes : List ℕ) (first : FirstDigits) : Type 0 where
  pub inside : first.count ≤ length bytes
  pub few : first.count ≤ most_digits
  pub digits : list_all is_ascii_digit (take first.count bytes) ≡ true
  pub value : first.value ≡ digits_value 10 (take first.count bytes)
  -- if all bytes are digits, they end with the bytes, or there are ten
  pub all : list_all is_ascii_digit bytes ≡ true → first.count ≡ min (length bytes) most_digits
