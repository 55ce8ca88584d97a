-- Tables that name bits, and the fields of the text form that name a set of bits (RFC 8881, sections 6.2.1.3.1 and
-- 6.2.1.4.1, has the names of the rights and the flags; the form of a field is this library's own).
use Rattle.std.specs.Prelude.{◌≡◌, ◌≢◌, ◌⊎◌, ◌||◌, ℕ, List, [], ◌∷◌, Bool, false, Option, Some, codes, find, map, option_map, bit_and, bit_or, if◌then◌else◌, ◌==◌}
use Rattle.std.specs.List.{filter, join_with_byte, slice_split}
use Rattle.std.specs.Option.{option_and_then, option_map_or}
use Rattle.std.specs.Str.{bytes_eq}
-- the byte between two names of a field
pub use Rattle.acl_perm.specs.Ascii.{bar}
-- a row of a table: a bit, its name, and its second name if it has two; and the first name of the row of a bit
pub use Rattle.acl_perm.specs.Names.{BitName, one_name, two_names, first_name}

-- ---- what a field names

-- the word is one of the row's names
abbrev pub is_name_of : List ℕ → BitName → Bool
is_name_of word row = bytes_eq word row.name || option_map_or (bytes_eq word) row.second false

-- the bit that a word names
abbrev pub bit_in : List BitName → List ℕ → Option ℕ
bit_in table word = option_map (λ row. row.bit) (find (is_name_of word) table)

-- the union of the bits that words name, if each word names one
abbrev pub bits_in : List BitName → List (List ℕ) → Option ℕ
bits_in table [] = Some 0
bits_in table (word ∷ words) =
    option_and_then (λ bit. option_map (bit_or bit) (bits_in table words)) (bit_in table word)

-- the field `-`, which names the empty set
abbrev pub no_names : List ℕ
no_names = codes "-"

-- a field that names a set: `-`, or names of the table with `|` between them, at least one
abbrev pub SpellsSet : List BitName → List ℕ → ℕ → Type 0
SpellsSet table field set =
    ((field ≡ no_names) × (set ≡ 0))
    ⊎ ((words : List (List ℕ)) × (words ≢ []) × (field ≡ join_with_byte bar words) × (bits_in table words ≡ Some set))

-- the set that a field names; `SpellsSet` says which, and this computes it
unfoldable pub set_named : List BitName → List ℕ → Option ℕ
set_named table field =
    if bytes_eq field no_names then Some 0 else bits_in table (slice_split (λ b. b == bar) field)

-- ---- the field of a set

-- the rows of the bits that a set has, in the order of the table
abbrev pub rows_of : List BitName → ℕ → List BitName
rows_of table set = filter (λ row. bit_and set row.bit == row.bit) table

-- the first names of the bits that a set has, in the order of the table
abbrev pub names_of : List BitName → ℕ → List (List ℕ)
names_of table set = map (λ row. row.name) (rows_of table set)

-- the field of a set as it is written: `-` for the empty set, else these names with `|` between them
unfoldable pub set_text : List BitName → ℕ → List ℕ
set_text table set = if set == 0 then no_names else join_with_byte bar (names_of table set)
