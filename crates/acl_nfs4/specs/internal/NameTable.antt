-- The tables of names of the code, and how the code cuts a field of names (this library's own). No public clause cites
-- it.
use Rattle.std.specs.Prelude.{◌≡◌, ◌+◌, ◌<◌, ◌==◌, ◌&&◌, ℕ, List, [], ◌∷◌, length, nat_le, nat_lt, Bool, true, ◌++◌, if◌then◌else◌, Option, None, Some}
use Rattle.std.specs.List.{slice_split, join_with_byte, list_all}
use Rattle.acl_nfs4.specs.BitNames.{BitName, bar, set_named}
use Rattle.acl_nfs4.specs.Within.{is_within}
use Rattle.acl_perm.specs.declared.bit_names.BitName.{BitName as Row}
-- a row of a table, and the table, as its code holds them
pub use Rattle.acl_perm.specs.internal.NameTable.{bit_name_of, bit_names_of}

-- the greatest number of bytes in a first name
abbrev pub longest_bit_name : ℕ
longest_bit_name = 20

-- a row whose first name has at most this many bytes
abbrev pub is_short_row : Row → Bool
is_short_row r = nat_le (length r.name.now) longest_bit_name

-- the greatest number of bytes that a row adds to a line: a `|` and the name
abbrev pub row_room : ℕ
row_room = longest_bit_name + 1

-- the room for a line: a kind, all flags, all rights, the longest who, and the bytes between them
abbrev pub ace_line_room : ℕ
ace_line_room = 1600

-- the bits of the rows are in ascending order
abbrev pub is_rising : List Row → Bool
is_rising [] = true
is_rising (r ∷ rows) = list_all (λ next. nat_lt r.bit next.bit) rows && is_rising rows

-- the bytes before a name of a field that is written
abbrev pub bar_before : Bool → List ℕ
bar_before first = if first then [] else bar ∷ []

-- names of a field after others, or at its front
abbrev pub joined_names : Bool → List (List ℕ) → List ℕ
joined_names first [] = []
joined_names first (word ∷ words) = bar_before first ++ join_with_byte bar (word ∷ words)

-- the parts of the rest of a field
abbrev pub parts_after : Option (List ℕ) → List (List ℕ)
parts_after None = []
parts_after (Some field) = slice_split (λ b. b == bar) field

-- a measure of the rest of a field, which each cut makes smaller
abbrev pub size_after : Option (List ℕ) → ℕ
size_after None = 0
size_after (Some field) = length field + 1

-- a field is cut at its first `|`: the part before it, and the part after it if there is one
pub record IsFieldCut (field word : List ℕ) (after : Option (List ℕ)) : Type 0 where
  pub parts : slice_split (λ b. b == bar) field ≡ word ∷ parts_after after
  pub shorter : size_after after < length field + 1

-- a set, if `whole` has all of it
abbrev pub set_if_within : ℕ → Option ℕ → Option ℕ
set_if_within whole None = None
set_if_within whole (Some set) = if is_within whole set then Some set else None

-- the set that a field names, if `whole` has all of it
unfoldable pub set_within : List BitName → ℕ → List ℕ → Option ℕ
set_within table whole field = set_if_within whole (set_named table field)
