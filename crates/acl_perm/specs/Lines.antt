-- Lines of a text, and parts of a line with their columns. Lines end at line feeds, columns count bytes from 1, and a
-- blank is a space or a tab: this library's own, for its text forms.
use Rattle.std.specs.Prelude.{ℕ, ◌≡◌, ◌+◌, ◌<◌, ◌≤◌, ◌==◌, ◌||◌, not, Bool, List, [], ◌∷◌, ◌++◌, length, drop, Option, Some, None, if◌then◌else◌}
use Rattle.std.specs.Borrow.{Bor}
use Rattle.std.specs.List.{slice_split, list_all, before_first, position_or_len}
use Rattle.acl_perm.specs.Ascii.{space, tab}
-- the byte that ends a line
pub use Rattle.acl_perm.specs.Ascii.{line_feed}
use Rattle.acl_perm.specs.Counts.{count_limit}
use Rattle.acl_perm.specs.declared.lines.Piece.{Piece}

-- the lines of a text; the part after the last line feed is a line too
abbrev pub lines_of : List ℕ → List (List ℕ)
lines_of text = slice_split (λ b. b == line_feed) text

-- a place in a text: the number of a line, and the column of a byte of this line or of the byte after the line; lines
-- and columns count from 1
pub record IsTextPlace (text : List ℕ) (line column : ℕ) : Type 0 where
  pub before : List (List ℕ)
  pub bytes : List ℕ
  pub after : List (List ℕ)
  pub lines : lines_of text ≡ before ++ bytes ∷ after
  pub number : line ≡ length before + 1
  pub from_one : 1 ≤ column
  pub to_end : column ≤ length bytes + 1

-- some bytes of a line, and the column of the first of them
pub record Span : Type 0 where
  pub column : ℕ
  pub bytes : List ℕ

-- the bytes and the column of a piece
abbrev pub span_of : Piece → Span
span_of piece = record { column = piece.column; bytes = piece.bytes.now }

-- the columns of the bytes of a piece, and of the byte after them, are counts
abbrev pub ColumnsFit : Piece → Type 0
ColumnsFit piece = piece.column + length piece.bytes.now < count_limit

-- parts one after the other, with one byte between two of them
abbrev pub spans : ℕ → List (List ℕ) → List Span
spans column [] = []
spans column (part ∷ parts) = record { column = column; bytes = part } ∷ spans (column + length part + 1) parts

-- the parts between the separators
unfoldable pub cut_at : ℕ → Span → List Span
cut_at separator span = spans span.column (slice_split (λ b. b == separator) span.bytes)

-- a space or a tab
abbrev pub is_blank : ℕ → Bool
is_blank b = (b == space) || (b == tab)

-- all bytes are blanks
abbrev pub is_all_blank : List ℕ → Bool
is_all_blank bytes = list_all is_blank bytes

-- the number of blanks at the front
abbrev pub blanks_before : List ℕ → ℕ
blanks_before bytes = position_or_len (λ b. not (is_blank b)) bytes

-- the bytes without the blanks at the end
abbrev pub end_trimmed : List ℕ → List ℕ
end_trimmed [] = []
end_trimmed (b ∷ bytes) = if is_all_blank (b ∷ bytes) then [] else b ∷ end_trimmed bytes

-- the bytes without the blanks at both ends
unfoldable pub trimmed : List ℕ → List ℕ
trimmed bytes = end_trimmed (drop (blanks_before bytes) bytes)

-- the bytes before the first mark, or all of them
abbrev pub before_mark : ℕ → List ℕ → List ℕ
before_mark mark bytes = before_first (λ b. b == mark) bytes

-- the place of a part: the column of its first byte that is not a blank, or of the byte after the part if there is none
abbrev pub start_of : Span → ℕ
start_of span = span.column + blanks_before span.bytes

-- a part and the rest, on both sides of a separator, with columns that are within the whole
pub record IsCutRest (separator : ℕ) (whole first rest : Span) : Type 0 where
  pub parts : cut_at separator whole ≡ first ∷ cut_at separator rest
  pub shorter : length rest.bytes < length whole.bytes
  pub first_fits : first.column + length first.bytes ≤ whole.column + length whole.bytes
  pub rest_fits : rest.column + length rest.bytes ≤ whole.column + length whole.bytes

-- the first part, and the part after the first separator if there is one
abbrev pub IsCut : ℕ → Span → Piece × Option Piece → Type 0
IsCut separator whole (first, None) = (cut_at separator whole ≡ span_of first ∷ []) × (span_of first ≡ whole)
IsCut separator whole (first, Some rest) = IsCutRest separator whole (span_of first) (span_of rest)

-- the first line, and the text after its line feed if there is one
abbrev pub IsLineCut : List ℕ → Bor (List ℕ) × Option (Bor (List ℕ)) → Type 0
IsLineCut text (first, None) = lines_of text ≡ first.now ∷ []
IsLineCut text (first, Some rest) =
    (lines_of text ≡ first.now ∷ lines_of rest.now) × (length rest.now < length text)
