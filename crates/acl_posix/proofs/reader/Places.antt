-- Where the faults of texts are: at a column of a line of the text or at the byte after the line, or at an entry.
use Rattle.acl_perm.proofs.LineLemmas.{IsLineAt, first_line, later_line, place_in_line}
use Rattle.acl_perm.specs.Ascii.{comma, comment_mark}
use Rattle.acl_perm.specs.Lines.{IsTextPlace, blanks_before}
use Rattle.acl_posix.proofs.Common.{[], Access, acl_fault, AllByRecursion, ap, arith, before_mark, colon, cond, cut_at, Default, EntryFields, eqb, false, fields_of, HasEntryFields, IsFaultOf, IsFirstTextFault, IsInvalidText, IsTextFault, IsPieceFault, IsPlace, is_all_blank, is_blank, is_default, join_with_byte, length, length-append, length-take-le, line_pieces, lines_of, List, not, numbered, Part, pieces_from, pieces_of, position_or_len, slice_split, Some, Span, spans, subst, Table, Tag, TextFault, TextPiece, three_of, trimmed, true, ℕ, ◌++◌, ◌+◌, ◌∷◌, ◌≡◌, ◌≤◌}
use Rattle.acl_posix.specs.TextLaws.{IsAtEntry, IsInPart, IsInText, part_entries}
use Rattle.acl_posix.specs.declared.text_fault.Cause.{Cause}
use Rattle.acl_posix.specs.declared.text_fault.Cause.TheVariants as cause
use Rattle.acl_posix.specs.declared.text_fault.TextFault.TheVariants as faults
use Rattle.std.proofs.lemmas.List.Splits.{join_with_byte-slice_split}
use Rattle.std.proofs.lemmas.List.Sums.{prefix_len-le-length}

-- ---- spans of a line

-- a span begins after the columns before `low`, and ends before the column `most`
pub record IsSpanIn (low most : ℕ) (span : Span) : Type 0 where
  pub from : low ≤ span.column
  pub to : span.column + length span.bytes ≤ most

-- the spans of parts are within the columns of the parts with the bytes between them
spans_in : (separator low most column : ℕ) (parts : List (List ℕ)) → low ≤ column
    → column + length (join_with_byte separator parts) ≤ most → AllByRecursion (IsSpanIn low most) (spans column parts)
spans_in separator low most column [] from to = tt
spans_in separator low most column (part ∷ []) from to = (record { from = from; to = to }, tt)
spans_in separator low most column (part ∷ next ∷ parts) from to =
    let size = length-append part (separator ∷ join_with_byte separator (next ∷ parts)) in (
      record { from = from; to = omega (arith, to, size) },
      spans_in separator low most (column + length part + 1) (next ∷ parts) (omega (arith, from))
          (omega (arith, to, size)),
    )

-- the parts of a span are within the columns of the span
cut_in : (separator low most : ℕ) (span : Span) → IsSpanIn low most span
    → AllByRecursion (IsSpanIn low most) (cut_at separator span)
unfolding cut_at
cut_in separator low most span h =
    spans_in separator low most span.column (slice_split (λ b. eqb b separator) span.bytes) h.from
    (omega (arith, h.to, ap length (join_with_byte-slice_split separator span.bytes)))

-- ---- fields

-- the spans of the fields are within these columns
record AreFieldsIn (low most : ℕ) (fields : EntryFields) : Type 0 where
  tag : IsSpanIn low most fields.tag
  qualifier : IsSpanIn low most fields.qualifier
  permissions : IsSpanIn low most fields.permissions

-- fields that are made of three spans are where these are
three_in : (low most : ℕ) (part : Part) (parts : List Span) (fields : EntryFields)
    → AllByRecursion (IsSpanIn low most) parts → three_of part parts ≡ Some fields → AreFieldsIn low most fields
three_in low most part [] fields h e = absurd cc
three_in low most part (a ∷ []) fields h e = absurd cc
three_in low most part (a ∷ b ∷ []) fields h e = absurd cc
three_in low most part (a ∷ b ∷ c ∷ []) fields h e =
    let same : record { part = part; tag = a; qualifier = b; permissions = c } ≡ fields = cc in
    subst (AreFieldsIn low most) same (record { tag = h.0; qualifier = h.1.0; permissions = h.1.1.0 })
three_in low most part (a ∷ b ∷ c ∷ d ∷ more) fields h e = absurd cc

-- the fields of an entry are where the spans are
fields_in : (low most : ℕ) (parts : List Span) (fields : EntryFields) → AllByRecursion (IsSpanIn low most) parts
    → fields_of parts ≡ Some fields → AreFieldsIn low most fields
unfolding fields_of
fields_in low most [] fields h e = absurd cc
fields_in low most (first ∷ more) fields h e =
    elim (is_default (trimmed first.bytes))
    as (λ b. cond b (three_of Default more) (three_of Access (first ∷ more)) ≡ Some fields
    → AreFieldsIn low most fields) [
      | true ↦ three_in low most Default more fields h.1
      | false ↦ three_in low most Access (first ∷ more) fields h
    ] e

-- ---- pieces of a text

-- a piece is of a line of these lines, and within the columns of the line
record IsPieceIn (n : ℕ) (lines : List (List ℕ)) (piece : TextPiece) : Type 0 where
  bytes : List ℕ
  line : IsLineAt n lines piece.line bytes
  span : IsSpanIn 1 (length bytes + 1) piece.span

-- what stands before a mark is not longer than the line
front_length : (mark : ℕ) (line : List ℕ) → length (before_mark mark line) ≤ length line
front_length mark line =
    let least = prefix_len-le-length (λ b. not (eqb b mark)) line in
    omega (arith, least, length-take-le (position_or_len (λ b. eqb b mark) line) line least)

-- the pieces of a line are within its columns
line_in : (line : List ℕ) → AllByRecursion (IsSpanIn 1 (length line + 1)) (line_pieces line)
unfolding line_pieces
line_in line =
    let front : List ℕ = before_mark comment_mark line in
    elim (is_all_blank front)
    as (λ b. AllByRecursion (IsSpanIn 1 (length line + 1))
    (cond b [] (cut_at comma (record { column = 1; bytes = front })))) [
      | true ↦ tt
      | false ↦ cut_in comma 1 (length line + 1) (record { column = 1; bytes = front })
          (record { from = omega arith; to = omega (arith, front_length comment_mark line) })
    ]

-- the pieces of the first line, and then other pieces, are of the lines
first_pieces : (n : ℕ) (line : List ℕ) (lines : List (List ℕ)) (parts : List Span) (more : List TextPiece)
    → AllByRecursion (IsSpanIn 1 (length line + 1)) parts → AllByRecursion (IsPieceIn n (line ∷ lines)) more
    → AllByRecursion (IsPieceIn n (line ∷ lines)) (numbered n parts ++ more)
first_pieces n line lines [] more h rest = rest
first_pieces n line lines (part ∷ parts) more h rest = (
  record { bytes = line; line = first_line n line lines; span = h.0 },
  first_pieces n line lines parts more h.1 rest,
)

-- pieces of the lines after the first one are pieces of all lines
later_pieces : (n : ℕ) (line : List ℕ) (lines : List (List ℕ)) (pieces : List TextPiece)
    → AllByRecursion (IsPieceIn (n + 1) lines) pieces → AllByRecursion (IsPieceIn n (line ∷ lines)) pieces
later_pieces n line lines [] h = tt
later_pieces n line lines (piece ∷ pieces) h = (
  record {
    bytes = h.0.bytes;
    line = later_line n line lines piece.line h.0.bytes h.0.line;
    span = h.0.span;
  },
  later_pieces n line lines pieces h.1,
)

-- the pieces of lines are within their lines
pieces_in : (n : ℕ) (lines : List (List ℕ)) → AllByRecursion (IsPieceIn n lines) (pieces_from n lines)
pieces_in n [] = tt
pieces_in n (line ∷ lines) = first_pieces n line lines (line_pieces line) (pieces_from (n + 1) lines) (line_in line)
    (later_pieces n line lines (pieces_from (n + 1) lines) (pieces_in (n + 1) lines))

-- what holds of all pieces holds of one of them
in_middle : (P : TextPiece → Type 0) (before after : List TextPiece) (piece : TextPiece)
    → AllByRecursion P (before ++ piece ∷ after) → P piece
in_middle P [] after piece h = h.0
in_middle P (b ∷ before) after piece h = in_middle P before after piece h.1

-- ---- faults

-- the column where a span starts is a place in the text
start_in : (text : List ℕ) (piece : TextPiece) (span : Span) (line column : ℕ)
    → IsPieceIn 1 (lines_of text) piece → ((most : ℕ) → IsSpanIn 1 most piece.span → IsSpanIn 1 most span)
    → IsPlace piece.line span line column → IsTextPlace text line column
start_in text piece span line column h within place =
    let here = within (length h.bytes + 1) h.span in
    let blanks : blanks_before span.bytes ≤ length span.bytes =
    prefix_len-le-length (λ b. not (not (is_blank b))) span.bytes in
    place_in_line text piece.line h.bytes line column h.line place.same_line
    (omega (arith, place.same_column, here.from))
    (omega (arith, place.same_column, here.to, blanks))

-- the fields of a piece are within the columns of the piece
piece_fields_in : (span : Span) (fields : EntryFields) (most : ℕ) → HasEntryFields span fields → IsSpanIn 1 most span
    → AreFieldsIn 1 most fields
piece_fields_in span fields most has h =
    fields_in 1 most (cut_at colon span) fields (cut_in colon 1 most span h) has.cut

-- the fault of a piece is in the text
piece_fault_in : (text : List ℕ) (names : Table) (piece : TextPiece) (fault : TextFault)
    → IsPieceIn 1 (lines_of text) piece → IsPieceFault names piece fault → IsInText text names fault
piece_fault_in text names piece (faults.Fields l c) here h =
    start_in text piece piece.span l c here (λ most is. is) h.place
piece_fault_in text names piece (faults.EmptyEntry l c) here h =
    start_in text piece piece.span l c here (λ most is. is) h.place
piece_fault_in text names piece (faults.Tag l c) here h =
    start_in text piece h.fields.tag l c here
    (λ most is. (piece_fields_in piece.span h.fields most h.has is).tag) h.place
piece_fault_in text names piece (faults.Qualifier l c) here h =
    start_in text piece h.fields.qualifier l c here
    (λ most is. (piece_fields_in piece.span h.fields most h.has is).qualifier) h.place
piece_fault_in text names piece (faults.Id l c) here h =
    start_in text piece h.fields.qualifier l c here
    (λ most is. (piece_fields_in piece.span h.fields most h.named.has is).qualifier) h.place
piece_fault_in text names piece (faults.UnknownName l c) here h =
    start_in text piece h.fields.qualifier l c here
    (λ most is. (piece_fields_in piece.span h.fields most h.named.has is).qualifier) h.place
piece_fault_in text names piece (faults.Permission l c) here h =
    start_in text piece h.fields.permissions l c here
    (λ most is. (piece_fields_in piece.span h.fields most h.has is).permissions) h.place
piece_fault_in text names piece (faults.Invalid which why) here h = absurd h
piece_fault_in text names piece faults.Memory here h = tt

-- the fault of the first piece that spells no entry is in the text
first_fault_in : (text : List ℕ) (names : Table) (fault : TextFault) → IsFirstTextFault names (pieces_of text) fault
    → IsInText text names fault
first_fault_in text names fault h = piece_fault_in text names h.piece fault
    (in_middle (IsPieceIn 1 (lines_of text)) h.before h.after h.piece
    (subst (AllByRecursion (IsPieceIn 1 (lines_of text))) h.order (pieces_in 1 (lines_of text)))) h.wrong

-- the cause of a fault of entries is at one of them
pub cause_in : (entries : List (Tag × ℕ)) (why : Cause) → IsFaultOf entries (acl_fault why) → IsAtEntry entries why
cause_in entries (cause.Multi place) h = h.0.in_range
cause_in entries (cause.Duplicate place) h = h.0.in_range
cause_in entries (cause.Miss tag) h = tt

-- the first part that is not valid has its cause at one of its entries
invalid_in : (text : List ℕ) (names : Table) (which : Part) (why : Cause) → IsInvalidText text names which why
    → IsInPart text names which why
invalid_in text names Access why h =
    record { entries = h.entries; spelled = h.spelled; place = cause_in (part_entries Access h.entries) why h.wrong }
invalid_in text names Default why h =
    record { entries = h.entries; spelled = h.spelled; place = cause_in (part_entries Default h.entries) why h.wrong.2 }

-- the fault of a text is in the text
pub text_fault_in : (text : List ℕ) (names : Table) (fault : TextFault) → IsTextFault text names fault
    → IsInText text names fault
text_fault_in text names (faults.Invalid which why) h = invalid_in text names which why h
text_fault_in text names faults.Memory h = absurd h
text_fault_in text names fault h = first_fault_in text names fault h
