-- Reading pieces and lines one after the other gives the entries that the pieces of a text spell, or the first fault.
use Rattle.acl_posix.proofs.Common.{[], Access, access_of, added, ap, append-nil, append_assoc, arith, Bor, ColumnsFit, cut_at, Default, default_of, Err, FailsWith, inl, inr, IsCut, IsFirstLine, IsFirstTextFault, IsLineCut, length, line_pieces, lines_left, lines_of, List, Lists, None, numbered, NumberFits, Ok, Option, Part, PartEntry, Piece, pieces_from, read_piece, read_pieces, ReadsOn, refl, Result, Some, Span, span_of, SpellAll, suc, sym, Table, Tag, TextFault, TextPiece, ℕ, ◌++◌, ◌+◌, ◌>>=◌, ◌∙◌, ◌∷◌, ◌≡◌, ◌≤◌, ◌⊎◌}
use Rattle.acl_posix.proofs.reader.Judged.{fault_read, piece_judged, spelled_read}
use Rattle.acl_posix.specs.declared.text_fault.TextFault.TheVariants as faults
use Rattle.acl_posix.specs.internal.Reading.{RestFits}

-- the pieces that are still to be cut
abbrev pub pieces_left : Option Piece → List Span
pieces_left None = []
pieces_left (Some p) = cut_at 44 (span_of p)

-- one more than the number of bytes of a line that are not cut yet
abbrev pub size_left : Option Piece → ℕ
size_left None = 0
size_left (Some p) = suc (length p.bytes.now)

-- if no piece is left, there are no spans left
pub left_none : (r : Option Piece) → ((p : Piece) → r ≡ Some p → ⊥) → pieces_left r ≡ []
left_none None h = refl
left_none (Some p) h = absurd (h p refl)

-- a fault that is read fails the reading
pub fails_is : (f : TextFault) (r : Result Lists TextFault) → r ≡ Err f → FailsWith f r
fails_is faults.Memory r h = tt
fails_is f r h = h

-- ---- pieces of a line

-- a cut gives the first piece and the pieces after it
pub pieces_next : (s : Span) (r : Piece × Option Piece) → IsCut 44 s r → cut_at 44 s ≡ span_of r.0 ∷ pieces_left r.1
pieces_next s (first, None) h = h.0
pieces_next s (first, Some rest) h = h.parts

-- the columns of the rest after a cut are counts
pub fits_next : (p : Piece) (r : Piece × Option Piece) → IsCut 44 (span_of p) r → ColumnsFit p → RestFits r.1
fits_next p (first, None) h fits = tt
fits_next p (first, Some rest) h fits = omega (arith, h.rest_fits)

-- ---- pieces one after the other

-- the pieces that are left are read one after the other
pub left_step : (table : Table) (n : ℕ) (so_far : Lists) (r : Option Piece) (p : Piece) (cut : Piece × Option Piece)
    (read : Result PartEntry TextFault) → r ≡ Some p → IsCut 44 (span_of p) cut
    → read_piece table n (span_of cut.0) ≡ read → read_pieces table so_far (numbered n (pieces_left r))
    ≡ (read >>= (λ e. read_pieces table (added so_far e) (numbered n (pieces_left cut.1))))
unfolding read_pieces
left_step table n so_far r p cut read some parted is = rw (some, pieces_next (span_of p) cut parted, is) refl

-- reading pieces and then others is reading all of them
pub read_append : (table : Table) (so_far : Lists) (ps qs : List TextPiece)
    → read_pieces table so_far (ps ++ qs) ≡ (read_pieces table so_far ps >>= (λ next. read_pieces table next qs))
unfolding read_pieces
read_append table so_far [] qs = refl
read_append table so_far (p ∷ ps) qs = elim (read_piece table p.line p.span)
    as (λ r. (r >>= (λ e. read_pieces table (added so_far e) (ps ++ qs)))
    ≡ ((r >>= (λ e. read_pieces table (added so_far e) ps)) >>= (λ next. read_pieces table next qs))) [
      | Ok e ↦ read_append table (added so_far e) ps qs
      | Err f ↦ refl
    ]

-- ---- lines of a text

-- after the first line is cut off and read, reading the rest gives what reading the text gives
pub reads_on : (table : Table) (n : ℕ) (text : List ℕ) (so_far next : Lists)
    (cut : Bor (List ℕ) × Option (Bor (List ℕ))) → IsLineCut text cut
    → read_pieces table so_far (numbered n (line_pieces cut.0.now)) ≡ Ok next → ReadsOn table n text so_far next cut.1
unfolding read_pieces
reads_on table n text so_far next (first, None) is read =
    rw (is, read_append table so_far (numbered n (line_pieces first.now)) [], read) refl
reads_on table n text so_far next (first, Some rest) is read =
    let more = pieces_from (n + 1) (lines_of rest.now) in
    (rw (is.0, read_append table so_far (numbered n (line_pieces first.now)) more, read) refl, is.1)

-- after a first line that is read in one step, reading the rest gives what reading the text gives
pub reads_first : (table : Table) (n : ℕ) (text : List ℕ) (so_far : Lists) (part : Part) (entry : Tag × ℕ)
    (rest : Bor (List ℕ)) → IsFirstLine text part entry rest.now
    → ReadsOn table n text so_far (added so_far (part, entry)) (Some rest)
unfolding read_pieces
reads_first table n text so_far part entry rest h =
    let spelled = spelled_read table n (record { column = 1; bytes = h.bytes }) (part, entry) (h.spells table) in
    (rw (h.lines, h.one, spelled) refl, h.shorter)

-- reading the rest of a text after its first line gives what reading the text gives
pub on_read : (table : Table) (n : ℕ) (text : List ℕ) (so_far next : Lists) (rest : Option (Bor (List ℕ)))
    → ReadsOn table n text so_far next rest → read_pieces table next (pieces_from (n + 1) (lines_left rest))
    ≡ read_pieces table so_far (pieces_from n (lines_of text))
unfolding read_pieces
on_read table n text so_far next None h = sym h
on_read table n text so_far next (Some rest) h = sym h.0

-- the number of the next line fits in 64 bits
pub on_fits : (table : Table) (n : ℕ) (whole text : List ℕ) (so_far next : Lists) (rest : Option (Bor (List ℕ)))
    → ReadsOn table n text so_far next rest → n + length text ≤ length whole + 1 → NumberFits (n + 1) whole rest
on_fits table n whole text so_far next None h fits = tt
on_fits table n whole text so_far next (Some rest) h fits = omega (arith, h.1, fits)

-- a fault of a line is that of the text
pub line_fault : (table : Table) (n : ℕ) (so_far : Lists) (lines : List (List ℕ)) (l : List ℕ) (ls : List (List ℕ))
    (f : TextFault) → lines ≡ l ∷ ls → FailsWith f (read_pieces table so_far (numbered n (line_pieces l)))
    → FailsWith f (read_pieces table so_far (pieces_from n lines))
line_fault table n so_far lines l ls faults.Memory is h = tt
line_fault table n so_far lines l ls f is h =
    rw (is, read_append table so_far (numbered n (line_pieces l)) (pieces_from (n + 1) ls), h) refl

-- ---- the pieces of a text

-- the lists read so far, with some more entries at their ends
abbrev pub joined : Lists → List PartEntry → Lists
joined lists entries =
    record { access = lists.access ++ access_of entries; default = lists.default ++ default_of entries }

-- lists with no more entries at their ends are the same lists
joined_none : (lists : Lists) → lists ≡ joined lists []
joined_none lists = rw (append-nil lists.access, append-nil lists.default) refl

-- adding one entry at the ends and then the others is adding all of them
joined_next : (lists : Lists) (entry : PartEntry) (entries : List PartEntry)
    → joined (added lists entry) entries ≡ joined lists (entry ∷ entries)
joined_next lists (Access, e) entries = rw (append_assoc lists.access (e ∷ []) (access_of entries)) refl
joined_next lists (Default, e) entries = rw (append_assoc lists.default (e ∷ []) (default_of entries)) refl

-- pieces spell entries, or a first piece does not
pub judged : (names : Table) (pieces : List TextPiece) → ((entries : List PartEntry) × SpellAll names pieces entries)
    ⊎ ((fault : TextFault) × IsFirstTextFault names pieces fault)
judged names [] = inl ([], tt)
judged names (piece ∷ pieces) = elim (piece_judged names piece) [
  | inl spelled ↦ elim (judged names pieces) [
    | inl all ↦ inl (spelled.0 ∷ all.0, (spelled.1, all.1))
    | inr first ↦ inr (
      first.0,
      record {
        before = piece ∷ first.1.before;
        piece = first.1.piece;
        after = first.1.after;
        order = ap (λ (ps : List TextPiece). piece ∷ ps) first.1.order;
        entries = spelled.0 ∷ first.1.entries;
        spelled = (spelled.1, first.1.spelled);
        wrong = first.1.wrong;
      },
    )
  ]
  | inr wrong ↦ inr (
    wrong.0,
    record { before = []; piece = piece; after = pieces; order = refl; entries = []; spelled = tt; wrong = wrong.1 },
  )
]

-- the entries that pieces spell are read
pub all_read : (names : Table) (lists : Lists) (pieces : List TextPiece) (entries : List PartEntry)
    → SpellAll names pieces entries → read_pieces names lists pieces ≡ Ok (joined lists entries)
unfolding read_pieces
all_read names lists [] [] h = ap (λ (x : Lists). Ok x) (joined_none lists)
all_read names lists (piece ∷ pieces) (entry ∷ entries) h = rw (spelled_read names piece.line piece.span entry h.0)
    (all_read names (added lists entry) pieces entries h.1 ∙ ap (λ (x : Lists). Ok x) (joined_next lists entry entries))
all_read names lists pieces entries h = absurd h

-- the first fault of pieces is reported
pub first_read : (names : Table) (lists : Lists) (pieces : List TextPiece) (fault : TextFault)
    → IsFirstTextFault names pieces fault → read_pieces names lists pieces ≡ Err fault
unfolding read_pieces
first_read names lists pieces fault h = rw (
  h.order,
  read_append names lists h.before (h.piece ∷ h.after),
  all_read names lists h.before h.entries h.spelled,
  fault_read names h.piece fault h.wrong,
) refl
