-- Each piece spells an entry or has a fault, and reading the piece gives that entry or that fault.
use Rattle.acl_posix.proofs.Common.{[], ap, arith, colon, cond_both, cut_at, EntryFields, eqb, eqb-true, Err, false, fields_of, Group, group, HasEntryFields, HasTag, id_in, id_of, Ids, inl, inr, is_all_blank, is_number, IsCut, IsCutRest, IsPieceFault, IsPlace, length, length-slice_split, List, MayName, nat_tests, nil_from_length, None, Ok, Option, Part, PartEntry, permissions_of, Piece, qualifier_names, read_both, read_permissions, read_piece, read_tag, read_word, refl, slice_split, Some, Span, span_of, spans, Spells, start_of, subst, sym, Table, Tag, tag_alone, tag_with, TagWord, TextFault, TextPiece, three_of, trimmed, true, User, user, word_of, ℕ, ◌<◌, ◌∷◌, ◌≡◌, ◌⊎◌}
use Rattle.acl_posix.proofs.digits.DigitLemmas.{not_empty, some_digit}
use Rattle.std.specs.FinMap as fin
use Rattle.acl_posix.specs.declared.text_fault.TextFault.TheVariants as faults

-- a piece spells an entry or has a fault
abbrev pub Judged : Table → TextPiece → Type 0
Judged names piece = ((entry : PartEntry) × Spells names piece.span entry)
    ⊎ ((fault : TextFault) × IsPieceFault names piece fault)

-- a statement holds if it follows from an option being None and from it being Some
option_cases : {A : Type 0} (P : Type 0) (o : Option A) → (o ≡ None → P) → ((x : A) → o ≡ Some x → P) → P
option_cases P None none some = none refl
option_cases P (Some x) none some = some x refl

-- a piece that has a fault spells an entry or has a fault
judged_wrong : (names : Table) (piece : TextPiece) (fault : TextFault) → IsPieceFault names piece fault
    → Judged names piece
judged_wrong names piece fault h = inr (fault, h)

-- a list whose length is not 0 has an element
length_positive : (xs : List ℕ) → eqb (length xs) 0 ≡ false → 0 < length xs
length_positive xs h = grind (arith, nat_tests)

-- the place of a span is its line and the column where it starts
place_of_start : (line : ℕ) (span : Span) → IsPlace line span line (start_of span)
place_of_start line span = record { same_line = refl; same_column = refl }

-- a piece whose first two fields spell a tag spells an entry or has a fault
permissions_judged : (names : Table) (piece : TextPiece) (fields : EntryFields) (tag : Tag)
    → HasEntryFields piece.span fields → HasTag names fields tag → Judged names piece
permissions_judged names piece fields tag has spelled =
    let place = place_of_start piece.line fields.permissions in
    option_cases (Judged names piece) (permissions_of (trimmed fields.permissions.bytes))
    (λ none. judged_wrong names piece (faults.Permission piece.line (start_of fields.permissions))
    (record { fields = fields; has = has; tag = tag; has_tag = spelled; no_set = none; place = place }))
    (λ perm is. inl (
      (fields.part, (tag, perm)),
      record { fields = fields; has = has; is_part = refl; has_tag = spelled; is_perm = is },
    ))

-- a tag word without a qualifier spells the tag of the word without an id
alone_spelled : (names : Table) (fields : EntryFields) (w : TagWord) → word_of (trimmed fields.tag.bytes) ≡ Some w
    → trimmed fields.qualifier.bytes ≡ [] → HasTag names fields (tag_alone w)
alone_spelled names fields User is none = (is, none)
alone_spelled names fields w is none = (is, none)

-- a tag word that may have a name, with a qualifier that spells an id, spells the tag of the word with that id
named_spelled : (names : Table) (fields : EntryFields) (w : TagWord) (ids : Ids) (id : ℕ)
    → word_of (trimmed fields.tag.bytes) ≡ Some w → qualifier_names names w ≡ Some ids
    → 0 < length (trimmed fields.qualifier.bytes) → id_in ids (trimmed fields.qualifier.bytes) ≡ Some id
    → HasTag names fields (tag_with w id)
named_spelled names fields User ids id is has some found = record { is_word = is; filled = some; is_id = cc }
named_spelled names fields Group ids id is has some found = record { is_word = is; filled = some; is_id = cc }
named_spelled names fields w ids id is has some found = absurd cc

-- a piece with a qualifier after a tag word that may have one spells an entry or has a fault
named_judged : (names : Table) (piece : TextPiece) (fields : EntryFields) (ids : Ids)
    → MayName names piece.span fields ids → 0 < length (trimmed fields.qualifier.bytes) → Judged names piece
named_judged names piece fields ids named some =
    let q = trimmed fields.qualifier.bytes in
    let place = place_of_start piece.line fields.qualifier in
    let at = start_of fields.qualifier in
    option_cases (Judged names piece) (id_in ids q)
    (cond_both (is_number q) (id_of q) (fin.get ids q) (λ o. o ≡ None → Judged names piece)
    (λ digits none. judged_wrong names piece (faults.Id piece.line at)
    (record { fields = fields; ids = ids; named = named; digits = digits; no_id = none; place = place }))
    (λ name none. judged_wrong names piece (faults.UnknownName piece.line at) (record {
      fields = fields;
      ids = ids;
      named = named;
      some_byte = some;
      no_digits = name;
      unknown = none;
      place = place;
    })))
    (λ id found. permissions_judged names piece fields (tag_with named.word id) named.has
    (named_spelled names fields named.word ids id named.is_word named.has_names some found))

-- a piece whose first field is a tag word spells an entry or has a fault
tag_judged : (names : Table) (piece : TextPiece) (fields : EntryFields) (w : TagWord)
    → HasEntryFields piece.span fields → word_of (trimmed fields.tag.bytes) ≡ Some w → Judged names piece
tag_judged names piece fields w has is =
    let q = trimmed fields.qualifier.bytes in
    cond_both (eqb (length q) 0) true true (λ _. Judged names piece)
    (λ none. permissions_judged names piece fields (tag_alone w) has
    (alone_spelled names fields w is (nil_from_length q (eqb-true (length q) 0 none))))
    (λ some. option_cases (Judged names piece) (qualifier_names names w)
    (λ none. judged_wrong names piece (faults.Qualifier piece.line (start_of fields.qualifier)) (record {
      fields = fields;
      has = has;
      word = w;
      is_word = is;
      no_names = none;
      qualifier = length_positive q some;
      place = place_of_start piece.line fields.qualifier;
    }))
    (λ ids names_are. named_judged names piece fields ids
    (record { has = has; word = w; is_word = is; has_names = names_are }) (length_positive q some)))

-- a piece with three fields spells an entry or has a fault
fields_judged : (names : Table) (piece : TextPiece) (fields : EntryFields) → HasEntryFields piece.span fields
    → Judged names piece
fields_judged names piece fields has = option_cases (Judged names piece) (word_of (trimmed fields.tag.bytes))
    (λ none. judged_wrong names piece (faults.Tag piece.line (start_of fields.tag))
    (record { fields = fields; has = has; no_word = none; place = place_of_start piece.line fields.tag }))
    (λ w is. tag_judged names piece fields w has is)

-- each piece spells an entry or has a fault
pub piece_judged : (names : Table) (piece : TextPiece) → Judged names piece
piece_judged names piece =
    let place = place_of_start piece.line piece.span in
    cond_both (is_all_blank piece.span.bytes) true true (λ _. Judged names piece)
    (λ blank. judged_wrong names piece (faults.EmptyEntry piece.line (start_of piece.span))
    (record { blank = blank; place = place }))
    (λ some. option_cases (Judged names piece) (fields_of (cut_at colon piece.span))
    (λ none. judged_wrong names piece (faults.Fields piece.line (start_of piece.span))
    (record { filled = some; cut = none; place = place }))
    (λ fields is. fields_judged names piece fields (record { filled = some; cut = is })))

-- ---- what is read

-- the tag that the first two fields spell is read
tag_read : (names : Table) (line : ℕ) (fields : EntryFields) (tag : Tag) → HasTag names fields tag
    → read_both names line fields ≡ Ok tag
unfolding read_word read_tag
tag_read names line fields (user id) h = rw (h.is_word, h.is_id, not_empty _ h.filled) refl
tag_read names line fields (group id) h = rw (h.is_word, h.is_id, not_empty _ h.filled) refl
tag_read names line fields tag h = rw (h.0, h.1) refl

-- the entry that a piece spells is read
pub spelled_read : (names : Table) (line : ℕ) (piece : Span) (entry : PartEntry) → Spells names piece entry
    → read_piece names line piece ≡ Ok entry
unfolding read_piece read_permissions
spelled_read names line piece (part, (tag, perm)) h =
    rw (h.has.filled, h.has.cut, tag_read names line h.fields tag h.has_tag, h.is_perm, h.is_part) refl

-- a fault where a span starts is the same fault at the place of the span
fault_at_place : {line at_line at_column : ℕ} {span : Span} (fault : ℕ → ℕ → TextFault)
    → IsPlace line span at_line at_column → fault line (start_of span) ≡ fault at_line at_column
fault_at_place fault place = rw (place.same_line, place.same_column) refl

-- the fault of a piece is reported
pub fault_read : (names : Table) (piece : TextPiece) (fault : TextFault) → IsPieceFault names piece fault
    → read_piece names piece.line piece.span ≡ Err fault
unfolding read_piece read_word read_tag read_permissions
fault_read names piece (faults.EmptyEntry line column) h =
    rw h.blank (ap Err (fault_at_place faults.EmptyEntry h.place))
fault_read names piece (faults.Fields line column) h =
    rw (h.filled, h.cut) (ap Err (fault_at_place faults.Fields h.place))
fault_read names piece (faults.Tag line column) h =
    rw (h.has.filled, h.has.cut, h.no_word) (ap Err (fault_at_place faults.Tag h.place))
fault_read names piece (faults.Qualifier line column) h =
    rw (h.has.filled, h.has.cut, h.is_word, not_empty _ h.qualifier, h.no_names)
    (ap Err (fault_at_place faults.Qualifier h.place))
fault_read names piece (faults.Id line column) h =
    let n = h.named in
    rw (n.has.filled, n.has.cut, n.is_word, not_empty _ (some_digit _ h.digits), n.has_names, h.digits, h.no_id)
    (ap Err (fault_at_place faults.Id h.place))
fault_read names piece (faults.UnknownName line column) h =
    let n = h.named in
    rw (n.has.filled, n.has.cut, n.is_word, not_empty _ h.some_byte, n.has_names, h.no_digits, h.unknown)
    (ap Err (fault_at_place faults.UnknownName h.place))
fault_read names piece (faults.Permission line column) h =
    rw (h.has.filled, h.has.cut, tag_read names piece.line h.fields h.tag h.has_tag, h.no_set)
    (ap Err (fault_at_place faults.Permission h.place))
fault_read names piece fault h = absurd h

-- ---- cutting a piece at colons

-- the piece after a cut is the rest of the piece
cut_rest : (separator : ℕ) (s : Span) (r : Piece × Option Piece) (rest : Piece) → IsCut separator s r
    → r.1 ≡ Some rest → IsCutRest separator s (span_of r.0) (span_of rest)
cut_rest separator s (first, None) rest h e = absurd cc
cut_rest separator s (first, Some x) rest h e = let same : x ≡ rest = cc in
    subst (λ (y : Piece). IsCutRest separator s (span_of first) (span_of y)) same h

-- three spans with more spans after them are not three fields
three_of-four : (part : Part) (a b c : Span) (column : ℕ) (more : List (List ℕ)) → 0 < length more
    → three_of part (a ∷ b ∷ c ∷ spans column more) ≡ None
three_of-four part a b c column [] h = absurd (omega (arith, h))
three_of-four part a b c column (d ∷ more) h = refl

-- four fields are not three
pub too_many : (part : Part) (s : Span) (r1 r2 r3 : Piece × Option Piece) (p2 p3 p4 : Piece) → IsCut 58 s r1
    → r1.1 ≡ Some p2 → IsCut 58 (span_of p2) r2 → r2.1 ≡ Some p3 → IsCut 58 (span_of p3) r3 → r3.1 ≡ Some p4
    → None ≡ three_of part (cut_at 58 s)
unfolding cut_at
too_many part s r1 r2 r3 p2 p3 p4 first is_second second is_third third is_fourth =
    let a = cut_rest 58 s r1 p2 first is_second in
    let b = cut_rest 58 (span_of p2) r2 p3 second is_third in
    let c = cut_rest 58 (span_of p3) r3 p4 third is_fourth in
    let is_colon = λ (b : ℕ). eqb b 58 in
    sym (rw (a.parts, b.parts, c.parts) (three_of-four part (span_of r1.0) (span_of r2.0) (span_of r3.0) p4.column
    (slice_split is_colon p4.bytes.now) (omega (arith, length-slice_split is_colon p4.bytes.now))))
