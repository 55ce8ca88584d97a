-- Lines with one entry each spell these entries.
use Rattle.acl_posix.proofs.Common.{[], All, All-append, All-push, AllByRecursion, ap, append-nil, append_assoc, arith, before_mark, cut_at, eqb, false, flat_map, inl, inr, is_all_blank, IsEntry, length, line, line_pieces, lines_of, List, list_all, map, not_feed, numbered, PartEntry, pieces_from, pieces_of, position_or_len, recursion_from_All, refl, slice_split_at, slice_split_none, Span, SpellAll, Spells, subst, sym, Table, take, take-append_seam, true, ℕ, ◌++◌, ◌+◌, ◌∙◌, ◌∷◌, ◌≡◌, ◌⊎◌}
use Rattle.acl_posix.proofs.writer.WrittenEntries.{absent, is_text, IsWritten, Text}
use Rattle.acl_posix.proofs.writer.TextFiles.{Within}

-- ---- a line of one entry

-- a line that has one piece, which spells an entry
record IsLineOf (names : Table) (bytes : List ℕ) (entry : PartEntry) : Type 0 where
  piece : List ℕ
  one : line_pieces bytes ≡ record { column = 1; bytes = piece } ∷ []
  spells : Spells names (record { column = 1; bytes = piece }) entry

-- the first comment mark, if there is one, is after the bytes that are no mark
marked_at : (xs rest : List ℕ) → AllByRecursion (λ b. eqb b 35 ≡ false) xs → position_or_len (λ b. eqb b 35) rest ≡ 0
    → position_or_len (λ b. eqb b 35) (xs ++ rest) ≡ length xs
marked_at [] rest h e = e
marked_at (x ∷ xs) rest h e = rw h.0 (omega (arith, marked_at xs rest h.1 e))

-- bytes that are no comment mark, with nothing or a comment after them, are what is before the comment
uncommented : (xs rest : List ℕ) → All (λ b. eqb b 35 ≡ false) xs → position_or_len (λ b. eqb b 35) rest ≡ 0
    → before_mark 35 (xs ++ rest) ≡ xs
uncommented xs rest h e =
    ap (λ (n : ℕ). take n (xs ++ rest)) (marked_at xs rest (recursion_from_All (λ b. eqb b 35 ≡ false) xs h) e)
    ∙ take-append_seam xs rest

-- a line without a comment mark is the bytes before the mark
pub no_comment : (xs : List ℕ) → All (λ b. eqb b 35 ≡ false) xs → before_mark 35 xs ≡ xs
no_comment xs h = ap (before_mark 35) (sym (append-nil xs)) ∙ uncommented xs [] h refl

-- the bytes before the comment of a line are its one piece
one_piece : (bytes content : List ℕ) → before_mark 35 bytes ≡ content → All (λ b. eqb b 44 ≡ false) content
    → is_all_blank content ≡ false → line_pieces bytes ≡ record { column = 1; bytes = content } ∷ []
unfolding line_pieces cut_at
one_piece bytes content is no_comma some = rw (is, some, slice_split_none (λ b. eqb b 44) content no_comma) refl

-- plain bytes and colons are the one piece of their line
pub text_piece : (bytes : List ℕ) → Text bytes → is_all_blank bytes ≡ false
    → line_pieces bytes ≡ record { column = 1; bytes = bytes } ∷ []
text_piece bytes text some = one_piece bytes bytes (no_comment bytes (absent is_text 35 bytes refl text))
    (absent is_text 44 bytes refl text) some

-- what may be after an entry: nothing, or a tab and a comment
pub record IsBehind (bytes : List ℕ) : Type 0 where
  pub no_feed : list_all not_feed bytes ≡ true
  pub form : (bytes ≡ []) ⊎ ((rest : List ℕ) × (bytes ≡ 9 ∷ 35 ∷ rest))

-- an entry as it is written, with what may be after it, is a line of that entry
line_of : (names : Table) (text : PartEntry → List ℕ) (e : PartEntry) (behind : List ℕ) → IsWritten text → IsEntry e.1
    → IsBehind behind → IsLineOf names (text e ++ behind) e
line_of names text e behind is h b = elim b.form [
  | inl none ↦
      let spells = is.spells names 1 e h in
      record {
        piece = text e;
        one = ap line_pieces (ap (λ (xs : List ℕ). text e ++ xs) none ∙ append-nil (text e))
            ∙ text_piece (text e) (is.bytes e h) spells.has.filled;
        spells = spells;
      }
  | inr some ↦
      let spells = is.with_tab names 1 e h in
      let without = λ (c : ℕ) (other : is_text c ≡ false) (tab : eqb 9 c ≡ false).
      All-push (λ b. eqb b c ≡ false) (text e) 9 (absent is_text c (text e) other (is.bytes e h)) tab in
      record {
        piece = text e ++ 9 ∷ [];
        one = one_piece (text e ++ behind) (text e ++ 9 ∷ [])
            (ap (before_mark 35) (ap (λ (xs : List ℕ). text e ++ xs) some.1
            ∙ sym (append_assoc (text e) (9 ∷ []) (35 ∷ some.0)))
            ∙ uncommented (text e ++ 9 ∷ []) (35 ∷ some.0) (without 35 refl refl) refl)
            (without 44 refl refl) spells.has.filled;
        spells = spells;
      }
]

-- ---- the lines of a text

-- lines that are written one after the other are cut at their line feeds into these lines and an empty one
lines_split : (f : PartEntry → List ℕ) (es : List PartEntry)
    → ((e : PartEntry) → IsEntry e.1 → All (λ b. eqb b 10 ≡ false) (f e)) → Within es
    → lines_of (flat_map (λ e. line (f e)) es) ≡ map f es ++ [] ∷ []
lines_split f [] no_feed h = refl
lines_split f (e ∷ es) no_feed h = ap lines_of (append_assoc (f e) (10 ∷ []) (flat_map (λ e. line (f e)) es))
    ∙ slice_split_at (λ b. eqb b 10) (f e) 10 (flat_map (λ e. line (f e)) es) (no_feed e h.0) refl
    ∙ ap (λ (xs : List (List ℕ)). f e ∷ xs) (lines_split f es no_feed h.1)

-- lines of one entry each spell these entries, whatever the number of the first line is
lines_spell : (names : Table) (f : PartEntry → List ℕ) (n : ℕ) (es : List PartEntry)
    → ((e : PartEntry) → IsEntry e.1 → IsLineOf names (f e) e) → Within es
    → SpellAll names (pieces_from n (map f es ++ [] ∷ [])) es
unfolding line_pieces
lines_spell names f n [] lines h = tt
lines_spell names f n (e ∷ es) lines h =
    let first = lines e h.0 in
    subst (λ (ss : List Span). SpellAll names (numbered n ss ++ pieces_from (n + 1) (map f es ++ [] ∷ [])) (e ∷ es))
    (sym first.one) (first.spells, lines_spell names f (n + 1) es lines h.1)

-- the lines of entries, each with what is after it, spell the entries
pub text_spells : (names : Table) (text behind : PartEntry → List ℕ) (es : List PartEntry) → IsWritten text
    → ((e : PartEntry) → IsBehind (behind e)) → Within es
    → SpellAll names (pieces_of (flat_map (λ e. line (text e ++ behind e)) es)) es
text_spells names text behind es is each h =
    let no_feed = λ (e : PartEntry) (within : IsEntry e.1). All-append (λ b. eqb b 10 ≡ false) (text e) (behind e)
    (absent is_text 10 (text e) refl (is.bytes e within)) (absent not_feed 10 (behind e) refl (each e).no_feed) in
    subst (λ (ls : List (List ℕ)). SpellAll names (pieces_from 1 ls) es)
    (sym (lines_split (λ e. text e ++ behind e) es no_feed h))
    (lines_spell names (λ e. text e ++ behind e) 1 es
    (λ e within. line_of names text e (behind e) is within (each e)) h)
