-- The canonical, the shown and the short text of a file read back as that file.
use Rattle.acl_posix.proofs.Common.{[], Access, AllByRecursion, ap, append-nil, Bool, canonical_text, codes, cond_both, cut_at, Default, default_entries, default_mark, effective_mark, effective_of, Entries, eqb, false, flat_map, flat_map-append, flat_map-map, inl, inr, is_all_blank, is_blank, IsFile, join_with_byte, length, line, line_pieces, List, list_all, list_all-append, long_default, long_entry, map, map-append, map-map, mark_text, None, not_feed, numbered, Option, PartEntry, perm_text, pieces_from, pieces_of, PosixFile, Reads, refl, short_default, short_entry, short_text, shown_text, slice_split, slice_split_at, slice_split_none, Some, spans, SpellAll, subst, sym, Table, Tag, TextPiece, true, ℕ, ◌&&◌, ◌++◌, ◌+◌, ◌||◌, ◌∙◌, ◌∷◌, ◌≡◌}
use Rattle.acl_posix.proofs.writer.EntryLines.{IsBehind, no_comment, text_spells}
use Rattle.acl_posix.proofs.writer.TextFiles.{entries_of, has_owner, in_part, reads_from, Within, within_file}
use Rattle.acl_posix.proofs.writer.WrittenEntries.{absent, all_also, is_text, long, long_written, perm_pass, short, short_written, Text}
use Rattle.std.specs.FinMap as fin

-- ---- texts with one line per entry

-- a text with one line per entry of a file, and what may be after the entries, reads back as the file
lines_read : (names : Table) (F : PosixFile) (behind : PartEntry → List ℕ) (text : List ℕ) → IsFile F
    → ((e : PartEntry) → IsBehind (behind e)) → flat_map (λ e. line (long e ++ behind e)) (entries_of F) ≡ text
    → Reads text names F
lines_read names F behind text h each is = reads_from text names F h
    (subst (λ (t : List ℕ). SpellAll names (pieces_of t) (entries_of F)) is
    (text_spells names long behind (entries_of F) long_written each (within_file F h)))

-- ---- the canonical text

-- an entry may have nothing after it
nothing_behind : IsBehind []
nothing_behind = record { no_feed = refl; form = inl refl }

-- the canonical text is one line per entry
canonical_is : (F : PosixFile) → flat_map (λ e. line (long e ++ [])) (entries_of F) ≡ canonical_text F.access F.default
unfolding canonical_text long_entry long_default
canonical_is F = simp (flat_map-append, flat_map-map, append-nil)

-- the canonical text of a file reads back as it
pub canonical_reads : (names : Table) (F : PosixFile) → IsFile F → Reads (canonical_text F.access F.default) names F
canonical_reads names F h =
    lines_read names F (λ _. []) (canonical_text F.access F.default) h (λ _. nothing_behind) (canonical_is F)

-- ---- the shown text

-- an entry may have its effective permissions as a comment after it, or nothing
mark_behind : (effective perm : ℕ) → IsBehind (mark_text effective perm)
mark_behind effective perm =
    cond_both (eqb effective perm) [] (9 ∷ (codes "#effective:" ++ perm_text effective)) IsBehind
    (λ same. nothing_behind) (λ differ. record {
      no_feed = perm_pass not_feed refl refl refl refl effective;
      form = inr (codes "effective:" ++ perm_text effective, refl);
    })

-- what is after an entry of a file in the shown text
abbrev mark_of : PosixFile → PartEntry → List ℕ
mark_of F (Access, e) = effective_mark F.access e
mark_of F (Default, e) = default_mark F.default e

-- an entry may have after it what it has there in the shown text
marks_behind : (access : Entries) (default : Option Entries) (e : PartEntry)
    → IsBehind (mark_of (record { access = access; default = default }) e)
unfolding effective_mark
marks_behind access default (Access, e) = mark_behind (effective_of access e) e.1
marks_behind access None (Default, e) = nothing_behind
marks_behind access (Some acl) (Default, e) = mark_behind (effective_of acl e) e.1

-- the shown text is one line per entry, with the effective permissions after the entries that the mask limits
shown_is : (F : PosixFile) → flat_map (λ e. line (long e ++ mark_of F e)) (entries_of F) ≡ shown_text F.access F.default
unfolding shown_text long_entry long_default
shown_is F = simp (flat_map-append, flat_map-map)

-- the shown text of a file reads back as it
pub shown_reads : (names : Table) (F : PosixFile) → IsFile F → Reads (shown_text F.access F.default) names F
shown_reads names F h = lines_read names F (mark_of F) (shown_text F.access F.default) h
    (marks_behind F.access F.default) (shown_is F)

-- ---- the short text

-- a byte of a text, or a comma
abbrev is_row : ℕ → Bool
is_row b = is_text b || eqb b 44

-- entries in the short form are plain bytes and colons
short_entries_are_texts : (es : List PartEntry) → Within es → AllByRecursion Text (map short es)
short_entries_are_texts [] h = tt
short_entries_are_texts (e ∷ es) h = (short_written.bytes e h.0, short_entries_are_texts es h.1)

-- plain bytes and colons are bytes of texts or commas
text_row : (x : List ℕ) → Text x → list_all is_row x ≡ true
text_row x h = all_also is_text is_row (λ b is. ap (λ t. t || eqb b 44) is) x h

-- texts with commas between them are bytes of texts and commas
commas_row : (xs : List (List ℕ)) → AllByRecursion Text xs → list_all is_row (join_with_byte 44 xs) ≡ true
commas_row [] h = refl
commas_row (x ∷ []) h = text_row x h.0
commas_row (x ∷ y ∷ ys) h =
    rw (list_all-append is_row x (44 ∷ join_with_byte 44 (y ∷ ys)), text_row x h.0) (commas_row (y ∷ ys) h.1)

-- texts with commas between them are cut at the commas into these texts
commas_split : (x : List ℕ) (xs : List (List ℕ)) → AllByRecursion Text (x ∷ xs)
    → slice_split (λ b. eqb b 44) (join_with_byte 44 (x ∷ xs)) ≡ x ∷ xs
commas_split x [] h = slice_split_none (λ b. eqb b 44) x (absent is_text 44 x refl h.0)
commas_split x (y ∷ ys) h =
    slice_split_at (λ b. eqb b 44) x 44 (join_with_byte 44 (y ∷ ys)) (absent is_text 44 x refl h.0) refl
    ∙ ap (λ (l : List (List ℕ)). x ∷ l) (commas_split y ys h.1)

-- texts with commas between them are not blank if the first text is not
commas_filled : (x : List ℕ) (xs : List (List ℕ)) → is_all_blank x ≡ false
    → is_all_blank (join_with_byte 44 (x ∷ xs)) ≡ false
commas_filled x [] h = h
commas_filled x (y ∷ ys) h = list_all-append is_blank x (44 ∷ join_with_byte 44 (y ∷ ys))
    ∙ ap (λ t. t && is_all_blank (44 ∷ join_with_byte 44 (y ∷ ys))) h

-- the spans of entries in the short form spell these entries, at any column
spans_spell : (names : Table) (es : List PartEntry) → Within es → (column : ℕ)
    → SpellAll names (numbered 1 (spans column (map short es))) es
spans_spell names [] h column = tt
spans_spell names (e ∷ es) h column =
    (short_written.spells names column e h.0, spans_spell names es h.1 (column + length (short e) + 1))

-- the pieces of texts with commas between them are these texts, in line 1
row_pieces : (x : List ℕ) (xs : List (List ℕ)) → AllByRecursion Text (x ∷ xs) → is_all_blank x ≡ false
    → pieces_of (join_with_byte 44 (x ∷ xs)) ≡ numbered 1 (spans 1 (x ∷ xs))
unfolding line_pieces cut_at
row_pieces x xs h filled =
    let row = join_with_byte 44 (x ∷ xs) in
    let bytes = commas_row (x ∷ xs) h in
    ap (pieces_from 1) (slice_split_none (λ b. eqb b 10) row (absent is_row 10 row refl bytes))
    ∙ append-nil (numbered 1 (line_pieces row))
    ∙ rw (no_comment row (absent is_row 35 row refl bytes), commas_filled x xs filled, commas_split x xs h) refl

-- entries in the short form with commas between them spell these entries
row_spells : (names : Table) (es : List PartEntry) → (es ≡ [] → ⊥) → Within es
    → SpellAll names (pieces_of (join_with_byte 44 (map short es))) es
row_spells names [] some h = absurd (some refl)
row_spells names (e ∷ es) some h =
    subst (λ (ps : List TextPiece). SpellAll names ps (e ∷ es))
    (sym (row_pieces (short e) (map short es) (short_entries_are_texts (e ∷ es) h)
    (short_written.spells names 1 e h.0).has.filled)) (spans_spell names (e ∷ es) h 1)

-- the short text is the entries in the short form with commas between them
short_is : (F : PosixFile) → join_with_byte 44 (map short (entries_of F)) ≡ short_text F.access F.default
unfolding short_text short_entry short_default
short_is F = simp (map-append, map-map)

-- if there are access entries, there are entries of both parts together
some_entry : (es ds : List (Tag × ℕ)) → (es ≡ [] → ⊥) → in_part Access es ++ in_part Default ds ≡ [] → ⊥
some_entry [] ds some e = some refl
some_entry (x ∷ xs) ds some e = absurd cc

-- the short text of a file reads back as it
pub short_reads : (names : Table) (F : PosixFile) → IsFile F → Reads (short_text F.access F.default) names F
short_reads names F h = reads_from (short_text F.access F.default) names F h
    (subst (λ (t : List ℕ). SpellAll names (pieces_of t) (entries_of F)) (short_is F)
    (row_spells names (entries_of F)
    (some_entry (fin.entries F.access) (default_entries F.default) (has_owner F.access h.access.valid))
    (within_file F h)))
