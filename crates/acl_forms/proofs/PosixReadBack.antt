-- The text of a POSIX ACL that is written for an archive spells the ACL.
use Rattle.std.proofs.Common.{◌≡◌, ◌∙◌, ◌+◌, ◌++◌, ℕ, Bool, true, false, List, [], ◌∷◌, length, Result, Ok, refl, ap, subst, arith, append-nil, append_assoc}
use Rattle.std.specs.Prelude.{◌&&◌, ◌==◌, map, not}
use Rattle.std.specs.List.{AllByRecursion, flat_map, list_all, slice_split}
use Rattle.std.proofs.lemmas.List.Concat.{flat_map-cons}
use Rattle.std.proofs.lemmas.List.Folds.{list_all-append}
use Rattle.std.proofs.lemmas.List.Splits.{slice_split_at, slice_split_none}
use Rattle.std.proofs.lemmas.Bool.{and_from}
use Rattle.acl_perm.proofs.Bools.{and_true}
use Rattle.acl_perm.specs.Ascii.{comma, comment_mark, line_feed}
use Rattle.acl_perm.specs.Lines.{Span, is_all_blank, is_blank, spans}
unfoldable use Rattle.acl_perm.specs.Lines.{cut_at}
use Rattle.acl_posix.specs.Names.{Table}
use Rattle.acl_posix.specs.Tag.{Tag}
use Rattle.acl_posix.specs.declared.text_fault.Part.{Part}
use Rattle.acl_nfs4.proofs.Exports.{all_weaker}
use Rattle.acl_forms.specs.PosixRules.{placed_pairs, posix_rules}
use Rattle.acl_forms.specs.PosixText.{PlacedEntry}
use Rattle.acl_forms.specs.Texts.{AddEach, HasNoNul, SpellsByRules, entries_among, items_in, items_of}
unfoldable use Rattle.acl_forms.specs.Texts.{cut_entries, line_items}
use Rattle.acl_forms.specs.declared.fault.ReadFault.{ReadFault}
use Rattle.acl_forms.proofs.PosixEntriesReadBack.{IsEntryText, is_in_entry, placed_at}
use Rattle.acl_forms.proofs.TextsReadBack.{part_at}
use Rattle.acl_forms.proofs.ToolsEntriesReadBack.{all_not, no_place}

-- ---- bytes inside entries

-- no byte inside an entry is a line feed
feed_free : (text : List ℕ) → list_all is_in_entry text ≡ true → list_all (λ b. not (b == line_feed)) text ≡ true
feed_free text h =
    all_weaker is_in_entry (λ b. not (b == line_feed)) text (λ b i. (and_true (not (b == line_feed)) _ i).0) h

-- no byte inside an entry is `#`
mark_free : (text : List ℕ) → list_all is_in_entry text ≡ true → list_all (λ b. not (b == comment_mark)) text ≡ true
mark_free text h = all_weaker is_in_entry (λ b. not (b == comment_mark)) text
    (λ b i. (and_true (not (b == comment_mark)) _ (and_true (not (b == line_feed)) _ i).1).0) h

-- no byte inside an entry is a comma
comma_free : (text : List ℕ) → list_all is_in_entry text ≡ true → list_all (λ b. not (b == comma)) text ≡ true
comma_free text h = all_weaker is_in_entry (λ b. not (b == comma)) text
    (λ b i. (and_true (not (b == comma)) _
    (and_true (not (b == comment_mark)) _ (and_true (not (b == line_feed)) _ i).1).1).0)
    h

-- no byte inside an entry is zero
zero_free : (text : List ℕ) → list_all is_in_entry text ≡ true → list_all (λ b. not (b == 0)) text ≡ true
zero_free text h = all_weaker is_in_entry (λ b. not (b == 0)) text
    (λ b i. (and_true (not (b == comma)) _
    (and_true (not (b == comment_mark)) _ (and_true (not (b == line_feed)) _ i).1).1).1)
    h

-- the texts of entries are read as these entries
abbrev pub AreTexts : Table → (Tag × ℕ → List ℕ) → List (Tag × ℕ) → Type 0
AreTexts table text es = AllByRecursion (λ e. IsEntryText table (text e) e) es

-- ---- what is read

-- the entries of texts with one byte between them, with their places
abbrev pub placed_from : (Tag × ℕ → List ℕ) → Part → ℕ → List (Tag × ℕ) → List PlacedEntry
placed_from text part column [] = []
placed_from text part column (e ∷ es) =
    placed_at part column e ∷ placed_from text part (column + length (text e) + 1) es

-- their tags and permissions are those of the entries
pub placed_are : (text : Tag × ℕ → List ℕ) (part : Part) (column : ℕ) (es : List (Tag × ℕ))
    → placed_pairs (placed_from text part column es) ≡ es
placed_are text part column [] = refl
placed_are text part column (e ∷ es) =
    ap (λ (l : List (Tag × ℕ)). e ∷ l) (placed_are text part (column + length (text e) + 1) es)

-- the texts add their entries
add_texts : (table : Table) (text : Tag × ℕ → List ℕ) (part : Part) (list : List PlacedEntry) (es : List (Tag × ℕ))
    (column : ℕ) → AreTexts table text es
    → AddEach (posix_rules part table) list (items_of (spans column (map text es)))
    (list ++ placed_from text part column es)
add_texts table text part list [] column each = append-nil list
add_texts table text part list (e ∷ es) column each =
    let rest =
    add_texts table text part (list ++ placed_at part column e ∷ []) es (column + length (text e) + 1) each.1 in (
      placed_at part column e,
      each.0.again part column,
      subst (AddEach (posix_rules part table) (list ++ placed_at part column e ∷ []) _)
          (append_assoc list (placed_at part column e ∷ [])
          (placed_from text part (column + length (text e) + 1) es)) rest,
    )

-- ---- one entry a line

-- an entry in a line of its own
abbrev pub line_by : (Tag × ℕ → List ℕ) → Tag × ℕ → List ℕ
line_by text e = text e ++ line_feed ∷ []

-- the items of a line that is one entry
one_item : (table : Table) (part : Part) (text : List ℕ) (e : Tag × ℕ) (column : ℕ) → IsEntryText table text e
    → line_items (posix_rules part table) (part_at column text) ≡ Ok (part_at column text) ∷ []
unfolding line_items cut_entries
one_item table part text e column h =
    let mark = no_place (λ b. b == comment_mark) text (mark_free text h.inside) in
    let whole = slice_split_none (λ b. b == comma) text (all_not (λ b. b == comma) text (comma_free text h.inside)) in
    rw (mark, h.some, whole) refl

-- the items of lines of one entry are these entries
lines_items : (table : Table) (text : Tag × ℕ → List ℕ) (part : Part) (es : List (Tag × ℕ)) (column : ℕ)
    → AreTexts table text es
    → flat_map (line_items (posix_rules part table)) (cut_at line_feed (part_at column (flat_map (line_by text) es)))
    ≡ items_of (spans column (map text es))
unfolding cut_at line_items
lines_items table text part [] column each = refl
lines_items table text part (e ∷ es) column each =
    let rules = posix_rules part table in
    let bytes = text e in
    let more = flat_map (line_by text) es in
    let split : slice_split (λ b. b == line_feed) (flat_map (line_by text) (e ∷ es))
    ≡ bytes ∷ slice_split (λ b. b == line_feed) more =
    ap (slice_split (λ b. b == line_feed))
    (flat_map-cons (line_by text) e es ∙ append_assoc bytes (line_feed ∷ []) more)
    ∙ slice_split_at (λ b. b == line_feed) bytes line_feed more
    (all_not (λ b. b == line_feed) bytes (feed_free bytes each.0.inside)) refl in
    ap (λ (parts : List (List ℕ)). flat_map (line_items rules) (spans column parts)) split
    ∙ flat_map-cons (line_items rules) (part_at column bytes)
    (spans (column + length bytes + 1) (slice_split (λ b. b == line_feed) more))
    ∙ ap (λ (items : List (Result Span ReadFault)). items
    ++ flat_map (line_items rules) (cut_at line_feed (part_at (column + length bytes + 1) more)))
    (one_item table part bytes e column each.0)
    ∙ ap (λ (items : List (Result Span ReadFault)). Ok (part_at column bytes) ∷ items)
    (lines_items table text part es (column + length bytes + 1) each.1)

-- ---- entries with commas between them

-- the texts of entries with commas between them
abbrev pub joined : (Tag × ℕ → List ℕ) → List (Tag × ℕ) → List ℕ
joined text [] = []
joined text (e ∷ es) = text e ++ flat_map (λ x. comma ∷ text x) es

-- a byte of a text with commas
abbrev is_row : ℕ → Bool
is_row b = not (b == line_feed) && (not (b == comment_mark) && not (b == 0))

-- bytes inside an entry are those of a text with commas
in_row : (text : List ℕ) → list_all is_in_entry text ≡ true → list_all is_row text ≡ true
in_row text h = all_weaker is_in_entry is_row text (λ b i. byte b i) h where
  byte : (b : ℕ) → is_in_entry b ≡ true → is_row b ≡ true
  byte b i =
      let one = and_true (not (b == line_feed)) _ i in
      let two = and_true (not (b == comment_mark)) _ one.1 in
      and_from _ _ one.0 (and_from _ _ two.0 (and_true (not (b == comma)) _ two.1).1)

-- texts with commas before them are bytes of such a text
behind_row : (table : Table) (text : Tag × ℕ → List ℕ) (es : List (Tag × ℕ)) → AreTexts table text es
    → list_all is_row (flat_map (λ x. comma ∷ text x) es) ≡ true
behind_row table text [] each = refl
behind_row table text (e ∷ es) each =
    ap (list_all is_row) (flat_map-cons (λ x. comma ∷ text x) e es)
    ∙ list_all-append is_row (comma ∷ text e) (flat_map (λ x. comma ∷ text x) es)
    ∙ and_from _ _ (in_row (text e) each.0.inside) (behind_row table text es each.1)

-- the parts between the commas are the texts
comma_split : (table : Table) (text : Tag × ℕ → List ℕ) (e : Tag × ℕ) (es : List (Tag × ℕ))
    → AreTexts table text (e ∷ es) → slice_split (λ b. b == comma) (joined text (e ∷ es)) ≡ map text (e ∷ es)
comma_split table text e [] each =
    ap (slice_split (λ b. b == comma)) (append-nil (text e))
    ∙ slice_split_none (λ b. b == comma) (text e)
    (all_not (λ b. b == comma) (text e) (comma_free (text e) each.0.inside))
comma_split table text e (f ∷ es) each =
    ap (λ (more : List ℕ). slice_split (λ b. b == comma) (text e ++ more)) (flat_map-cons (λ x. comma ∷ text x) f es)
    ∙ slice_split_at (λ b. b == comma) (text e) comma (joined text (f ∷ es))
    (all_not (λ b. b == comma) (text e) (comma_free (text e) each.0.inside)) refl
    ∙ ap (λ (parts : List (List ℕ)). text e ∷ parts) (comma_split table text f es each.1)

-- no part is passed over
all_kept : (part : Part) (table : Table) (parts : List Span) → entries_among (posix_rules part table) parts ≡ parts
all_kept part table [] = refl
all_kept part table (one ∷ parts) = ap (λ (rest : List Span). one ∷ rest) (all_kept part table parts)

-- the items of a text with commas are its entries
comma_items : (table : Table) (text : Tag × ℕ → List ℕ) (part : Part) (e : Tag × ℕ) (es : List (Tag × ℕ))
    → AreTexts table text (e ∷ es)
    → items_in (posix_rules part table) (joined text (e ∷ es)) ≡ items_of (spans 0 (map text (e ∷ es)))
unfolding cut_at cut_entries line_items
comma_items table text part e es each =
    let whole = joined text (e ∷ es) in
    let row : list_all is_row whole ≡ true =
    list_all-append is_row (text e) (flat_map (λ x. comma ∷ text x) es)
    ∙ and_from _ _ (in_row (text e) each.0.inside) (behind_row table text es each.1) in
    let feed = slice_split_none (λ b. b == line_feed) whole (all_not (λ b. b == line_feed) whole
    (all_weaker is_row (λ b. not (b == line_feed)) whole (λ b h. (and_true (not (b == line_feed)) _ h).0) row)) in
    let mark = no_place (λ b. b == comment_mark) whole (all_weaker is_row (λ b. not (b == comment_mark)) whole
    (λ b h. (and_true (not (b == comment_mark)) _ (and_true (not (b == line_feed)) _ h).1).0) row) in
    let some : is_all_blank whole ≡ false =
    list_all-append is_blank (text e) (flat_map (λ x. comma ∷ text x) es) ∙ rw each.0.some refl in
    rw (feed, mark, some, comma_split table text e es each)
    (append-nil _ ∙ ap items_of (all_kept part table (spans 0 (map text (e ∷ es)))))

-- a text with commas has no zero byte
commas_no_nul : (table : Table) (text : Tag × ℕ → List ℕ) (e : Tag × ℕ) (es : List (Tag × ℕ))
    → AreTexts table text (e ∷ es) → HasNoNul (joined text (e ∷ es))
commas_no_nul table text e es each =
    let whole = joined text (e ∷ es) in
    let row : list_all is_row whole ≡ true =
    list_all-append is_row (text e) (flat_map (λ x. comma ∷ text x) es)
    ∙ and_from _ _ (in_row (text e) each.0.inside) (behind_row table text es each.1) in
    no_place (λ b. b == 0) whole (all_weaker is_row (λ b. not (b == 0)) whole
    (λ b h. (and_true (not (b == comment_mark)) _ (and_true (not (b == line_feed)) _ h).1).1) row)

-- lines have no zero byte
lines_pass : (table : Table) (text : Tag × ℕ → List ℕ) (es : List (Tag × ℕ)) → AreTexts table text es
    → list_all (λ b. not (b == 0)) (flat_map (line_by text) es) ≡ true
lines_pass table text [] each = refl
lines_pass table text (e ∷ es) each =
    ap (list_all (λ b. not (b == 0))) (flat_map-cons (line_by text) e es)
    ∙ list_all-append (λ b. not (b == 0)) (line_by text e) (flat_map (line_by text) es)
    ∙ and_from _ _ (list_all-append (λ b. not (b == 0)) (text e) (line_feed ∷ [])
    ∙ and_from _ _ (zero_free (text e) each.0.inside) refl) (lines_pass table text es each.1)

-- ---- what the texts spell

-- lines of one entry spell the entries
pub lines_spell : (table : Table) (text : Tag × ℕ → List ℕ) (part : Part) (es : List (Tag × ℕ)) → AreTexts table text es
    → SpellsByRules (posix_rules part table) (placed_from text part 0 es) (flat_map (line_by text) es)
lines_spell table text part es each = record {
  no_nul = no_place (λ b. b == 0) (flat_map (line_by text) es) (lines_pass table text es each);
  each = rw (lines_items table text part es 0 each) (add_texts table text part [] es 0 each);
  enough = omega arith;
}

-- entries with commas between them spell the entries
pub commas_spell : (table : Table) (text : Tag × ℕ → List ℕ) (part : Part) (e : Tag × ℕ) (es : List (Tag × ℕ))
    → AreTexts table text (e ∷ es)
    → SpellsByRules (posix_rules part table) (placed_from text part 0 (e ∷ es)) (joined text (e ∷ es))
commas_spell table text part e es each = record {
  no_nul = commas_no_nul table text e es each;
  each = rw (comma_items table text part e es each) (add_texts table text part [] (e ∷ es) 0 each);
  enough = omega arith;
}
