-- Lines that are cut at the bytes that end entries.
use Rattle.std.proofs.Common.{◌≡◌, ◌∙◌, ℕ, ◌+◌, ◌<◌, true, false, cond, List, [], ◌∷◌, ◌++◌, length, take, drop, Option, None, Some, Result, Ok, refl, sym, ap, subst, arith, inl, inr}
use Rattle.std.specs.Prelude.{not}
use Rattle.std.proofs.lemmas.List.{length-take-le, length-drop}
use Rattle.std.proofs.lemmas.List.Splits.{slice_split_first}
use Rattle.std.specs.List.{slice_split}
use Rattle.acl_perm.proofs.Cuts.{Says, split_none}
use Rattle.acl_perm.specs.Ascii.{line_feed}
use Rattle.acl_perm.specs.Counts.{count_limit}
use Rattle.acl_perm.specs.Lines.{cut_at, ColumnsFit, IsCut, Span, span_of, spans}
use Rattle.acl_perm.specs.declared.lines.Piece.{Piece}
use Rattle.acl_posix.proofs.Exports.{size_left}
use Rattle.acl_forms.proofs.TextLemmas.{read_append}
use Rattle.acl_forms.specs.internal.TextReading.{FailsAsRead, IsHeld, IsEntryCut, IsEntryRest, part_items, read_items, RestFits}
use Rattle.acl_forms.specs.Texts.{cut_entries, entries_among, items_of, TextRules}
use Rattle.acl_forms.specs.declared.fault.ReadFault.{ReadFault}

-- a line in which no byte ends an entry is one part
pub cut_none : {X : Type 0} (rules : TextRules X) (s : Span) → Says rules.ends_entry s.bytes None
    → cut_entries rules s ≡ s ∷ []
unfolding cut_entries
cut_none rules s h = ap (spans s.column) (split_none rules.ends_entry s.bytes h)

-- a line is cut into the part before the first byte that ends an entry, and the rest
pub cut_some : {X : Type 0} (rules : TextRules X) (s : Span) (i : ℕ) (rest : List ℕ)
    → Says rules.ends_entry s.bytes (Some i)
    → rest ≡ drop (i + 1) s.bytes
    → IsEntryRest rules s (record { column = s.column; bytes = take i s.bytes })
    (record { column = s.column + i + 1; bytes = rest })
unfolding cut_entries
cut_some rules s i rest h r =
    let lt = h.in_range in
    let len : length (take i s.bytes) ≡ i = length-take-le i s.bytes (omega arith) in
    let split : slice_split rules.ends_entry s.bytes ≡ take i s.bytes ∷ slice_split rules.ends_entry (drop (i + 1)
    s.bytes) =
    slice_split_first rules.ends_entry s.bytes 0 (omega (arith, h.first))
    ∙ ap (λ (n : ℕ). take n s.bytes ∷ slice_split rules.ends_entry (drop (n + 1) s.bytes)) h.first in
    let left = length-drop (i + 1) s.bytes in
    let made : IsEntryRest rules s (record { column = s.column; bytes = take i s.bytes })
    (record { column = s.column + i + 1; bytes = drop (i + 1) s.bytes }) = record {
      parts = ap (spans s.column) split
          ∙ ap (λ (n : ℕ). record { column = s.column; bytes = take i s.bytes } ∷ spans (s.column + n + 1)
          (slice_split rules.ends_entry (drop (i + 1) s.bytes))) len;
      shorter = omega arith;
      first_fits = omega arith;
      rest_fits = omega arith;
    } in
    rw r made

-- the parts of what is left of a line
abbrev pub parts_left : {X : Type 0} → TextRules X → Option Piece → List Span
parts_left rules None = []
parts_left rules (Some p) = cut_entries rules (span_of p)

-- the lines of what is left of a text
abbrev pub lines_left : Option Piece → List Span
lines_left None = []
lines_left (Some p) = cut_at line_feed (span_of p)

-- a cut gives the first line and the lines that are left
pub line_next : (whole : Span) (r : Piece × Option Piece) → IsCut line_feed whole r
    → cut_at line_feed whole ≡ span_of r.0 ∷ lines_left r.1
line_next whole (first, None) h = h.0
line_next whole (first, Some rest) h = h.parts

-- the columns of what a line cut gives are counts, and less is left
pub line_fits : (whole : Piece) (r : Piece × Option Piece) → ColumnsFit whole → IsCut line_feed (span_of whole) r
    → ColumnsFit r.0 × RestFits r.1 × (size_left r.1 < size_left (Some whole))
line_fits whole (first, None) fits h =
    let same = h.1 in (subst (λ (s : Span). s.column + length s.bytes < count_limit) (sym same) fits, tt, omega arith)
line_fits whole (first, Some rest) fits h =
    (omega (arith, h.first_fits), omega (arith, h.rest_fits), omega (arith, h.shorter))

-- a cut gives the first part and the parts that are left
pub part_next : {X : Type 0} (rules : TextRules X) (whole : Span) (r : Piece × Option Piece) → IsEntryCut rules whole r
    → cut_entries rules whole ≡ span_of r.0 ∷ parts_left rules r.1
part_next rules whole (first, None) h = h.0
part_next rules whole (first, Some rest) h = h.parts

-- the columns of what an entry cut gives are counts, and less is left
pub part_fits : {X : Type 0} (rules : TextRules X) (whole : Piece) (r : Piece × Option Piece) → ColumnsFit whole
    → IsEntryCut rules (span_of whole) r → ColumnsFit r.0 × RestFits r.1 × (size_left r.1 < size_left (Some whole))
part_fits rules whole (first, None) fits h =
    let same = h.1 in (subst (λ (s : Span). s.column + length s.bytes < count_limit) (sym same) fits, tt, omega arith)
part_fits rules whole (first, Some rest) fits h =
    (omega (arith, h.first_fits), omega (arith, h.rest_fits), omega (arith, h.shorter))

-- ---- items

-- the items of parts of a line
abbrev pub items_in_parts : {X : Type 0} → TextRules X → List Span → List (Result Span ReadFault)
items_in_parts rules parts = items_of (entries_among rules parts)

-- the items of parts are those of the first part and of the others
pub items_next : {X : Type 0} (rules : TextRules X) (first : Span) (others : List Span)
    → items_in_parts rules (first ∷ others) ≡ part_items rules first ++ items_in_parts rules others
items_next rules first others =
    elim (rules.is_part_skipped first.bytes)
    as (λ b. items_of (cond (not b) (first ∷ entries_among rules others) (entries_among rules others))
    ≡ cond b [] (items_of (first ∷ [])) ++ items_in_parts rules others) [
      | true ↦ refl
      | false ↦ refl
    ]

-- items are read after those that were read
pub read_on : {X : Type 0} (g : TextRules X) (old new : List X) (xs ys : List (Result Span ReadFault))
    → read_items g old xs ≡ Ok new
    → read_items g old (xs ++ ys) ≡ read_items g new ys
read_on g old new xs ys e = read_append g old xs ys ∙ rw e refl

-- the fault of items is that of these items and others
pub fail_on : {X : Type 0} (g : TextRules X) (old : List X) (xs ys : List (Result Span ReadFault)) (fault : ReadFault)
    → FailsAsRead fault (read_items g old xs) → FailsAsRead fault (read_items g old (xs ++ ys))
fail_on g old xs ys fault (inl none) = inl none
fail_on g old xs ys fault (inr e) = inr (read_append g old xs ys ∙ rw e refl)

-- what is held, with items that are left, gives what these items give after this list
pub record ReadsTo {X : Type 0} (g : TextRules X) (Held : List X → Type 0) (list : List X)
    (items left : List (Result Span ReadFault)) : Type 0 where
  pub now : List X
  pub held : Held now
  pub same : read_items g now left ≡ read_items g list items

-- the fault of the next items is that of all items
pub stops : {X : Type 0} (g : TextRules X) (Held : List X → Type 0) (list : List X)
    (items next after left : List (Result Span ReadFault)) (fault : ReadFault) (r : ReadsTo g Held list items left)
    → left ≡ next ++ after → FailsAsRead fault (read_items g r.now next) → FailsAsRead fault (read_items g list items)
stops g Held list items next after left fault r e h =
    subst (FailsAsRead fault) (sym (ap (read_items g r.now) e) ∙ r.same) (fail_on g r.now next after fault h)

-- the next items are read
pub goes_on : {X : Type 0} (g : TextRules X) (Held New : List X → Type 0) (list : List X)
    (items next after left : List (Result Span ReadFault)) (r : ReadsTo g Held list items left) → left ≡ next ++ after
    → IsHeld (read_items g r.now next) New → ReadsTo g New list items after
goes_on g Held New list items next after left r e h = record {
  now = h.0;
  held = h.2;
  same = sym (read_on g r.now h.0 next after h.1) ∙ sym (ap (read_items g r.now) e) ∙ r.same;
}

-- all items are read if none is left
pub all_read : {X : Type 0} (g : TextRules X) (Held : List X → Type 0) (list : List X)
    (items left : List (Result Span ReadFault)) → ReadsTo g Held list items left → left ≡ []
    → IsHeld (read_items g list items) Held
unfolding read_items
all_read g Held list items left r none = (r.now, sym r.same ∙ ap (read_items g r.now) none, r.held)

-- if nothing is left, there are no parts
pub no_parts : {X : Type 0} (rules : TextRules X) (r : Option Piece) → ((t : Piece) → r ≡ Some t → ⊥)
    → parts_left rules r ≡ []
no_parts rules None h = refl
no_parts rules (Some t) h = absurd (h t refl)

-- if nothing is left, there are no lines
pub no_lines : (r : Option Piece) → ((t : Piece) → r ≡ Some t → ⊥) → lines_left r ≡ []
no_lines None h = refl
no_lines (Some t) h = absurd (h t refl)
