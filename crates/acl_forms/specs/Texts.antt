-- Texts of entries: lines at line feeds, each up to its first `#`, and entries between the bytes that end them. What a
-- text spells by the rules of its form, and its first fault. The parts in which readers of a form differ are refused:
-- this library's own.
use Rattle.std.specs.Prelude.{◌≡◌, ◌==◌, ◌+◌, ◌<◌, ◌≤◌, ℕ, Bool, not, List, [], ◌∷◌, ◌++◌, length, take, drop, filter, map, position, Option, None, Some, Result, Ok, Err, if◌then◌else◌}
use Rattle.std.specs.List.{flat_map, slice_split}
use Rattle.acl_perm.specs.Ascii.{comment_mark, line_feed}
use Rattle.acl_perm.specs.Lines.{Span, cut_at, spans}
use Rattle.acl_perm.specs.internal.Steps.{◌>>=◌}
use Rattle.acl_forms.specs.ReadFaults.{read_fault_at}
use Rattle.acl_forms.specs.declared.fault.ReadFault.{ReadFault}
use Rattle.acl_forms.specs.declared.fault.ReadReason.TheVariants.{Comment, Empty, Nul, TooLong}

-- what a form says of its lines and entries: which bytes end an entry within its line; how long a line with a comment
-- is if readers do not read it whole; which lines, without their comments, have no entry, and which of their parts are
-- no entries; what an entry spells as the next one of a list, or the entry's first fault; and how many entries a text
-- must have. A list has ACEs or entries of POSIX ACLs
pub record TextRules (X : Type 0) : Type 0 where
  pub ends_entry : ℕ → Bool
  pub is_cut_short : ℕ → Bool
  pub is_line_skipped : List ℕ → Bool
  pub is_part_skipped : List ℕ → Bool
  pub entry : List X → Span → Result X ReadFault
  pub least : ℕ

-- ---- the parts of a text; here a column counts the bytes of the text before it

-- the parts between the bytes that end an entry
unfoldable pub cut_entries : {X : Type 0} → TextRules X → Span → List Span
cut_entries rules span = spans span.column (slice_split rules.ends_entry span.bytes)

-- the parts that are entries
abbrev pub entries_among : {X : Type 0} → TextRules X → List Span → List Span
entries_among rules parts = filter (λ part. not (rules.is_part_skipped part.bytes)) parts

-- the entries of a line without its comment
abbrev pub entries_of : {X : Type 0} → TextRules X → Span → List Span
entries_of rules line = if rules.is_line_skipped line.bytes then [] else entries_among rules (cut_entries rules line)

-- entries as the items of a line
abbrev pub items_of : List Span → List (Result Span ReadFault)
items_of entries = map (λ entry. Ok entry) entries

-- the fault of the first byte of a comment that would end an entry, which some readers take for the end of the comment
abbrev pub end_fault : ℕ → Option ℕ → Option ReadFault
end_fault at None = None
end_fault at (Some place) = Some (read_fault_at (at + place) Comment)

-- the fault of a comment, which begins at this place of a line
unfoldable pub comment_fault : {X : Type 0} → TextRules X → Span → ℕ → Option ReadFault
comment_fault rules line place = if rules.is_cut_short (length line.bytes)
    then Some (read_fault_at (line.column + place) TooLong)
    else end_fault (line.column + place) (position rules.ends_entry (drop place line.bytes))

-- the items of a line, which are these unless its comment has a fault
abbrev pub unless_fault : Option ReadFault → List (Result Span ReadFault) → List (Result Span ReadFault)
unless_fault None items = items
unless_fault (Some fault) items = Err fault ∷ []

-- the items of a line whose comment begins at this place, if it has one
abbrev pub items_before : {X : Type 0} → TextRules X → Span → Option ℕ → List (Result Span ReadFault)
items_before rules line None = items_of (entries_of rules line)
items_before rules line (Some place) = unless_fault (comment_fault rules line place)
    (items_of (entries_of rules (record { column = line.column; bytes = take place line.bytes })))

-- the items of a line: its entries, or the fault of its comment
unfoldable pub line_items : {X : Type 0} → TextRules X → Span → List (Result Span ReadFault)
line_items rules line = items_before rules line (position (λ b. b == comment_mark) line.bytes)

-- the whole text, at its place
abbrev pub whole_text : List ℕ → Span
whole_text text = record { column = 0; bytes = text }

-- the items of a text: those of its lines
abbrev pub items_in : {X : Type 0} → TextRules X → List ℕ → List (Result Span ReadFault)
items_in rules text = flat_map (line_items rules) (cut_at line_feed (whole_text text))

-- ---- what items spell

-- what an item spells as the next one of a list, or its first fault
abbrev pub item_read : {X : Type 0} → TextRules X → List X → Result Span ReadFault → Result X ReadFault
item_read rules list item = item >>= λ entry. rules.entry list entry

-- items add to a list: each spells the next one of the list
abbrev pub AddEach : {X : Type 0} → TextRules X → List X → List (Result Span ReadFault) → List X → Type 0
AddEach rules list [] all = all ≡ list
AddEach {X} rules list (item ∷ items) all =
    (x : X) × (item_read rules list item ≡ Ok x) × AddEach rules (list ++ x ∷ []) items all

-- a text has no zero byte
abbrev pub HasNoNul : List ℕ → Type 0
HasNoNul text = position (λ b. b == 0) text ≡ None

-- a text spells a list
pub record SpellsByRules {X : Type 0} (rules : TextRules X) (list : List X) (text : List ℕ) : Type 0 where
  pub no_nul : HasNoNul text
  pub each : AddEach rules [] (items_in rules text) list
  pub enough : rules.least ≤ length list

-- the first fault of a text: its first zero byte; or the fault of an item, after items that add to a list; or that it
-- has too few entries
pub data IsFaultByRules {X : Type 0} (rules : TextRules X) (text : List ℕ) : ReadFault → Type 0 where
  nul : (place : ℕ) → position (λ b. b == 0) text ≡ Some place
      → IsFaultByRules rules text (read_fault_at place Nul)
  of_item : (before after : List (Result Span ReadFault)) (item : Result Span ReadFault) (list : List X)
      (fault : ReadFault) → HasNoNul text → items_in rules text ≡ before ++ item ∷ after
      → AddEach rules [] before list → item_read rules list item ≡ Err fault → IsFaultByRules rules text fault
  few : (list : List X) → HasNoNul text → AddEach rules [] (items_in rules text) list → length list < rules.least
      → IsFaultByRules rules text (read_fault_at (length text) Empty)
