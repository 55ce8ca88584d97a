-- How the code reads a text of entries, as functions (this library's own). No public clause cites it: what they say
-- about texts is in Texts.
use Rattle.std.specs.Prelude.{◌≡◌, ◌⊎◌, ◌==◌, ◌+◌, ◌<◌, ◌≤◌, ℕ, List, [], ◌∷◌, ◌++◌, length, nat_lt, position, Option, None, Some, Result, Ok, Err, MatchResult, if◌then◌else◌}
use Rattle.acl_perm.specs.Lines.{Span, span_of, ColumnsFit}
use Rattle.acl_perm.specs.declared.lines.Piece.{Piece}
use Rattle.acl_perm.specs.internal.Steps.{◌>>=◌}
use Rattle.acl_nfs4.specs.Ace.{Ace}
use Rattle.acl_forms.specs.NfsRules.{nfs_rules}
use Rattle.acl_forms.specs.Texts.{TextRules, cut_entries, item_read, items_in, items_of}
use Rattle.acl_forms.specs.ReadFaults.{read_fault_at, no_memory_left}
use Rattle.acl_forms.specs.ToolsRules.{tools_rules}
use Rattle.acl_forms.specs.ToolsText.{Fields}
use Rattle.acl_forms.specs.declared.fault.ReadFault.{ReadFault}
use Rattle.acl_forms.specs.declared.fault.ReadReason.TheVariants.{Empty, Nul}
use Rattle.acl_forms.specs.declared.ace_text.AceText.{AceText}
use Rattle.acl_forms.specs.declared.ace_text.AceText.TheVariants.{Nfs, Tools}
use Rattle.acl_forms.specs.declared.tools.entry.AceFields.{AceFields}
-- the columns of what is left, if something is, are counts
pub use Rattle.acl_posix.specs.internal.Reading.{RestFits}

-- the rules of a form of NFSv4 texts
abbrev pub ace_rules : AceText → TextRules Ace
ace_rules (Tools object) = tools_rules object
ace_rules (Nfs source) = nfs_rules source

-- the first part, and the rest after the byte that ends it
pub record IsEntryRest {X : Type 0} (rules : TextRules X) (whole first rest : Span) : Type 0 where
  pub parts : cut_entries rules whole ≡ first ∷ cut_entries rules rest
  pub shorter : length rest.bytes < length whole.bytes
  pub first_fits : first.column + length first.bytes ≤ whole.column + length whole.bytes
  pub rest_fits : rest.column + length rest.bytes ≤ whole.column + length whole.bytes

-- the first part, and the rest after the byte that ends it if there is one
abbrev pub IsEntryCut : {X : Type 0} → TextRules X → Span → Piece × Option Piece → Type 0
IsEntryCut rules whole (first, None) =
    (cut_entries rules whole ≡ span_of first ∷ []) × (span_of first ≡ whole)
IsEntryCut rules whole (first, Some rest) = IsEntryRest rules whole (span_of first) (span_of rest)

-- a list with what items spell, or the first fault
unfoldable pub read_items : {X : Type 0} → TextRules X → List X → List (Result Span ReadFault)
    → Result (List X) ReadFault
read_items rules list [] = Ok list
read_items rules list (item ∷ items) = do
  x ← item_read rules list item
  read_items rules (list ++ x ∷ []) items

-- the list of a text, which must have enough entries
abbrev pub if_enough : {X : Type 0} → TextRules X → List ℕ → List X → Result (List X) ReadFault
if_enough rules text list =
    if nat_lt (length list) rules.least then Err (read_fault_at (length text) Empty) else Ok list

-- the list of a text whose first zero byte is here, or its first fault
abbrev pub unless_nul : {X : Type 0} → TextRules X → List ℕ → Option ℕ → Result (List X) ReadFault
unless_nul rules text None =
    read_items rules [] (items_in rules text) >>= λ list. if_enough rules text list
unless_nul rules text (Some place) = Err (read_fault_at place Nul)

-- the list of a text, or its first fault
unfoldable pub text_read : {X : Type 0} → TextRules X → List ℕ → Result (List X) ReadFault
text_read rules text = unless_nul rules text (position (λ b. b == 0) text)

-- the fault of the code is the fault that is reported, or memory ran out
abbrev pub FailsAsRead : {Y : Type 0} → ReadFault → Result Y ReadFault → Type 0
FailsAsRead fault read = (fault ≡ no_memory_left) ⊎ (read ≡ Err fault)

-- what is read is held
abbrev pub IsHeld : {X : Type 0} → Result (List X) ReadFault → (List X → Type 0) → Type 0
IsHeld {X} read Held = (all : List X) × (read ≡ Ok all) × Held all

-- the result of adding items to a list that holds these
abbrev pub AddsItems : {X : Type 0} → TextRules X → List (Result Span ReadFault) → List X → (List X → Type 0)
    → Result (Unit {0}) ReadFault → Type 0
AddsItems rules items list Held result = MatchResult result (λ _. IsHeld (read_items rules list items) Held)
    (λ fault. FailsAsRead fault (read_items rules list items))

-- the items of one part of a line
abbrev pub part_items : {X : Type 0} → TextRules X → Span → List (Result Span ReadFault)
part_items rules part = if rules.is_part_skipped part.bytes then [] else items_of (part ∷ [])

-- the result of adding what is read to a list that holds these
abbrev pub AddsOne : {X : Type 0} → Result X ReadFault → List X → (List X → Type 0) → Result (Unit {0}) ReadFault
    → Type 0
AddsOne {X} read list Held (Ok _) = (x : X) × (read ≡ Ok x) × Held (list ++ x ∷ [])
AddsOne read list Held (Err fault) = FailsAsRead fault read

-- the answer of a test is the fault for which it looks
abbrev pub JudgesComment : Result (Unit {0}) ReadFault → Option ReadFault → Type 0
JudgesComment (Ok _) fault = fault ≡ None
JudgesComment (Err e) fault = fault ≡ Some e

-- the fields of an entry as code holds them, without their places in memory
abbrev pub fields_viewed : AceFields → Fields
fields_viewed fields = record {
  kind = span_of fields.kind;
  flags = span_of fields.flags;
  who = span_of fields.who;
  rights = span_of fields.rights;
}

-- the columns of the fields are counts
pub record AceFieldsFit (fields : AceFields) : Type 0 where
  pub kind : ColumnsFit fields.kind
  pub flags : ColumnsFit fields.flags
  pub who : ColumnsFit fields.who
  pub rights : ColumnsFit fields.rights
