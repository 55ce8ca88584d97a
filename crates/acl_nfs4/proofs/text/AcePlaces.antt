-- Where the faults of texts are: at a column of a line of the text, or at the byte after the line.
use Rattle.acl_perm.proofs.LineLemmas.{IsLineAt, first_line, later_line, place_in_line}
use Rattle.acl_perm.specs.Lines.{IsTextPlace, lines_of}
use Rattle.acl_nfs4.proofs.Common.{[], Ace, ace_lines_from, AceTextFault, ap, arith, cond, false, HasLineFields, inl, inr, is_skipped, IsAceTextFault, IsAt, IsLineFault, length, length-append, LineFields, List, Profile, space, subst, TextLine, true, ℕ, ◌++◌, ◌+◌, ◌∷◌, ◌≡◌, ◌≤◌}
use Rattle.std.specs.Prelude.{not, ◌⊎◌}
use Rattle.acl_nfs4.specs.Laws.{IsInAceText}
use Rattle.acl_nfs4.specs.declared.text.fault.AceTextFault.TheVariants as faults

-- a line of a list of lines that is not empty is the first one or one of the others
first_or_later : (first line : TextLine) (lines before after : List TextLine) → first ∷ lines ≡ before ++ line ∷ after
    → (first ≡ line) ⊎ ((front : List TextLine) × (lines ≡ front ++ line ∷ after))
first_or_later first line lines [] after h = inl cc
first_or_later first line lines (b ∷ before) after h = inr (before, cc)

-- a line that should spell an ACE is a line of the text, with its number
line_at : (n : ℕ) (lines : List (List ℕ)) (before after : List TextLine) (line : TextLine)
    → ace_lines_from n lines ≡ before ++ line ∷ after → IsLineAt n lines line.number line.bytes
line_at n [] before after line h = absurd (omega (arith, ap length h, length-append before (line ∷ after)))
line_at n (first ∷ lines) before after line h =
    elim (is_skipped first)
    as (λ b. cond (not b) (record { number = n; bytes = first } ∷ ace_lines_from (n + 1) lines)
    (ace_lines_from (n + 1) lines) ≡ before ++ line ∷ after → IsLineAt n (first ∷ lines) line.number line.bytes) [
      | true ↦ λ e.
          later_line n first lines line.number line.bytes (line_at (n + 1) lines before after line e)
      | false ↦ λ e. elim (first_or_later _ line (ace_lines_from (n + 1) lines) before after e) [
        | inl same ↦ subst (λ (l : TextLine). IsLineAt n (first ∷ lines) l.number l.bytes) same
            (first_line n first lines)
        | inr found ↦ later_line n first lines line.number line.bytes
            (line_at (n + 1) lines found.0 after line found.1)
      ]
    ] h

-- a line has the bytes of its fields and the three spaces between them
line_length : (line : List ℕ) (fields : LineFields) → HasLineFields line fields
    → length line ≡ length fields.kind + length fields.flags + length fields.mask + length fields.who + 3
line_length line fields h = omega (
  arith,
  ap length h.order,
  length-append fields.kind (space ∷ (fields.flags ++ space ∷ (fields.mask ++ space ∷ fields.who))),
  length-append fields.flags (space ∷ (fields.mask ++ space ∷ fields.who)),
  length-append fields.mask (space ∷ fields.who),
)

-- the first column of a line is a place
at_front : (text : List ℕ) (line : TextLine) (at_line at_column : ℕ)
    → IsLineAt 1 (lines_of text) line.number line.bytes → IsAt line.number 1 at_line at_column
    → IsTextPlace text at_line at_column
at_front text line at_line at_column here place = place_in_line text line.number line.bytes at_line at_column here
    place.same_line (omega (arith, place.same_column)) (omega (arith, place.same_column))

-- the column of a field is a place
at_field : (text : List ℕ) (line : TextLine) (fields : LineFields) (column at_line at_column : ℕ)
    → IsLineAt 1 (lines_of text) line.number line.bytes → HasLineFields line.bytes fields
    → 1 ≤ column → column ≤ length fields.kind + length fields.flags + length fields.mask + length fields.who + 4
    → IsAt line.number column at_line at_column → IsTextPlace text at_line at_column
at_field text line fields column at_line at_column here has low high place =
    place_in_line text line.number line.bytes at_line at_column here place.same_line
    (omega (arith, place.same_column, low))
    (omega (arith, place.same_column, high, line_length line.bytes fields has))

-- the fault of a line is in the text
line_fault_in : (p : Profile) (text : List ℕ) (list : List Ace) (line : TextLine) (fault : AceTextFault)
    → IsLineAt 1 (lines_of text) line.number line.bytes → IsLineFault p list line fault → IsInAceText text fault
line_fault_in p text list line (faults.TooManyAces l c) here h = at_front text line l c here h.place
line_fault_in p text list line (faults.Fields l c) here h = at_front text line l c here h.place
line_fault_in p text list line (faults.AceType l c) here h = at_front text line l c here h.place
line_fault_in p text list line (faults.Flag l c) here h =
    at_field text line h.fields _ l c here h.typed.cut.has (omega arith) (omega arith) h.place
line_fault_in p text list line (faults.Mask l c) here h =
    at_field text line h.fields _ l c here h.flagged.typed.cut.has (omega arith) (omega arith) h.place
line_fault_in p text list line (faults.TooHeavy l c) here h =
    at_field text line h.fields _ l c here h.masked.flagged.typed.cut.has (omega arith) (omega arith) h.place
line_fault_in p text list line (faults.WhoLength l c) here h =
    at_field text line h.fields _ l c here h.light.masked.flagged.typed.cut.has (omega arith) (omega arith) h.place
line_fault_in p text list line (faults.WhoUtf8 l c) here h =
    at_field text line h.fields _ l c here h.light.masked.flagged.typed.cut.has (omega arith) (omega arith) h.place
line_fault_in p text list line (faults.WhoControl l c) here h =
    at_field text line h.fields _ l c here h.light.masked.flagged.typed.cut.has (omega arith) (omega arith) h.place
line_fault_in p text list line (faults.SpecialWho l c) here h =
    at_field text line h.fields _ l c here h.light.masked.flagged.typed.cut.has (omega arith) (omega arith) h.place
line_fault_in p text list line faults.Memory here h = absurd h

-- the fault of a text is in the text
pub text_fault_in : (p : Profile) (text : List ℕ) (fault : AceTextFault) → IsAceTextFault p text fault
    → IsInAceText text fault
text_fault_in p text fault h =
    line_fault_in p text h.list h.line fault (line_at 1 (lines_of text) h.before h.after h.line h.order) h.wrong
