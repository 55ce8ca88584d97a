-- How an entry is read, step by step.
use Rattle.std.proofs.Common.{◌≡◌, ◌∙◌, ◌++◌, ℕ, true, false, List, [], ◌∷◌, length, Option, None, Some, Result, Ok, Err, refl, ap, subst, arith, inl, inr}
use Rattle.std.specs.Prelude.{◌==◌, position}
use Rattle.std.specs.List.{slice_split}
use Rattle.std.proofs.lemmas.List.Splits.{length-slice_split}
use Rattle.acl_perm.specs.Ascii.{colon, comment_mark}
use Rattle.acl_perm.specs.Lines.{cut_at, IsCut, Span, span_of, spans}
use Rattle.acl_perm.specs.declared.lines.Piece.{Piece}
use Rattle.acl_nfs4.specs.Ace.{Ace}
use Rattle.acl_nfs4.specs.Push.{push_refusal, PushAnswers}
use Rattle.acl_nfs4.specs.declared.list.push_fault.PushFault.{PushFault}
use Rattle.acl_nfs4.specs.declared.list.push_fault.PushFault.TheVariants as push
use Rattle.acl_forms.specs.internal.TextReading.{AddsItems, AddsOne, FailsAsRead, part_items, read_items}
use Rattle.acl_forms.specs.Texts.{comment_fault, entries_of, items_of, line_items, TextRules}
use Rattle.acl_forms.specs.ToolsText.{tools_ace, Fields, fields_read, four, refused_at, taken, tools_entry, unless_refused}
use Rattle.acl_forms.specs.declared.fault.ReadFault.{ReadFault}
use Rattle.acl_forms.specs.declared.object.ObjectKind.{ObjectKind}

-- ---- fields

-- what is cut of a span is cut of an equal one
pub cut_of : (separator : ℕ) (r : Piece × Option Piece) (one two : Span) → IsCut separator one r → one ≡ two
    → IsCut separator two r
cut_of separator r one two h e = subst (λ (s : Span). IsCut separator s r) e h

-- a cut with a rest gives the first part and the parts of the rest
pub cut_to : (separator : ℕ) (whole : Span) (r : Piece × Option Piece) (rest : Piece) → IsCut separator whole r
    → r.1 ≡ Some rest → cut_at separator whole ≡ span_of r.0 ∷ cut_at separator (span_of rest)
cut_to separator whole (first, None) rest h e = absurd cc
cut_to separator whole (first, Some other) rest h e =
    let same : other ≡ rest = cc in
    h.parts ∙ ap (λ (p : Piece). span_of first ∷ cut_at separator (span_of p)) same

-- there is at least one part
pub some_part : (separator : ℕ) (span : Span) → (first : Span) × (others : List Span)
    × (cut_at separator span ≡ first ∷ others)
unfolding cut_at
some_part separator span =
    elim (slice_split (λ b. b == separator) span.bytes) as (λ parts.
    slice_split (λ b. b == separator) span.bytes ≡ parts
    → (first : Span) × (others : List Span) × (spans span.column parts ≡ first ∷ others)) [
      | [] ↦ λ none. absurd (omega (arith, length-slice_split (λ b. b == separator) span.bytes, ap length none))
      | part ∷ parts ↦ λ e. (record { column = span.column; bytes = part }, _, refl)
    ] refl

-- more than four parts are no fields
pub more_than_four : (a b c d : Span) (rest : Span) → four (a ∷ b ∷ c ∷ d ∷ cut_at colon rest) ≡ None
more_than_four a b c d rest = let some = some_part colon rest in rw some.2 refl

-- ---- entries

-- the fault of finding the fields is the fault of the entry
pub no_fields : (object : ObjectKind) (aces : List Ace) (entry : Span) (fault : ReadFault)
    → fields_read (length aces) entry ≡ Err fault → tools_entry object aces entry ≡ Err fault
unfolding tools_entry
no_fields object aces entry fault wrong = rw wrong refl

-- the fault of the fields is the fault of the entry
pub bad_fields : (object : ObjectKind) (aces : List Ace) (entry : Span) (fields : Fields) (fault : ReadFault)
    → fields_read (length aces) entry ≡ Ok fields → tools_ace object fields ≡ Err fault
    → tools_entry object aces entry ≡ Err fault
unfolding tools_entry
bad_fields object aces entry fields fault e wrong = rw (e, wrong) refl

-- the ACE of the fields is taken, or refused
pub good_fields : (object : ObjectKind) (aces : List Ace) (entry : Span) (fields : Fields) (a : Ace)
    → fields_read (length aces) entry ≡ Ok fields → tools_ace object fields ≡ Ok a
    → tools_entry object aces entry ≡ taken aces a fields.rights.column fields.who.column
unfolding tools_entry
good_fields object aces entry fields a e good = rw (e, good) refl

-- the fault of a push is that of the ACE, or memory ran out
pub push_fails : (aces : List Ace) (a : Ace) (mask who : ℕ) (fault : PushFault) (read : Result Ace ReadFault)
    → PushAnswers (Err fault) (push_refusal aces a) → read ≡ taken aces a mask who
    → FailsAsRead (refused_at mask who fault) read
push_fails aces a mask who push.TooManyAces read h e = inr (e ∙ ap (unless_refused a mask who) h)
push_fails aces a mask who push.TooHeavy read h e = inr (e ∙ ap (unless_refused a mask who) h)
push_fails aces a mask who push.WhoLength read h e = inr (e ∙ ap (unless_refused a mask who) h)
push_fails aces a mask who push.WhoUtf8 read h e = inr (e ∙ ap (unless_refused a mask who) h)
push_fails aces a mask who push.WhoControl read h e = inr (e ∙ ap (unless_refused a mask who) h)
push_fails aces a mask who push.SpecialWho read h e = inr (e ∙ ap (unless_refused a mask who) h)
push_fails aces a mask who push.Memory read h e = inl refl

-- ---- items

-- a part that is no entry adds nothing
pub passed_over : {X : Type 0} (rules : TextRules X) (aces : List X) (part : Span)
    → rules.is_part_skipped part.bytes ≡ true
    → read_items rules aces (part_items rules part) ≡ Ok aces
unfolding read_items
passed_over rules aces part e = rw e refl

-- any other part adds its ACE, or has its fault
pub part_read : {X : Type 0} (rules : TextRules X) (aces : List X) (Held : List X → Type 0) (part : Span)
    (r : Result (Unit {0}) ReadFault) → rules.is_part_skipped part.bytes ≡ false
    → AddsOne (rules.entry aces part) aces Held r → AddsItems rules (part_items rules part) aces Held r
unfolding read_items
part_read rules aces Held part (Ok done) some h = (aces ++ h.0 ∷ [], rw (some, h.1) refl, h.2)
part_read rules aces Held part (Err fault) some (inl none) = inl none
part_read rules aces Held part (Err fault) some (inr e) = inr (rw (some, e) refl)

-- a line without entries adds nothing
pub line_skipped : {X : Type 0} (rules : TextRules X) (aces : List X) (line : Span)
    → rules.is_line_skipped line.bytes ≡ true
    → read_items rules aces (items_of (entries_of rules line)) ≡ Ok aces
unfolding read_items
line_skipped rules aces line e = rw e refl

-- the fault of a comment is that of its line
pub commented : {X : Type 0} (rules : TextRules X) (aces : List X) (line : Span) (place : ℕ) (fault : ReadFault)
    → position (λ b. b == comment_mark) line.bytes ≡ Some place → comment_fault rules line place ≡ Some fault
    → read_items rules aces (line_items rules line) ≡ Err fault
unfolding line_items read_items
commented rules aces line place fault at wrong = rw (at, wrong) refl
