-- How the fields of an entry of a text of FreeBSD, ZFS and archives are found.
use Rattle.std.proofs.Common.{◌≡◌, ◌∙◌, ◌+◌, ◌≤◌, ℕ, true, false, cond, List, [], ◌∷◌, length, drop, Option, None, Some, Ok, Err, refl, sym, ap, arith}
use Rattle.std.specs.Prelude.{map, not, option_map}
use Rattle.std.proofs.lemmas.List.{length-drop}
use Rattle.std.proofs.lemmas.List.Sums.{prefix_len-le-length}
use Rattle.acl_perm.specs.Ascii.{colon}
use Rattle.acl_perm.specs.Lines.{blanks_before, end_trimmed, is_all_blank, is_blank, start_of, trimmed, IsCut, Span, span_of}
use Rattle.acl_perm.specs.declared.lines.Piece.{Piece}
use Rattle.acl_nfs4.specs.Ace.{Ace}
use Rattle.acl_forms.specs.NfsText.{fields_by_tag, named_fields, nfs_ace, nfs_entry, nfs_fields_of, nfs_fields_read, nfs_tag_of, special_fields, tag_special, trimmed_span, NfsFields}
use Rattle.acl_forms.specs.ReadFaults.{read_fault_at}
use Rattle.acl_forms.specs.ToolsText.{taken}
use Rattle.acl_forms.specs.internal.NfsReading.{parts_of_rest, parts_in, tail_of_parts, tail_with_id, with_tail, TailFields}
use Rattle.acl_forms.specs.declared.fault.ReadFault.{ReadFault}
use Rattle.acl_forms.specs.declared.fault.ReadReason.TheVariants as reasons
use Rattle.acl_forms.specs.declared.nfs_text.fields.NfsTag.{NfsTag}
use Rattle.acl_forms.specs.declared.who_field.WhoField.{WhoField}
use Rattle.acl_forms.proofs.EntryLemmas.{some_part}

-- ---- blanks

-- bytes without the blanks at their end are no more
end_shorter : (bs : List ℕ) → length (end_trimmed bs) ≤ length bs
end_shorter [] = omega arith
end_shorter (b ∷ bs) =
    elim (is_all_blank (b ∷ bs)) as (λ t. length (cond t [] (b ∷ end_trimmed bs)) ≤ length (b ∷ bs)) [
      | true ↦ omega arith
      | false ↦ omega (arith, end_shorter bs)
    ]

-- a part without the blanks at its ends is within the part
pub trimmed_fits : (s : Span) → start_of s + length (trimmed s.bytes) ≤ s.column + length s.bytes
unfolding trimmed
trimmed_fits s =
    let before = blanks_before s.bytes in
    let short : before ≤ length s.bytes = prefix_len-le-length (λ b. not (not (is_blank b))) s.bytes in
    omega (arith, short, end_shorter (drop before s.bytes), length-drop before s.bytes)

-- ---- parts

-- the parts of a whole are its first part and the parts after it
pub parts_next : (whole : Span) (r : Piece × Option Piece) → IsCut colon whole r
    → parts_in whole ≡ trimmed_span (span_of r.0) ∷ parts_of_rest r.1
parts_next whole (first, None) h = ap (map trimmed_span) h.0
parts_next whole (first, Some rest) h = ap (map trimmed_span) h.parts

-- the first part and the parts of the rest, for a rest that is known
pub parts_to : (whole : Span) (r : Piece × Option Piece) (rest : Option Piece) → IsCut colon whole r → r.1 ≡ rest
    → parts_in whole ≡ trimmed_span (span_of r.0) ∷ parts_of_rest rest
parts_to whole r rest h e = parts_next whole r h
    ∙ ap (λ (o : Option Piece). trimmed_span (span_of r.0) ∷ parts_of_rest o) e

-- there is at least one part
more_parts : (rest : Span) → (first : Span) × (others : List Span) × (parts_in rest ≡ first ∷ others)
more_parts rest = let some = some_part colon rest in
    (trimmed_span some.0, map trimmed_span some.1, ap (map trimmed_span) some.2)

-- the parts of a whole whose first part without blanks is a word
parts_from : (whole word : Span) (r : Piece × Option Piece) → IsCut colon whole r → word ≡ trimmed_span (span_of r.0)
    → parts_in whole ≡ word ∷ parts_of_rest r.1
parts_from whole word r h is = parts_next whole r h ∙ ap (λ (w : Span). w ∷ parts_of_rest r.1) (sym is)

-- ---- fields

-- the fields of a name and of the parts after it
pub by_name : (tag : NfsTag) (name : Span) (parts : List Span)
    → named_fields tag (name ∷ parts) ≡ option_map (with_tail tag name) (tail_of_parts parts)
by_name tag name [] = refl
by_name tag name (a ∷ []) = refl
by_name tag name (a ∷ b ∷ []) = refl
by_name tag name (a ∷ b ∷ c ∷ []) = refl
by_name tag name (a ∷ b ∷ c ∷ d ∷ []) = refl
by_name tag name (a ∷ b ∷ c ∷ d ∷ e ∷ parts) = refl

-- the fields of an entry with a name
pub named_made : (tag : NfsTag) (whole rest name who : Span) (tail : TailFields)
    → parts_in whole ≡ name ∷ parts_in rest → who ≡ name → tail_of_parts (parts_in rest) ≡ Some tail
    → Some (with_tail tag who tail) ≡ named_fields tag (parts_in whole)
named_made tag whole rest name who tail e is some = rw (e, is)
    (sym (by_name tag name (parts_in rest) ∙ ap (option_map (with_tail tag name)) some))

-- the fields of a special identifier, by its id
abbrev no_id_only : NfsTag → Span → TailFields → Option Span → Option NfsFields
no_id_only tag who tail None = Some (with_tail tag who tail)
no_id_only tag who tail (Some id) = None

-- the fields of a special identifier, which has no id
abbrev if_no_id : NfsTag → Span → Option TailFields → Option NfsFields
if_no_id tag who None = None
if_no_id tag who (Some tail) = no_id_only tag who tail tail.id

-- the fields of a special identifier and of the parts after it
by_special : (tag : NfsTag) (who : Span) (parts : List Span)
    → special_fields tag who parts ≡ if_no_id tag who (tail_of_parts parts)
by_special tag who [] = refl
by_special tag who (a ∷ []) = refl
by_special tag who (a ∷ b ∷ []) = refl
by_special tag who (a ∷ b ∷ c ∷ []) = refl
by_special tag who (a ∷ b ∷ c ∷ d ∷ []) = refl
by_special tag who (a ∷ b ∷ c ∷ d ∷ e ∷ parts) = refl

-- the fields of an entry with a special identifier, of which the id is known
pub special_made : (tag : NfsTag) (who whole : Span) (tail : TailFields) (id : Option Span)
    → Some tail ≡ tail_of_parts (parts_in whole) → tail.id ≡ id
    → no_id_only tag who tail id ≡ special_fields tag who (parts_in whole)
special_made tag who whole tail id some e = sym (by_special tag who (parts_in whole) ∙ ap (if_no_id tag who) (sym some)
    ∙ ap (no_id_only tag who tail) e)

-- the fields after the principal with a last part that is the id
with_last : (rights flags kind first : Span) (others : List Span)
    → tail_with_id (record { rights = rights; flags = flags; kind = kind; id = None }) (first ∷ others)
    ≡ tail_of_parts (rights ∷ flags ∷ kind ∷ first ∷ others)
with_last rights flags kind first [] = refl
with_last rights flags kind first (other ∷ others) = refl

-- the fields after the principal, of three parts and those after them
pub tail_joined : (whole a b last rights flags kind one two three : Span) → parts_in whole ≡ one ∷ parts_in a
    → parts_in a ≡ two ∷ parts_in b → parts_in b ≡ three ∷ parts_in last → rights ≡ one → flags ≡ two → kind ≡ three
    → tail_with_id (record { rights = rights; flags = flags; kind = kind; id = None }) (parts_in last)
    ≡ tail_of_parts (parts_in whole)
tail_joined whole a b last rights flags kind one two three e f g p q r =
    let some = more_parts last in
    rw (e, f, g, some.2, p, q, r) (with_last one two three some.0 some.1)

-- an id with a part after it is no last part
pub too_many : (tail : TailFields) (whole id rest : Span) → parts_in whole ≡ id ∷ parts_in rest
    → None ≡ tail_with_id tail (parts_in whole)
too_many tail whole id rest e = let some = more_parts rest in rw (e, some.2) refl

-- ---- the fields of an entry

-- an entry with another tag has that fault
pub bad_tag : (entry word : Span) (r : Piece × Option Piece) → IsCut colon entry r
    → word ≡ trimmed_span (span_of r.0) → nfs_tag_of word.bytes ≡ None
    → nfs_fields_of entry ≡ Err (read_fault_at word.column reasons.Tag)
unfolding nfs_fields_of
bad_tag entry word r cut is none = rw (parts_from entry word r cut is, none) refl

-- an entry with a tag has the fields of its parts
pub good_tag : (entry word : Span) (r : Piece × Option Piece) (tag : NfsTag) (fields : NfsFields) → IsCut colon entry r
    → word ≡ trimmed_span (span_of r.0) → nfs_tag_of word.bytes ≡ Some tag
    → fields_by_tag tag word.column (parts_of_rest r.1) (tag_special tag) ≡ Some fields
    → nfs_fields_of entry ≡ Ok fields
unfolding nfs_fields_of
good_tag entry word r tag fields cut is some good = rw (parts_from entry word r cut is, some, good) refl

-- or it has another number of fields than its tag must have
pub bad_number : (entry word : Span) (r : Piece × Option Piece) (tag : NfsTag) → IsCut colon entry r
    → word ≡ trimmed_span (span_of r.0) → nfs_tag_of word.bytes ≡ Some tag
    → fields_by_tag tag word.column (parts_of_rest r.1) (tag_special tag) ≡ None
    → nfs_fields_of entry ≡ Err (read_fault_at entry.column reasons.Fields)
unfolding nfs_fields_of
bad_number entry word r tag cut is some none = rw (parts_from entry word r cut is, some, none) refl

-- ---- entries

-- the fault of finding the fields is the fault of the entry
pub bad_nfs_fields : (source : WhoField) (aces : List Ace) (entry : Span) (fault : ReadFault)
    → nfs_fields_read (length aces) entry ≡ Err fault → nfs_entry source aces entry ≡ Err fault
unfolding nfs_entry
bad_nfs_fields source aces entry fault wrong = rw wrong refl

-- the fault of the ACE is the fault of the entry
pub bad_nfs_ace : (source : WhoField) (aces : List Ace) (entry : Span) (fields : NfsFields) (fault : ReadFault)
    → nfs_fields_read (length aces) entry ≡ Ok fields → nfs_ace source fields ≡ Err fault
    → nfs_entry source aces entry ≡ Err fault
unfolding nfs_entry
bad_nfs_ace source aces entry fields fault good wrong = rw (good, wrong) refl

-- the ACE of the fields is taken, or refused
pub good_nfs_ace : (source : WhoField) (aces : List Ace) (entry : Span) (fields : NfsFields) (a : Ace)
    → nfs_fields_read (length aces) entry ≡ Ok fields → nfs_ace source fields ≡ Ok a
    → nfs_entry source aces entry ≡ taken aces a fields.rights.column fields.who.column
unfolding nfs_entry
good_nfs_ace source aces entry fields a good is = rw (good, is) refl
