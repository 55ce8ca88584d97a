-- The entries of a text of a POSIX ACL in an archive (acl(5), "LONG TEXT FORM" and "SHORT TEXT FORM"; star(1) and
-- archive_acl_from_text in the source of libarchive 3.6.2): `tag:qualifier:permissions`, with an id at the end where
-- the qualifier names a user or a group. The places and the order of the faults are this library's own.
use Rattle.std.specs.Prelude.{◌==◌, ℕ, Bool, true, false, List, [], ◌∷◌, length, Option, None, Some, ok_or, Result, Ok, Err, if◌then◌else◌}
use Rattle.acl_perm.specs.Ascii.{colon}
use Rattle.acl_perm.specs.Lines.{Span, cut_at, is_all_blank, start_of, trimmed}
use Rattle.acl_perm.specs.internal.Steps.{◌>>=◌}
use Rattle.acl_posix.specs.Fields.{id_in, is_default, permissions_of, word_of}
use Rattle.acl_posix.specs.Names.{Ids, Table, is_number}
use Rattle.acl_posix.specs.Tag.{Tag}
use Rattle.acl_posix.specs.TextFault.{qualifier_names}
use Rattle.acl_posix.specs.declared.field.TagWord.{TagWord}
use Rattle.acl_posix.specs.declared.field.TagWord.TheVariants as word
use Rattle.acl_posix.specs.declared.text_fault.Part.{Part}
use Rattle.acl_posix.specs.declared.text_fault.Part.TheVariants.{Default}
use Rattle.acl_posix.specs.internal.Reading.{tag_alone, tag_with}
use Rattle.acl_forms.specs.NfsText.{id_alone, is_other_number}
use Rattle.acl_forms.specs.ReadFaults.{read_fault_at}
use Rattle.acl_forms.specs.declared.fault.ReadFault.{ReadFault}
use Rattle.acl_forms.specs.declared.fault.ReadReason.{ReadReason}
use Rattle.acl_forms.specs.declared.fault.ReadReason.TheVariants as reasons

-- ---- the fields of an entry

-- the fields of an entry, and the part that it belongs to; an id may follow the permissions
pub record PosixFields : Type 0 where
  pub part : Part
  pub tag : Span
  pub qualifier : Span
  pub permissions : Span
  pub id : Option Span

-- three fields, or four with an id; another number is none
abbrev pub fields_in : Part → List Span → Option PosixFields
fields_in part (a ∷ b ∷ c ∷ []) =
    Some (record { part = part; tag = a; qualifier = b; permissions = c; id = None })
fields_in part (a ∷ b ∷ c ∷ d ∷ []) =
    Some (record { part = part; tag = a; qualifier = b; permissions = c; id = Some d })
fields_in part _ = None

-- the fields among the parts of an entry: a first part that marks a default entry is dropped
abbrev pub fields_from : Part → List Span → Option PosixFields
fields_from part [] = None
fields_from part (first ∷ more) =
    if is_default (trimmed first.bytes) then fields_in Default more else fields_in part (first ∷ more)

-- the fields of an entry that belongs to this part if it has no mark of a default entry
unfoldable pub posix_fields : Part → Span → Option PosixFields
posix_fields part entry = fields_from part (cut_at colon entry)

-- ---- what the fields spell; blanks at the ends of a field do not count

-- a fault of a field, at its first byte that is not a blank
abbrev pub field_refused : Span → ReadReason → ReadFault
field_refused field reason = read_fault_at (start_of field) reason

-- the tag word of a field
abbrev pub word_read : Span → Result TagWord ReadFault
word_read field = ok_or (word_of (trimmed field.bytes)) (field_refused field reasons.Tag)

-- the permissions of a field, which is not empty
abbrev pub permissions_in : List ℕ → Option ℕ
permissions_in bytes = if length bytes == 0 then None else permissions_of bytes

-- the permissions of a field, or its fault
abbrev pub permissions_read : Span → Result ℕ ReadFault
permissions_read field = ok_or (permissions_in (trimmed field.bytes)) (field_refused field reasons.Permission)

-- whether a qualifier may follow a word
abbrev pub has_qualifier : TagWord → Bool
has_qualifier word.User = true
has_qualifier word.Group = true
has_qualifier word.Mask = false
has_qualifier word.Other = false

-- why a qualifier is no id: it is a number above all ids, or a name without an id
abbrev pub qualifier_reason : List ℕ → ReadReason
qualifier_reason bytes = if is_number bytes then reasons.Id else reasons.UnknownName

-- the id of a qualifier, in digits or as one of these names; a word without names has no qualifier
abbrev pub id_read : Option Ids → Span → Result ℕ ReadFault
id_read None field = Err (field_refused field reasons.Qualifier)
id_read (Some ids) field =
    ok_or (id_in ids (trimmed field.bytes)) (field_refused field (qualifier_reason (trimmed field.bytes)))

-- the tag of a word and the field of a qualifier
unfoldable pub tag_read : Table → TagWord → Span → Result Tag ReadFault
tag_read names tag_word field =
    if length (trimmed field.bytes) == 0 then Ok (tag_alone tag_word)
    else id_read (qualifier_names names tag_word) field >>= λ id. Ok (tag_with tag_word id)

-- the word of an entry with four fields, if an id may end the entry: it has a qualifier, and may have one
unfoldable pub named_word : ℕ → TagWord → Span → Result TagWord ReadFault
named_word start tag_word field =
    if length (trimmed field.bytes) == 0 then Err (read_fault_at start reasons.Fields)
    else (if has_qualifier tag_word then Ok tag_word else Err (field_refused field reasons.Qualifier))

-- the id of a fourth field: digits alone, and not another number than the qualifier
unfoldable pub last_id : Span → Span → Result ℕ ReadFault
last_id qualifier field = do
  id ← ok_or (id_alone (trimmed field.bytes)) (field_refused field reasons.Id)
  if is_other_number (trimmed qualifier.bytes) id then Err (field_refused field reasons.IdDiffers) else Ok id

-- the tag and the permissions of an entry that begins here, by its fourth field if it has one: then the id is the one
-- of this field, and the name is not looked up
abbrev pub pair_by_id : ℕ → Table → TagWord → PosixFields → Option Span → Result (Tag × ℕ) ReadFault
pair_by_id start names tag_word fields None = do
  tag ← tag_read names tag_word fields.qualifier
  perm ← permissions_read fields.permissions
  Ok (tag, perm)
pair_by_id start names tag_word fields (Some field) = do
  named ← named_word start tag_word fields.qualifier
  perm ← permissions_read fields.permissions
  id ← last_id fields.qualifier field
  Ok (tag_with named id, perm)

-- the tag and the permissions of the fields of an entry that begins here, or the first fault
unfoldable pub pair_read : ℕ → Table → PosixFields → Result (Tag × ℕ) ReadFault
pair_read start names fields = word_read fields.tag >>= λ tag_word. pair_by_id start names tag_word fields fields.id

-- ---- entries

-- an entry of a text: the part that it belongs to, its first byte, and its tag and permissions
pub record PlacedEntry : Type 0 where
  pub part : Part
  pub at : ℕ
  pub pair : Tag × ℕ

-- the entry that a piece of a text spells, or its first fault; without a mark it belongs to this part
unfoldable pub posix_entry : Part → Table → Span → Result PlacedEntry ReadFault
posix_entry part names entry =
    if is_all_blank entry.bytes then Err (read_fault_at entry.column reasons.EmptyEntry) else do
      fields ← ok_or (posix_fields part entry) (read_fault_at entry.column reasons.Fields)
      pair ← pair_read entry.column names fields
      Ok (record { part = fields.part; at = entry.column; pair = pair })
