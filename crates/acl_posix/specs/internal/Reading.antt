-- How the code reads pieces one after the other, as functions (this library's own). What public clauses say about texts
-- is in Grammar and TextFault.
use Rattle.std.specs.Prelude.{ℕ, ◌≡◌, ◌+◌, ◌<◌, ◌≤◌, ◌==◌, List, [], ◌∷◌, ◌++◌, length, Option, Some, None, Result, Ok, Err, MatchResult, ok_or, if◌then◌else◌}
use Rattle.std.specs.Borrow.{Bor}
use Rattle.std.specs.List.{enumerate_from}
use Rattle.acl_perm.specs.declared.lines.Piece.{Piece}
use Rattle.acl_perm.specs.Lines.{Span, span_of, cut_at, lines_of, start_of, trimmed, is_all_blank, ColumnsFit}
use Rattle.acl_perm.specs.internal.Steps.{◌>>=◌}
use Rattle.acl_posix.specs.declared.field.TagWord.{TagWord}
use Rattle.acl_posix.specs.declared.field.TagWord.TheVariants as word
use Rattle.acl_posix.specs.declared.entry.Entry.{Entry}
use Rattle.acl_posix.specs.declared.text_fault.Part.{Part}
use Rattle.acl_posix.specs.declared.text_fault.Part.TheVariants.{Access, Default}
use Rattle.acl_posix.specs.declared.text_fault.TextFault.{TextFault}
use Rattle.acl_posix.specs.declared.text_fault.TextFault.TheVariants as faults
use Rattle.acl_posix.specs.declared.reader.EntryLists.{EntryLists}
use Rattle.acl_posix.specs.declared.piece.EntryPieces.{EntryPieces}
use Rattle.acl_posix.specs.Tag.{Tag, user_obj, user, group_obj, group, mask, other}
use Rattle.acl_posix.specs.Entries.{pair_of, pairs}
use Rattle.acl_posix.specs.Valid.{IsFaultOf}
use Rattle.acl_posix.specs.Names.{Table, Ids, is_number}
use Rattle.acl_posix.specs.Fields.{word_of, id_in, permissions_of}
use Rattle.acl_posix.specs.Grammar.{TextPiece, EntryFields, fields_of, PartEntry, line_pieces, numbered, pieces_of_lines, colon}
use Rattle.acl_posix.specs.TextFault.{acl_fault, qualifier_names}

-- the columns of what is left, if something is, are counts
abbrev pub RestFits : Option Piece → Type 0
RestFits None = Unit {0}
RestFits (Some p) = ColumnsFit p

-- the tag word of a field, or its fault
unfoldable pub read_word : ℕ → Span → Result TagWord TextFault
read_word line span = ok_or (word_of (trimmed span.bytes)) (faults.Tag line (start_of span))

-- the permissions of a field, or their fault
unfoldable pub read_permissions : ℕ → Span → Result ℕ TextFault
read_permissions line span = ok_or (permissions_of (trimmed span.bytes)) (faults.Permission line (start_of span))

-- the tag of a word without a qualifier
abbrev pub tag_alone : TagWord → Tag
tag_alone word.User = user_obj
tag_alone word.Group = group_obj
tag_alone word.Mask = mask
tag_alone word.Other = other

-- the tag of a word with an id, if the word can have one
abbrev pub tag_with : TagWord → ℕ → Tag
tag_with word.User id = user id
tag_with word.Group id = group id
tag_with word.Mask id = mask
tag_with word.Other id = other

-- the id of a qualifier, which may be one of these names, or its fault; a tag word without names has no qualifier
abbrev pub read_qualifier : Option Ids → ℕ → Span → Result ℕ TextFault
read_qualifier None line span = Err (faults.Qualifier line (start_of span))
read_qualifier (Some ids) line span =
    ok_or (id_in ids (trimmed span.bytes))
    (if is_number (trimmed span.bytes) then faults.Id line (start_of span)
    else faults.UnknownName line (start_of span))

-- what code read, as the definitions have it
abbrev pub mapped : {A B : Type 0} → (A → B) → Result A TextFault → Result B TextFault
mapped f (Ok x) = Ok (f x)
mapped f (Err fault) = Err fault

-- the tag of a word and a qualifier, or its fault
unfoldable pub read_tag : Table → ℕ → Span → TagWord → Result Tag TextFault
read_tag names line span tag_word =
    if length (trimmed span.bytes) == 0 then Ok (tag_alone tag_word)
    else mapped (tag_with tag_word) (read_qualifier (qualifier_names names tag_word) line span)

-- the fields that the code cuts, as the grammar has them
abbrev pub view_fields : EntryPieces → EntryFields
view_fields fields = record {
  part = fields.part;
  tag = span_of fields.tag;
  qualifier = span_of fields.qualifier;
  permissions = span_of fields.permissions;
}

-- a part of a piece does not end after the piece
abbrev pub FitsIn : Piece → Piece → Type 0
FitsIn part whole = part.column + length part.bytes.now ≤ whole.column + length whole.bytes.now

-- the fields of a piece do not end after the piece
pub record FieldsFit (fields : EntryPieces) (whole : Piece) : Type 0 where
  pub tag : FitsIn fields.tag whole
  pub qualifier : FitsIn fields.qualifier whole
  pub permissions : FitsIn fields.permissions whole

-- the tag of the first two fields, or its fault
abbrev pub read_both : Table → ℕ → EntryFields → Result Tag TextFault
read_both names line fields = do
  tag_word ← read_word line fields.tag
  read_tag names line fields.qualifier tag_word

-- the entry of three fields
abbrev pub read_three : Table → ℕ → EntryFields → Result PartEntry TextFault
read_three names line fields = do
  tag ← read_both names line fields
  perm ← read_permissions line fields.permissions
  Ok (fields.part, (tag, perm))

-- the entry of a piece with these fields
abbrev pub read_fields : Table → ℕ → Span → Option EntryFields → Result PartEntry TextFault
read_fields names line piece None = Err (faults.Fields line (start_of piece))
read_fields names line piece (Some fields) = read_three names line fields

-- the entry of a piece, or its fault
unfoldable pub read_piece : Table → ℕ → Span → Result PartEntry TextFault
read_piece names line piece =
    if is_all_blank piece.bytes then Err (faults.EmptyEntry line (start_of piece))
    else read_fields names line piece (fields_of (cut_at colon piece))

-- an entry of code with its part
abbrev pub view_entry : Part × Entry → PartEntry
view_entry entry = (entry.0, pair_of entry.1)

-- the entries of each part, in the order read
pub record Lists : Type 0 where
  pub access : List (Tag × ℕ)
  pub default : List (Tag × ℕ)

-- the lists that the code fills
abbrev pub lists_of : EntryLists → Lists
lists_of lists = record { access = pairs lists.access.items; default = pairs lists.default.items }

-- the lists without an entry
abbrev pub no_lists : Lists
no_lists = record { access = []; default = [] }

-- the lists with one more entry, after the others of its part
abbrev pub added : Lists → PartEntry → Lists
added lists (Access, entry) = record { access = lists.access ++ entry ∷ []; default = lists.default }
added lists (Default, entry) = record { access = lists.access; default = lists.default ++ entry ∷ [] }

-- the entries of these pieces, after those that have been read, or the first fault
unfoldable pub read_pieces : Table → Lists → List TextPiece → Result Lists TextFault
read_pieces names lists [] = Ok lists
read_pieces names lists (piece ∷ pieces) = do
  entry ← read_piece names piece.line piece.span
  read_pieces names (added lists entry) pieces

-- the entries of a line, after those that have been read, or the first fault
abbrev pub read_entries : Table → Lists → ℕ → List ℕ → Result Lists TextFault
read_entries names lists number line = read_pieces names lists (numbered number (line_pieces line))

-- the fault of the code is the fault that is reported, unless memory ran out
abbrev pub FailsWith : {Y : Type 0} → TextFault → Result Y TextFault → Type 0
FailsWith faults.Memory read = Unit {0}
FailsWith fault read = read ≡ Err fault

-- what the code returns agrees with this reading: it has the lists that were read, or the fault unless memory ran out
abbrev pub AgreesWith : {A : Type 0} → Result A TextFault → (A → Lists) → Result Lists TextFault → Type 0
AgreesWith result lists read = MatchResult result (λ value. read ≡ Ok (lists value)) (λ fault. FailsWith fault read)

-- the pieces of lines; the first line has this number
abbrev pub pieces_from : ℕ → List (List ℕ) → List TextPiece
pieces_from number lines = pieces_of_lines (enumerate_from number lines)

-- the entries of a text whose first line has this number, after those that have been read, or the first fault
abbrev pub read_lines_from : Table → Lists → ℕ → List ℕ → Result Lists TextFault
read_lines_from names lists number text = read_pieces names lists (pieces_from number (lines_of text))

-- after the first line of a text, which has this number, the reading of the rest gives what the reading of the whole
-- gives
abbrev pub ReadsOn : Table → ℕ → List ℕ → Lists → Lists → Option (Bor (List ℕ)) → Type 0
ReadsOn names number text lists next None =
    read_lines_from names lists number text ≡ Ok next
ReadsOn names number text lists next (Some rest) =
    (read_lines_from names lists number text ≡ read_lines_from names next (number + 1) rest.now)
    × (length rest.now < length text)

-- what a fault says about the entries of a part
abbrev pub IsPartFault : Part → List (Tag × ℕ) → TextFault → Type 0
IsPartFault part entries (faults.Fields line column) = ⊥
IsPartFault part entries (faults.Tag line column) = ⊥
IsPartFault part entries (faults.Qualifier line column) = ⊥
IsPartFault part entries (faults.Id line column) = ⊥
IsPartFault part entries (faults.UnknownName line column) = ⊥
IsPartFault part entries (faults.Permission line column) = ⊥
IsPartFault part entries (faults.EmptyEntry line column) = ⊥
IsPartFault part entries (faults.Invalid which why) = (which ≡ part) × IsFaultOf entries (acl_fault why)
IsPartFault part entries faults.Memory = Unit {0}
