-- The texts of ACLs: one grammar for the long form, the short form and what getfacl prints for one file (acl(5), "LONG
-- TEXT FORM", "SHORT TEXT FORM"). What a line is and how it is cut are this library's own.
use Rattle.std.specs.Prelude.{ℕ, ◌≡◌, ◌<◌, List, [], ◌∷◌, length, map, Option, Some, None, IsFalse, if◌then◌else◌}
use Rattle.std.specs.List.{enumerate_from, flat_map}
-- the byte that begins a comment, the byte between two entries of a line, and the byte between two fields of an entry
pub use Rattle.acl_perm.specs.Ascii.{comment_mark, comma, colon}
use Rattle.acl_perm.specs.Lines.{Span, lines_of, cut_at, before_mark, is_all_blank, trimmed}
use Rattle.acl_posix.specs.declared.text_fault.Part.{Part}
use Rattle.acl_posix.specs.declared.text_fault.Part.TheVariants.{Access, Default}
use Rattle.acl_posix.specs.declared.field.TagWord.{TagWord}
use Rattle.acl_posix.specs.declared.field.TagWord.TheVariants as word
use Rattle.acl_posix.specs.declared.file.PosixFile.{PosixFile}
use Rattle.acl_posix.specs.Tag.{Tag, user_obj, user, group_obj, group, mask, other}
use Rattle.acl_posix.specs.Entries.{Entries, as_set}
use Rattle.acl_posix.specs.Valid.{IsValidList}
use Rattle.acl_posix.specs.Names.{Ids, Table}
use Rattle.acl_posix.specs.Fields.{permissions_of, word_of, is_default, id_in}

-- a piece of a text, which should spell an entry: the number of its line, and its bytes with their column
pub record TextPiece : Type 0 where
  pub line : ℕ
  pub span : Span

-- the pieces of a line: the bytes before its comment, cut at the commas; none if these bytes are all blanks
unfoldable pub line_pieces : List ℕ → List Span
line_pieces line =
    if is_all_blank (before_mark comment_mark line) then []
    else cut_at comma (record { column = 1; bytes = before_mark comment_mark line })

-- parts of the line of this number
abbrev pub numbered : ℕ → List Span → List TextPiece
numbered line spans = map (λ span. record { line = line; span = span }) spans

-- the pieces of lines with their numbers, in order
abbrev pub pieces_of_lines : List (ℕ × List ℕ) → List TextPiece
pieces_of_lines lines = flat_map (λ line. numbered line.0 (line_pieces line.1)) lines

-- the pieces of a text, in order; its lines are numbered from 1
abbrev pub pieces_of : List ℕ → List TextPiece
pieces_of text = pieces_of_lines (enumerate_from 1 (lines_of text))

-- the fields of an entry, and the part that it belongs to
pub record EntryFields : Type 0 where
  pub part : Part
  pub tag : Span
  pub qualifier : Span
  pub permissions : Span

-- the fields of an entry, of three spans; none if there are fewer spans or more
abbrev pub three_of : Part → List Span → Option EntryFields
three_of part [] = None
three_of part (a ∷ []) = None
three_of part (a ∷ b ∷ []) = None
three_of part (a ∷ b ∷ c ∷ []) = Some (record { part = part; tag = a; qualifier = b; permissions = c })
three_of part (a ∷ b ∷ c ∷ d ∷ more) = None

-- the fields into which a piece is cut: a first field that marks a default entry is dropped, and three are left
unfoldable pub fields_of : List Span → Option EntryFields
fields_of [] = None
fields_of (first ∷ more) =
    if is_default (trimmed first.bytes) then three_of Default more else three_of Access (first ∷ more)

-- a piece that does not have blanks alone has these fields
pub record HasEntryFields (piece : Span) (fields : EntryFields) : Type 0 where
  pub filled : IsFalse (is_all_blank piece.bytes)
  pub cut : fields_of (cut_at colon piece) ≡ Some fields

-- a tag word, and a qualifier that spells an id; names are looked up among these
pub record HasQualifier (ids : Ids) (tag qualifier : List ℕ) (tag_word : TagWord) (id : ℕ) : Type 0 where
  pub is_word : word_of tag ≡ Some tag_word
  pub filled : 0 < length qualifier
  pub is_id : id_in ids qualifier ≡ Some id

-- a tag word and a qualifier spell a tag; a name is looked up in the half of the table for that word
abbrev pub SpellsTag : Table → List ℕ → List ℕ → Tag → Type 0
SpellsTag names tag qualifier user_obj = (word_of tag ≡ Some word.User) × (qualifier ≡ [])
SpellsTag names tag qualifier (user id) = HasQualifier names.users tag qualifier word.User id
SpellsTag names tag qualifier group_obj = (word_of tag ≡ Some word.Group) × (qualifier ≡ [])
SpellsTag names tag qualifier (group id) = HasQualifier names.groups tag qualifier word.Group id
SpellsTag names tag qualifier mask = (word_of tag ≡ Some word.Mask) × (qualifier ≡ [])
SpellsTag names tag qualifier other = (word_of tag ≡ Some word.Other) × (qualifier ≡ [])

-- the first two of these fields spell a tag; blanks at the ends of a field do not count
abbrev pub HasTag : Table → EntryFields → Tag → Type 0
HasTag names fields tag = SpellsTag names (trimmed fields.tag.bytes) (trimmed fields.qualifier.bytes) tag

-- an entry with the part that it belongs to
abbrev pub PartEntry : Type 0
PartEntry = Part × (Tag × ℕ)

-- a piece spells an entry of this part, with this tag and these permissions
pub record SpellsEntry (names : Table) (piece : Span) (part : Part) (tag : Tag) (perm : ℕ) : Type 0 where
  pub fields : EntryFields
  pub has : HasEntryFields piece fields
  pub is_part : fields.part ≡ part
  pub has_tag : HasTag names fields tag
  pub is_perm : permissions_of (trimmed fields.permissions.bytes) ≡ Some perm

-- a piece spells an entry of a part
abbrev pub Spells : Table → Span → PartEntry → Type 0
Spells names piece (part, (tag, perm)) = SpellsEntry names piece part tag perm

-- pieces spell entries, one entry per piece
abbrev pub SpellAll : Table → List TextPiece → List PartEntry → Type 0
SpellAll names [] [] = Unit {0}
SpellAll names [] (entry ∷ entries) = ⊥
SpellAll names (piece ∷ pieces) [] = ⊥
SpellAll names (piece ∷ pieces) (entry ∷ entries) = Spells names piece.span entry × SpellAll names pieces entries

-- the entries of the access part, in order
abbrev pub access_of : List PartEntry → List (Tag × ℕ)
access_of [] = []
access_of ((Access, entry) ∷ entries) = entry ∷ access_of entries
access_of ((Default, entry) ∷ entries) = access_of entries

-- the entries of the default part, in order
abbrev pub default_of : List PartEntry → List (Tag × ℕ)
default_of [] = []
default_of ((Access, entry) ∷ entries) = default_of entries
default_of ((Default, entry) ∷ entries) = entry ∷ default_of entries

-- a valid list of entries, and their set
pub record IsAclOf (entries : List (Tag × ℕ)) (acl : Entries) : Type 0 where
  pub valid : IsValidList entries
  pub set : acl ≡ as_set entries

-- no default ACL if there are no default entries, and otherwise that of the default entries
abbrev pub IsDefaultOf : List (Tag × ℕ) → Option Entries → Type 0
IsDefaultOf [] None = Unit {0}
IsDefaultOf [] (Some acl) = ⊥
IsDefaultOf (entry ∷ entries) None = ⊥
IsDefaultOf (entry ∷ entries) (Some acl) = IsAclOf (entry ∷ entries) acl

-- a text spells the ACLs of a file: each piece spells an entry, and the entries of each part are valid
pub record Reads (text : List ℕ) (names : Table) (file : PosixFile) : Type 0 where
  pub entries : List PartEntry
  pub spelled : SpellAll names (pieces_of text) entries
  pub access : IsAclOf (access_of entries) file.access
  pub default : IsDefaultOf (default_of entries) file.default
