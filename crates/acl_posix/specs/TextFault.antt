-- What each fault says about a text, without reading it: the first piece that spells no entry, and what is wrong with
-- it; else the first part that is not a valid ACL. The reasons, their order and their places are this library's own.
use Rattle.std.specs.Prelude.{ℕ, ◌≡◌, ◌<◌, ◌⊎◌, List, ◌∷◌, ◌++◌, length, Option, Some, None, Result, MatchResult, IsTrue, IsFalse, codes}
use Rattle.std.specs.FinMap as fin
use Rattle.acl_perm.specs.Lines.{Span, cut_at, is_all_blank, trimmed, start_of}
use Rattle.acl_posix.specs.declared.fault.AclFault.{AclFault}
use Rattle.acl_posix.specs.declared.fault.AclFault.TheVariants as acl
use Rattle.acl_posix.specs.declared.field.TagWord.{TagWord}
use Rattle.acl_posix.specs.declared.field.TagWord.TheVariants as word
use Rattle.acl_posix.specs.declared.text_fault.Part.{Part}
use Rattle.acl_posix.specs.declared.text_fault.Part.TheVariants as part
use Rattle.acl_posix.specs.declared.text_fault.Cause.{Cause}
use Rattle.acl_posix.specs.declared.text_fault.Cause.TheVariants as cause
use Rattle.acl_posix.specs.declared.text_fault.TextFault.{TextFault}
use Rattle.acl_posix.specs.declared.text_fault.TextFault.TheVariants.{Fields, Tag, Qualifier, Id, UnknownName, Permission, EmptyEntry, Invalid, Memory}
use Rattle.acl_posix.specs.Tag.{Tag as EntryTag}
use Rattle.acl_posix.specs.Valid.{IsFaultOf, IsValidList}
use Rattle.acl_posix.specs.Names.{Table, Ids, is_number}
use Rattle.acl_posix.specs.Fields.{permissions_of, word_of, id_of}
use Rattle.acl_posix.specs.Grammar.{TextPiece, EntryFields, fields_of, HasEntryFields, HasTag, PartEntry, SpellAll, access_of, default_of, pieces_of, colon}

-- the name of a part of a text
abbrev pub part_name : Part → List ℕ
part_name part.Access = codes "access"
part_name part.Default = codes "default"

-- the line and the column of a part of a piece: those of its first byte that is not a blank, or of the byte after the
-- part
pub record IsPlace (line : ℕ) (span : Span) (at_line at_column : ℕ) : Type 0 where
  pub same_line : at_line ≡ line
  pub same_column : at_column ≡ start_of span

-- the names that may be the qualifier of a tag word; none if the word has no qualifier
abbrev pub qualifier_names : Table → TagWord → Option Ids
qualifier_names names word.User = Some names.users
qualifier_names names word.Group = Some names.groups
qualifier_names names word.Mask = None
qualifier_names names word.Other = None

-- all bytes of the piece are blanks
pub record IsEmptyEntry (piece : TextPiece) (line column : ℕ) : Type 0 where
  pub blank : IsTrue (is_all_blank piece.span.bytes)
  pub place : IsPlace piece.line piece.span line column

-- the piece does not have three fields
pub record IsNotThree (piece : TextPiece) (line column : ℕ) : Type 0 where
  pub filled : IsFalse (is_all_blank piece.span.bytes)
  pub cut : fields_of (cut_at colon piece.span) ≡ None
  pub place : IsPlace piece.line piece.span line column

-- the first field is not a tag word
pub record IsNoTag (piece : TextPiece) (line column : ℕ) : Type 0 where
  pub fields : EntryFields
  pub has : HasEntryFields piece.span fields
  pub no_word : word_of (trimmed fields.tag.bytes) ≡ None
  pub place : IsPlace piece.line fields.tag line column

-- a tag word that has no qualifier is given one
pub record IsQualified (names : Table) (piece : TextPiece) (line column : ℕ) : Type 0 where
  pub fields : EntryFields
  pub has : HasEntryFields piece.span fields
  pub word : TagWord
  pub is_word : word_of (trimmed fields.tag.bytes) ≡ Some word
  pub no_names : qualifier_names names word ≡ None
  pub qualifier : 0 < length (trimmed fields.qualifier.bytes)
  pub place : IsPlace piece.line fields.qualifier line column

-- a piece has these fields, and the first is a tag word that may have one of these names as its qualifier
pub record MayName (names : Table) (piece : Span) (fields : EntryFields) (ids : Ids) : Type 0 where
  pub has : HasEntryFields piece fields
  pub word : TagWord
  pub is_word : word_of (trimmed fields.tag.bytes) ≡ Some word
  pub has_names : qualifier_names names word ≡ Some ids

-- the qualifier has digits alone, and is not an id
pub record IsNoId (names : Table) (piece : TextPiece) (line column : ℕ) : Type 0 where
  pub fields : EntryFields
  pub ids : Ids
  pub named : MayName names piece.span fields ids
  pub digits : IsTrue (is_number (trimmed fields.qualifier.bytes))
  pub no_id : id_of (trimmed fields.qualifier.bytes) ≡ None
  pub place : IsPlace piece.line fields.qualifier line column

-- the qualifier is a name, and is not in the table
pub record IsUnknownName (names : Table) (piece : TextPiece) (line column : ℕ) : Type 0 where
  pub fields : EntryFields
  pub ids : Ids
  pub named : MayName names piece.span fields ids
  pub some_byte : 0 < length (trimmed fields.qualifier.bytes)
  pub no_digits : IsFalse (is_number (trimmed fields.qualifier.bytes))
  pub unknown : fin.get ids (trimmed fields.qualifier.bytes) ≡ None
  pub place : IsPlace piece.line fields.qualifier line column

-- the first two fields are a tag, and the third is not a set of permissions
pub record IsNoPermission (names : Table) (piece : TextPiece) (line column : ℕ) : Type 0 where
  pub fields : EntryFields
  pub has : HasEntryFields piece.span fields
  pub tag : EntryTag
  pub has_tag : HasTag names fields tag
  pub no_set : permissions_of (trimmed fields.permissions.bytes) ≡ None
  pub place : IsPlace piece.line fields.permissions line column

-- what each fault says about its piece
abbrev pub IsPieceFault : Table → TextPiece → TextFault → Type 0
IsPieceFault names piece (Fields line column) = IsNotThree piece line column
IsPieceFault names piece (Tag line column) = IsNoTag piece line column
IsPieceFault names piece (Qualifier line column) = IsQualified names piece line column
IsPieceFault names piece (Id line column) = IsNoId names piece line column
IsPieceFault names piece (UnknownName line column) = IsUnknownName names piece line column
IsPieceFault names piece (Permission line column) = IsNoPermission names piece line column
IsPieceFault names piece (EmptyEntry line column) = IsEmptyEntry piece line column
IsPieceFault names piece (Invalid which why) = ⊥
IsPieceFault names piece Memory = ⊥

-- the first of these pieces that spells no entry has the fault
pub record IsFirstTextFault (names : Table) (pieces : List TextPiece) (fault : TextFault) : Type 0 where
  pub before : List TextPiece
  pub piece : TextPiece
  pub after : List TextPiece
  pub order : pieces ≡ before ++ piece ∷ after
  pub entries : List PartEntry
  pub spelled : SpellAll names before entries
  pub wrong : IsPieceFault names piece fault

-- the fault of a list of entries that a cause names
abbrev pub acl_fault : Cause → AclFault
acl_fault (cause.Multi place) = acl.Multi place
acl_fault (cause.Duplicate place) = acl.Duplicate place
acl_fault (cause.Miss tag) = acl.Miss tag

-- the cause is that of the first part that is not a valid ACL, given the entries of both parts; a default part without
-- entries is no ACL and has no fault
abbrev pub IsFirstInvalid : List (EntryTag × ℕ) → List (EntryTag × ℕ) → Part → Cause → Type 0
IsFirstInvalid access default part.Access why = IsFaultOf access (acl_fault why)
IsFirstInvalid access default part.Default why =
    IsValidList access × (0 < length default) × IsFaultOf default (acl_fault why)

-- each piece spells an entry, and the entries of a part are not a valid ACL
pub record IsInvalidText (text : List ℕ) (names : Table) (which : Part) (why : Cause) : Type 0 where
  pub entries : List PartEntry
  pub spelled : SpellAll names (pieces_of text) entries
  pub wrong : IsFirstInvalid (access_of entries) (default_of entries) which why

-- what each fault says about a text; `Memory` is never a fault of a text
abbrev pub IsTextFault : List ℕ → Table → TextFault → Type 0
IsTextFault text names (Fields line column) = IsFirstTextFault names (pieces_of text) (Fields line column)
IsTextFault text names (Tag line column) = IsFirstTextFault names (pieces_of text) (Tag line column)
IsTextFault text names (Qualifier line column) = IsFirstTextFault names (pieces_of text) (Qualifier line column)
IsTextFault text names (Id line column) = IsFirstTextFault names (pieces_of text) (Id line column)
IsTextFault text names (UnknownName line column) = IsFirstTextFault names (pieces_of text) (UnknownName line column)
IsTextFault text names (Permission line column) = IsFirstTextFault names (pieces_of text) (Permission line column)
IsTextFault text names (EmptyEntry line column) = IsFirstTextFault names (pieces_of text) (EmptyEntry line column)
IsTextFault text names (Invalid which why) = IsInvalidText text names which why
IsTextFault text names Memory = ⊥

-- a refusal reports the text's fault, or that memory ran out
abbrev pub IsTextFaultOrMemory : List ℕ → Table → TextFault → Type 0
IsTextFaultOrMemory text names fault = (fault ≡ Memory) ⊎ IsTextFault text names fault

-- a text is refused with this fault, or because memory ran out
abbrev pub IsTextRefusedWith : {X : Type 0} → Result X TextFault → TextFault → Type 0
IsTextRefusedWith result wrong = MatchResult result (λ _. ⊥) (λ fault. (fault ≡ wrong) ⊎ (fault ≡ Memory))
