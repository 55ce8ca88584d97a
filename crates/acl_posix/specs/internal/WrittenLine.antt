-- Lines in the form of the canonical text, which the code reads in one step (this library's own).
use Rattle.std.specs.Prelude.{ℕ, ◌≡◌, ◌<◌, ◌++◌, Bool, true, List, [], ◌∷◌, length, Some, if◌then◌else◌}
use Rattle.acl_perm.specs.Bits.{IsPerm}
use Rattle.acl_perm.specs.Ascii.{colon, hyphen, line_feed}
use Rattle.acl_perm.specs.Lines.{lines_of}
use Rattle.acl_perm.specs.Shown.{perm_text}
use Rattle.acl_posix.specs.declared.text_fault.Part.{Part}
use Rattle.acl_posix.specs.Tag.{Tag, is_named, qualifier}
use Rattle.acl_posix.specs.Names.{Table, is_number}
use Rattle.acl_posix.specs.Fields.{id_of}
use Rattle.acl_posix.specs.Grammar.{Spells, line_pieces}
use Rattle.acl_posix.specs.Texts.{long_word}

-- an id in digits and a colon are before the rest
pub record IsIdBefore (bytes : List ℕ) (id : ℕ) (rest : List ℕ) : Type 0 where
  pub digits : List ℕ
  pub parts : bytes ≡ digits ++ colon ∷ rest
  pub number : is_number digits ≡ true
  pub value : id_of digits ≡ Some id

-- a letter, or - in its place
abbrev pub letter_of : Bool → ℕ → ℕ
letter_of shown letter = if shown then letter else hyphen

-- permissions as they are written, and a line feed, are before the rest
pub record IsPermBefore (bytes : List ℕ) (perm : ℕ) (rest : List ℕ) : Type 0 where
  pub parts : bytes ≡ perm_text perm ++ line_feed ∷ rest
  pub within : IsPerm perm

-- an id, a colon, permissions and a line feed are before the rest
pub record AreFieldsBefore (bytes : List ℕ) (id perm : ℕ) (rest : List ℕ) : Type 0 where
  pub last : List ℕ
  pub is_id : IsIdBefore bytes id last
  pub is_perm : IsPermBefore last perm rest

-- the line of an entry with an id is before the rest
pub record IsEntryBefore (bytes : List ℕ) (entry : Tag × ℕ) (rest : List ℕ) : Type 0 where
  pub named : is_named entry.0 ≡ true
  pub fields : List ℕ
  pub word : bytes ≡ long_word entry.0 ++ colon ∷ fields
  pub are : AreFieldsBefore fields (qualifier entry.0) entry.1 rest

-- the first line of a text has one piece, which spells an entry whatever the names are, and the rest is after the line
pub record IsFirstLine (text : List ℕ) (part : Part) (entry : Tag × ℕ) (rest : List ℕ) : Type 0 where
  pub bytes : List ℕ
  pub lines : lines_of text ≡ bytes ∷ lines_of rest
  pub shorter : length rest < length text
  pub one : line_pieces bytes ≡ record { column = 1; bytes = bytes } ∷ []
  pub spells : (names : Table) → Spells names (record { column = 1; bytes = bytes }) (part, entry)
