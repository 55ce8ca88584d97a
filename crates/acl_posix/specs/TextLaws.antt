-- Laws of the texts of ACLs (acl(5), "LONG TEXT FORM", "SHORT TEXT FORM"), over the definitions alone.
use Rattle.std.specs.Prelude.{ℕ, ◌≡◌, ◌↔◌, ◌<◌, List, Option, length}
use Rattle.acl_perm.specs.Lines.{IsTextPlace}
use Rattle.acl_posix.specs.declared.file.PosixFile.{PosixFile}
use Rattle.acl_posix.specs.declared.text_fault.Part.{Part}
use Rattle.acl_posix.specs.declared.text_fault.Part.TheVariants as part
use Rattle.acl_posix.specs.declared.text_fault.Cause.{Cause}
use Rattle.acl_posix.specs.declared.text_fault.Cause.TheVariants as cause
use Rattle.acl_posix.specs.declared.text_fault.TextFault.{TextFault}
use Rattle.acl_posix.specs.declared.text_fault.TextFault.TheVariants.{Fields, Tag, Qualifier, Id, UnknownName, Permission, EmptyEntry, Invalid, Memory}
use Rattle.acl_posix.specs.Entries.{Entries}
use Rattle.acl_posix.specs.Names.{Table}
use Rattle.acl_posix.specs.Grammar.{PartEntry, Reads, SpellAll, access_of, default_of, pieces_of}
use Rattle.acl_posix.specs.Tag.{Tag as EntryTag}
use Rattle.acl_posix.specs.Texts.{IsFile}

-- a text of a file reads back as that file and as no other, with every table of names
abbrev pub ReadsBack : (Entries → Option Entries → List ℕ) → Type 0
ReadsBack text = (names : Table) (file other : PosixFile) → IsFile file
    → Reads (text file.access file.default) names other ↔ (other ≡ file)

-- two files have the same text if and only if their sets of entries are equal
abbrev pub TextTellsApart : (Entries → Option Entries → List ℕ) → Type 0
TextTellsApart text = (one two : PosixFile) → IsFile one → IsFile two
    → (text one.access one.default ≡ text two.access two.default) ↔ (one.access ≡ two.access)
    × (one.default ≡ two.default)

-- ---- where faults are

-- the entries of a part
abbrev pub part_entries : Part → List PartEntry → List (EntryTag × ℕ)
part_entries part.Access entries = access_of entries
part_entries part.Default entries = default_of entries

-- the place that a cause names is that of one of the entries; an absent entry has no place
abbrev pub IsAtEntry : List (EntryTag × ℕ) → Cause → Type 0
IsAtEntry entries (cause.Multi place) = place < length entries
IsAtEntry entries (cause.Duplicate place) = place < length entries
IsAtEntry entries (cause.Miss tag) = Unit {0}

-- the pieces of a text spell entries, and the cause is at one of those of this part
pub record IsInPart (text : List ℕ) (names : Table) (which : Part) (why : Cause) : Type 0 where
  pub entries : List PartEntry
  pub spelled : SpellAll names (pieces_of text) entries
  pub place : IsAtEntry (part_entries which entries) why

-- the line and the column of a fault are a place in the text, or the fault is at an entry of a part; `Memory` has no
-- place
abbrev pub IsInText : List ℕ → Table → TextFault → Type 0
IsInText text names (Fields line column) = IsTextPlace text line column
IsInText text names (Tag line column) = IsTextPlace text line column
IsInText text names (Qualifier line column) = IsTextPlace text line column
IsInText text names (Id line column) = IsTextPlace text line column
IsInText text names (UnknownName line column) = IsTextPlace text line column
IsInText text names (Permission line column) = IsTextPlace text line column
IsInText text names (EmptyEntry line column) = IsTextPlace text line column
IsInText text names (Invalid which why) = IsInPart text names which why
IsInText text names Memory = Unit {0}
