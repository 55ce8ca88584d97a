-- What texts of POSIX ACLs in archives spell (star(1), tar(1), and archive_acl_from_text in the source of libarchive
-- 3.6.2), and their first fault. What a valid list is comes from acl(5), "VALID ACLs".
use Rattle.std.specs.Prelude.{◌==◌, ◌<◌, ℕ, Bool, true, false, List, length, filter, map, get_or}
use Rattle.acl_perm.specs.Ascii.{comma}
use Rattle.acl_perm.specs.Lines.{is_all_blank}
use Rattle.acl_posix.specs.Entries.{Entries}
use Rattle.acl_posix.specs.Grammar.{IsAclOf, IsDefaultOf}
use Rattle.acl_posix.specs.Names.{Table}
use Rattle.acl_posix.specs.Tag.{Tag, tag_of}
use Rattle.acl_posix.specs.Valid.{IsFirstRepeat, IsMiss, IsValidList, tag_at}
use Rattle.acl_posix.specs.declared.file.PosixFile.{PosixFile}
use Rattle.acl_posix.specs.declared.tag.Tag.{Tag as TagOfCode}
use Rattle.acl_posix.specs.declared.text_fault.Part.{Part}
use Rattle.acl_posix.specs.declared.text_fault.Part.TheVariants.{Access, Default}
use Rattle.acl_forms.specs.Attributes.{repeat_reason}
use Rattle.acl_forms.specs.PosixText.{PlacedEntry, posix_entry}
use Rattle.acl_forms.specs.ReadFaults.{read_fault_at}
use Rattle.acl_forms.specs.Texts.{IsFaultByRules, SpellsByRules, TextRules}
use Rattle.acl_forms.specs.declared.fault.ReadFault.{ReadFault}
use Rattle.acl_forms.specs.declared.fault.ReadReason.TheVariants as reasons

-- a comma ends an entry; blank lines are passed over; without a mark an entry belongs to this part
abbrev pub posix_rules : Part → Table → TextRules PlacedEntry
posix_rules part names = record {
  ends_entry = λ b. b == comma;
  is_cut_short = λ len. false;
  is_line_skipped = is_all_blank;
  is_part_skipped = λ part. false;
  entry = λ list. posix_entry part names;
  least = 0;
}

-- ---- the entries of each part

-- whether two parts are the same
abbrev pub is_part : Part → Part → Bool
is_part Access Access = true
is_part Access Default = false
is_part Default Access = false
is_part Default Default = true

-- the entries of a part, in order
abbrev pub of_part : Part → List PlacedEntry → List PlacedEntry
of_part part entries = filter (λ e. is_part part e.part) entries

-- the tags and permissions of entries
abbrev pub placed_pairs : List PlacedEntry → List (Tag × ℕ)
placed_pairs entries = map (λ e. e.pair) entries

-- the first byte of the entry at a place
abbrev pub offset_at : List PlacedEntry → ℕ → ℕ
offset_at entries place = get_or (map (λ e. e.at) entries) place 0

-- what is wrong with the entries of a part of a text of so many bytes: the first whose tag and qualifier occur before,
-- or, at the end of the text, the first tag that is required and absent
pub data IsPlacedFault (entries : List PlacedEntry) (len : ℕ) : ReadFault → Type 0 where
  repeated : (place : ℕ) → IsFirstRepeat (placed_pairs entries) place
      → IsPlacedFault entries len
      (read_fault_at (offset_at entries place) (repeat_reason (tag_at (placed_pairs entries) place)))
  absent : (tag : TagOfCode) → IsMiss (placed_pairs entries) (tag_of tag)
      → IsPlacedFault entries len (read_fault_at len (reasons.Miss tag))

-- ---- texts of the ACLs of a file

-- a text spells the ACLs of a file: each entry without a mark belongs to the access ACL, and each part is valid
pub record SpellsPosixText (names : Table) (file : PosixFile) (text : List ℕ) : Type 0 where
  pub entries : List PlacedEntry
  pub spelled : SpellsByRules (posix_rules Access names) entries text
  pub access : IsAclOf (placed_pairs (of_part Access entries)) file.access
  pub default : IsDefaultOf (placed_pairs (of_part Default entries)) file.default

-- the first fault of a text: of its entries; or else of the access part, or of a default part that has entries
pub data IsPosixTextFault (names : Table) (text : List ℕ) : ReadFault → Type 0 where
  of_entries : (fault : ReadFault) → IsFaultByRules (posix_rules Access names) text fault
      → IsPosixTextFault names text fault
  of_access : (entries : List PlacedEntry) (fault : ReadFault) → SpellsByRules (posix_rules Access names) entries text
      → IsPlacedFault (of_part Access entries) (length text) fault → IsPosixTextFault names text fault
  of_default : (entries : List PlacedEntry) (fault : ReadFault) → SpellsByRules (posix_rules Access names) entries text
      → IsValidList (placed_pairs (of_part Access entries)) → 0 < length (of_part Default entries)
      → IsPlacedFault (of_part Default entries) (length text) fault → IsPosixTextFault names text fault

-- ---- texts of a default ACL

-- a text spells a default ACL: each entry belongs to it, with a mark and without
pub record SpellsDefaultText (names : Table) (acl : Entries) (text : List ℕ) : Type 0 where
  pub entries : List PlacedEntry
  pub spelled : SpellsByRules (posix_rules Default names) entries text
  pub list : IsAclOf (placed_pairs entries) acl

-- the first fault of a text: of its entries, or else of their list
pub data IsDefaultTextFault (names : Table) (text : List ℕ) : ReadFault → Type 0 where
  of_parts : (fault : ReadFault) → IsFaultByRules (posix_rules Default names) text fault
      → IsDefaultTextFault names text fault
  of_list : (entries : List PlacedEntry) (fault : ReadFault) → SpellsByRules (posix_rules Default names) entries text
      → IsPlacedFault entries (length text) fault → IsDefaultTextFault names text fault
