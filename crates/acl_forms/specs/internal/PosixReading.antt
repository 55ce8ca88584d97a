-- Fields and entries of a text of a POSIX ACL as the code holds them (this library's own). No public clause cites it.
use Rattle.std.specs.Prelude.{ℕ, ◌<◌, List, [], ◌∷◌, length, Option, None, Some, option_map}
use Rattle.acl_perm.specs.Lines.{Span, span_of, ColumnsFit}
use Rattle.acl_posix.specs.Entries.{pair_of}
use Rattle.acl_posix.specs.internal.Reading.{RestFits}
use Rattle.acl_forms.specs.PosixRules.{IsPlacedFault}
use Rattle.acl_forms.specs.PosixText.{PlacedEntry, PosixFields}
use Rattle.acl_forms.specs.declared.fault.ReadFault.{ReadFault}
use Rattle.acl_forms.specs.declared.posix_text.entry.TextEntry.{TextEntry}
use Rattle.acl_forms.specs.declared.posix_text.fields.PosixParts.{PosixParts}

-- the fields of an entry without their places in memory
abbrev pub parts_viewed : PosixParts → PosixFields
parts_viewed parts = record {
  part = parts.part;
  tag = span_of parts.tag;
  qualifier = span_of parts.qualifier;
  permissions = span_of parts.permissions;
  id = option_map span_of parts.id;
}

-- three fields with the parts that follow them, if that is one
abbrev pub with_last : PosixFields → List Span → Option PosixFields
with_last fields (id ∷ []) = Some (record fields { id = Some id })
with_last fields _ = None

-- the columns of the fields are counts
pub record PartsFit (parts : PosixParts) : Type 0 where
  pub tag : ColumnsFit parts.tag
  pub qualifier : ColumnsFit parts.qualifier
  pub permissions : ColumnsFit parts.permissions
  pub id : RestFits parts.id

-- an entry of a text as the rules have it
abbrev pub placed : TextEntry → PlacedEntry
placed read = record { part = read.part; at = read.at; pair = pair_of read.entry }

-- a part has entries, and this is wrong with them
pub record IsDefaultRefused (entries : List PlacedEntry) (len : ℕ) (fault : ReadFault) : Type 0 where
  pub some : 0 < length entries
  pub wrong : IsPlacedFault entries len fault
