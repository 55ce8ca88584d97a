-- The fields of an entry of a text of FreeBSD, ZFS and archives as code holds them (this library's own). No public
-- clause cites it.
use Rattle.std.specs.Prelude.{ℕ, List, [], ◌∷◌, Option, None, Some, map, option_map}
use Rattle.std.specs.Fmt.{decimal}
use Rattle.acl_perm.specs.Ascii.{colon}
use Rattle.acl_perm.specs.Lines.{Span, cut_at, span_of, ColumnsFit}
use Rattle.acl_perm.specs.declared.lines.Piece.{Piece}
use Rattle.acl_nfs4.specs.Ace.{Ace}
use Rattle.acl_forms.specs.NfsText.{NfsFields, trimmed_span}
use Rattle.acl_forms.specs.declared.nfs_text.fields.EntryParts.{EntryParts}
use Rattle.acl_forms.specs.declared.nfs_text.fields.NfsTag.{NfsTag}
use Rattle.acl_forms.specs.declared.nfs_text.fields.Tail.{Tail}
use Rattle.acl_forms.specs.declared.nfs_text.entry.EntryAce.{EntryAce}
use Rattle.acl_forms.specs.declared.nfs_text.entry.EntryWho.{EntryWho}
use Rattle.acl_forms.specs.declared.nfs_text.entry.EntryWho.TheVariants.{Named, Numbered}

-- the fields after the principal
pub record TailFields : Type 0 where
  pub rights : Span
  pub flags : Span
  pub kind : Span
  pub id : Option Span

-- the fields after the principal, of three parts, or of four with an id
abbrev pub tail_of_parts : List Span → Option TailFields
tail_of_parts (rights ∷ flags ∷ kind ∷ []) =
    Some (record { rights = rights; flags = flags; kind = kind; id = None })
tail_of_parts (rights ∷ flags ∷ kind ∷ id ∷ []) =
    Some (record { rights = rights; flags = flags; kind = kind; id = Some id })
tail_of_parts _ = None

-- the fields after the principal without their places in memory
abbrev pub tail_viewed : Tail → TailFields
tail_viewed tail = record {
  rights = span_of tail.rights;
  flags = span_of tail.flags;
  kind = span_of tail.kind;
  id = option_map span_of tail.id;
}

-- the fields of an entry with this tag, this who and these fields after them
abbrev pub with_tail : NfsTag → Span → TailFields → NfsFields
with_tail tag who tail = record {
  tag = tag;
  who = who;
  rights = tail.rights;
  flags = tail.flags;
  kind = tail.kind;
  id = tail.id;
}

-- the fields of an entry without their places in memory
abbrev pub entry_viewed : EntryParts → NfsFields
entry_viewed parts = with_tail parts.tag (span_of parts.who) (tail_viewed parts.tail)

-- the parts between the colons, each without the blanks at its ends
abbrev pub parts_in : Span → List Span
parts_in span = map trimmed_span (cut_at colon span)

-- the parts of what follows a colon, if one follows
abbrev pub parts_of_rest : Option Piece → List Span
parts_of_rest None = []
parts_of_rest (Some rest) = parts_in (span_of rest)

-- the fields after the principal with these parts after the third
abbrev pub tail_with_id : TailFields → List Span → Option TailFields
tail_with_id tail (id ∷ []) =
    Some (record { rights = tail.rights; flags = tail.flags; kind = tail.kind; id = Some id })
tail_with_id tail _ = None

-- the columns of the fields of letters are counts
pub record TailFits (tail : Tail) : Type 0 where
  pub rights : ColumnsFit tail.rights
  pub flags : ColumnsFit tail.flags

-- the bytes of a who
abbrev pub entry_name : EntryWho → List ℕ
entry_name (Named name) = name.now
entry_name (Numbered id) = decimal id.value

-- the ACE of an entry
abbrev pub entry_ace : EntryAce → Ace
entry_ace a = record { kind = a.kind; flags = a.flags.bits; mask = a.mask.bits; who = entry_name a.who }
