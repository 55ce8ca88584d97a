-- The entry of a text of an NFSv4 list on FreeBSD, in ZFS and in archives (setfacl(1) of FreeBSD, "NFSv4 ACL ENTRIES",
-- and archive_acl_from_text in the source of libarchive 3.6.2): `principal:permissions:flags:type`, with an id at its
-- end where a user or a group has one. Which of the name and the id counts is this library's own.
use Rattle.std.specs.Prelude.{◌==◌, ◌&&◌, ℕ, Bool, not, List, [], ◌∷◌, codes, length, map, nat_le, bit_or, Option, None, Some, ok_or, Result, Ok, Err, if◌then◌else◌}
use Rattle.std.specs.Fmt.{decimal}
use Rattle.std.specs.Option.{is_none}
use Rattle.std.specs.Str.{bytes_eq}
use Rattle.std.specs.Str.Parse.{digits_value}
use Rattle.acl_perm.specs.Ascii.{colon}
use Rattle.acl_perm.specs.Bits.{identifier_group_alone}
use Rattle.acl_perm.specs.Lines.{Span, cut_at, is_all_blank, start_of, trimmed}
use Rattle.acl_perm.specs.declared.kind.Kind.{Kind}
use Rattle.acl_perm.specs.internal.Steps.{◌>>=◌}
use Rattle.acl_posix.specs.Fields.{id_of}
use Rattle.acl_posix.specs.Names.{is_number}
use Rattle.acl_nfs4.specs.Ace.{Ace}
use Rattle.acl_nfs4.specs.Limits.{most_aces}
use Rattle.acl_nfs4.specs.Who.{everyone_name, group_name, is_special, owner_name}
use Rattle.acl_nfs4.specs.declared.xdr.fault.Reason.TheVariants as list
use Rattle.acl_forms.specs.Acl41Ids.{id_of_digits}
use Rattle.acl_forms.specs.Letters.{nfs_flag_letters, nfs_right_letters, no_letter, set_of_letters}
use Rattle.acl_forms.specs.ReadFaults.{read_fault_at}
use Rattle.acl_forms.specs.ToolsText.{kind_at, taken}
use Rattle.acl_forms.specs.declared.fault.ReadFault.{ReadFault}
use Rattle.acl_forms.specs.declared.fault.ReadReason.TheVariants as reasons
use Rattle.acl_forms.specs.declared.nfs_text.fields.NfsTag.{NfsTag}
use Rattle.acl_forms.specs.declared.nfs_text.fields.NfsTag.TheVariants.{Everyone, NamedGroup, NamedUser, Owner, OwningGroup}
use Rattle.acl_forms.specs.declared.object.ObjectKind.TheVariants.{Directory}
use Rattle.acl_forms.specs.declared.who_field.WhoField.{WhoField}
use Rattle.acl_forms.specs.declared.who_field.WhoField.TheVariants as source

-- ---- the fields of an entry

-- the tag that a word is
abbrev pub nfs_tag_of : List ℕ → Option NfsTag
nfs_tag_of word = if bytes_eq word (codes "owner@") then Some Owner
    else (if bytes_eq word (codes "group@") then Some OwningGroup
    else (if bytes_eq word (codes "everyone@") then Some Everyone
    else (if bytes_eq word (codes "user") then Some NamedUser
    else (if bytes_eq word (codes "group") then Some NamedGroup else None))))

-- the special identifier of a tag
abbrev pub tag_special : NfsTag → Option (List ℕ)
tag_special Owner = Some owner_name
tag_special OwningGroup = Some group_name
tag_special Everyone = Some everyone_name
tag_special NamedUser = None
tag_special NamedGroup = None

-- the flags of an entry with this tag: the name of a group has IDENTIFIER_GROUP
abbrev pub flags_by_tag : NfsTag → ℕ → ℕ
flags_by_tag NamedGroup flags = bit_or flags identifier_group_alone
flags_by_tag Owner flags = flags
flags_by_tag OwningGroup flags = flags
flags_by_tag Everyone flags = flags
flags_by_tag NamedUser flags = flags

-- a part without the blanks at its ends, at its place
abbrev pub trimmed_span : Span → Span
trimmed_span part = record { column = start_of part; bytes = trimmed part.bytes }

-- the fields of an entry, with their places; the who is the name, or at the place of the tag its special identifier
pub record NfsFields : Type 0 where
  pub tag : NfsTag
  pub who : Span
  pub rights : Span
  pub flags : Span
  pub kind : Span
  pub id : Option Span

-- the fields of an entry about a special identifier, of which three follow the tag
abbrev pub special_fields : NfsTag → Span → List Span → Option NfsFields
special_fields tag who (rights ∷ flags ∷ kind ∷ []) = Some (record {
  tag = tag;
  who = who;
  rights = rights;
  flags = flags;
  kind = kind;
  id = None;
})
special_fields tag who _ = None

-- the fields of an entry about a user or a group, of which four follow the tag, or five with an id
abbrev pub named_fields : NfsTag → List Span → Option NfsFields
named_fields tag (name ∷ rights ∷ flags ∷ kind ∷ []) = Some (record {
  tag = tag;
  who = name;
  rights = rights;
  flags = flags;
  kind = kind;
  id = None;
})
named_fields tag (name ∷ rights ∷ flags ∷ kind ∷ id ∷ []) = Some (record {
  tag = tag;
  who = name;
  rights = rights;
  flags = flags;
  kind = kind;
  id = Some id;
})
named_fields tag _ = None

-- the fields of an entry whose tag is at this place, by the special identifier of the tag, if it has one
abbrev pub fields_by_tag : NfsTag → ℕ → List Span → Option (List ℕ) → Option NfsFields
fields_by_tag tag place parts (Some name) =
    special_fields tag (record { column = place; bytes = name }) parts
fields_by_tag tag place parts None = named_fields tag parts

-- the fields of an entry with these parts, or why there are none: the tag, or the number of the parts
abbrev pub fields_with_tag : ℕ → Span → List Span → Result NfsFields ReadFault
fields_with_tag start word parts = do
  tag ← ok_or (nfs_tag_of word.bytes) (read_fault_at word.column reasons.Tag)
  ok_or (fields_by_tag tag word.column parts (tag_special tag)) (read_fault_at start reasons.Fields)

-- the fields of an entry that begins at this place and has these parts between its colons
abbrev pub fields_of_parts : ℕ → List Span → Result NfsFields ReadFault
fields_of_parts start [] = Err (read_fault_at start reasons.Fields)
fields_of_parts start (word ∷ parts) = fields_with_tag start word parts

-- the fields of an entry: the parts between its colons, each without the blanks at its ends
unfoldable pub nfs_fields_of : Span → Result NfsFields ReadFault
nfs_fields_of entry = fields_of_parts entry.column (map trimmed_span (cut_at colon entry))

-- the fields of an entry, if it is not blank and a list of this many ACEs can take one more
abbrev pub nfs_fields_read : ℕ → Span → Result NfsFields ReadFault
nfs_fields_read count entry =
    if is_all_blank entry.bytes then Err (read_fault_at entry.column reasons.EmptyEntry)
    else (if nat_le most_aces count then Err (read_fault_at entry.column (reasons.List list.TooManyAces))
    else nfs_fields_of entry)

-- ---- the ACE of the fields

-- the number of the type of a word
abbrev pub nfs_type : Span → Result ℕ ReadFault
nfs_type field = if bytes_eq field.bytes (codes "allow") then Ok 0
    else (if bytes_eq field.bytes (codes "deny") then Ok 1
    else (if bytes_eq field.bytes (codes "audit") then Ok 2
    else (if bytes_eq field.bytes (codes "alarm") then Ok 3
    else Err (read_fault_at field.column (reasons.List list.AceType)))))

-- the kind of a word
abbrev pub nfs_kind : Span → Result Kind ReadFault
nfs_kind field = nfs_type field >>= λ number. kind_at field.column number

-- the id that digits alone spell, at most 4294967294
abbrev pub id_alone : List ℕ → Option ℕ
id_alone bytes = if is_number bytes then id_of bytes else None

-- a name is digits alone, and not the decimal digits of an id, as 007 is not: libarchive reads 007 as the id 7, and an
-- NFSv4 server as a name (RFC 8881, section 5.9)
abbrev pub is_odd_number : List ℕ → Bool
is_odd_number name = is_number name && is_none (id_of_digits name)

-- a name is digits alone, and their number is another one than the id
abbrev pub is_other_number : List ℕ → ℕ → Bool
is_other_number name id = is_number name && not (digits_value 10 name == id)

-- the name of a user or a group, which is no special identifier
abbrev pub unless_special : Span → Result (List ℕ) ReadFault
unless_special name = if is_special name.bytes then Err (read_fault_at name.column (reasons.List list.SpecialWho))
    else Ok name.bytes

-- the who of an entry with a name and an id: the name, or the decimal digits of the id
abbrev pub name_or_id : WhoField → Span → ℕ → Result (List ℕ) ReadFault
name_or_id source.Name name id = unless_special name
name_or_id source.Id name id = Ok (decimal id)

-- the who of a name and an id with its field, unless the name is the number of another id
abbrev pub who_with_id : WhoField → Span → Span → ℕ → Result (List ℕ) ReadFault
who_with_id source name field id =
    if is_other_number name.bytes id then Err (read_fault_at field.column reasons.IdDiffers)
    else name_or_id source name id

-- the who of a name that readers read alike and the field of an id, if there is one
abbrev pub who_by_fields : WhoField → Span → Option Span → Result (List ℕ) ReadFault
who_by_fields source name None = unless_special name
who_by_fields source name (Some field) = do
  id ← ok_or (id_alone field.bytes) (read_fault_at field.column reasons.Id)
  who_with_id source name field id

-- the who of a name and the field of an id, unless the name is digits that readers read differently
abbrev pub who_of_fields : WhoField → Span → Option Span → Result (List ℕ) ReadFault
who_of_fields source name field =
    if is_odd_number name.bytes then Err (read_fault_at name.column reasons.Id) else who_by_fields source name field

-- the who of the fields, by the special identifier of the tag, if it has one
abbrev pub who_by_tag : WhoField → NfsFields → Option (List ℕ) → Result (List ℕ) ReadFault
who_by_tag source fields (Some name) = Ok name
who_by_tag source fields None = who_of_fields source fields.who fields.id

-- the ACE of fields, or the first fault: in the permissions, the flags, the type, the id or the name
unfoldable pub nfs_ace : WhoField → NfsFields → Result Ace ReadFault
nfs_ace source fields = do
  mask ← set_of_letters (nfs_right_letters no_letter) Directory reasons.Mask fields.rights.column fields.rights.bytes
  flags ← set_of_letters (nfs_flag_letters no_letter) Directory reasons.Flag fields.flags.column fields.flags.bytes
  kind ← nfs_kind fields.kind
  who ← who_by_tag source fields (tag_special fields.tag)
  Ok (record { kind = kind; flags = flags_by_tag fields.tag flags; mask = mask; who = who })

-- the ACE that an entry spells as the next one of a list, or the entry's first fault: it is blank; the number of ACEs,
-- the tag, the number of its fields, the permissions, the flags, the type, the id, the name, the number of the
-- permissions in the list, and the who
unfoldable pub nfs_entry : WhoField → List Ace → Span → Result Ace ReadFault
nfs_entry source aces entry = do
  fields ← nfs_fields_read (length aces) entry
  a ← nfs_ace source fields
  taken aces a fields.rights.column fields.who.column
