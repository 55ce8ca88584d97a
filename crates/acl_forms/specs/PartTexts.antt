-- Texts of lists of ACEs of any type: the entries of ToolsText and NfsText with each type of RFC 8881, section 6.2.1.1,
-- and each special identifier, but for a DENY of one that nobody knows. AUDIT and ALARM are `U` and `L` (nfs4_acl(5),
-- "ACL TYPES"), or `audit` and `alarm` (setfacl(1) of FreeBSD, "NFSv4 ACL ENTRIES").
use Rattle.std.specs.Prelude.{◌+◌, ℕ, List, count_ones, length, nat_lt, Result, Ok, Err, if◌then◌else◌}
use Rattle.acl_perm.specs.Lines.{Span}
use Rattle.acl_perm.specs.internal.Steps.{◌>>=◌}
use Rattle.acl_nfs4.specs.AccessPart.{AnyAce}
use Rattle.acl_nfs4.specs.Ace.{Ace}
use Rattle.acl_nfs4.specs.Fields.{who_len_of}
use Rattle.acl_nfs4.specs.Limits.{most_weight}
use Rattle.acl_nfs4.specs.declared.xdr.fault.Reason.TheVariants as list
use Rattle.acl_forms.specs.Letters.{flag_letters, nfs_flag_letters, nfs_right_letters, no_letter, right_letters, set_of_letters}
use Rattle.acl_forms.specs.NfsRules.{nfs_rules}
use Rattle.acl_forms.specs.NfsText.{NfsFields, flags_by_tag, nfs_fields_read, nfs_type, tag_special, who_by_tag}
use Rattle.acl_forms.specs.Part.{PlacedAce, any_weight}
use Rattle.acl_forms.specs.PartWords.{who_by_name}
use Rattle.acl_forms.specs.ReadFaults.{read_fault_at}
use Rattle.acl_forms.specs.Texts.{TextRules}
use Rattle.acl_forms.specs.ToolsRules.{tools_rules}
use Rattle.acl_forms.specs.ToolsText.{Fields, fields_read, type_read, with_group_flag}
use Rattle.acl_forms.specs.Words.{listed}
use Rattle.acl_forms.specs.declared.fault.ReadFault.{ReadFault}
use Rattle.acl_forms.specs.declared.fault.ReadReason.{ReadReason}
use Rattle.acl_forms.specs.declared.fault.ReadReason.TheVariants as reasons
use Rattle.acl_forms.specs.declared.object.ObjectKind.{ObjectKind}
use Rattle.acl_forms.specs.declared.object.ObjectKind.TheVariants.{Directory}
use Rattle.acl_forms.specs.declared.who_field.WhoField.{WhoField}

-- ---- an ACE that is read

-- the value of a field at a place, or why the field is refused
abbrev pub judged_at : {A : Type 0} → ℕ → Result A ReadReason → Result A ReadFault
judged_at at (Ok x) = Ok x
judged_at at (Err r) = Err (read_fault_at at r)

-- the who of an ACE of this type, or why it is refused, as the bytes of nfsacl41 are
abbrev pub who_of_type : ℕ → List ℕ → Result (List ℕ) ReadReason
who_of_type type_number who = listed (who_len_of (length who)) >>= λ len. who_by_name type_number who

-- an ACE with its mask and its who at these places, after ACEs of this weight, unless it is refused
abbrev pub any_taken : ℕ → ℕ → ℕ → AnyAce → Result AnyAce ReadFault
any_taken weight mask who a =
    if nat_lt most_weight (weight + count_ones a.mask) then Err (read_fault_at mask (reasons.List list.TooHeavy))
    else judged_at who (who_of_type a.type_number a.who) >>= λ name. Ok a

-- ---- an entry

-- the ACE of an entry after this many ACEs of this weight, or the entry's first fault
abbrev pub EntryReader : Type 0
EntryReader = ℕ → ℕ → Span → Result AnyAce ReadFault

-- the ACE of fields of nfs4-acl-tools, or the first fault, as `tools_ace` has them
unfoldable pub tools_any_ace : ObjectKind → Fields → Result AnyAce ReadFault
tools_any_ace object fields = do
  number ← type_read fields.kind
  flags ← set_of_letters flag_letters object reasons.Flag fields.flags.column fields.flags.bytes
  mask ← set_of_letters right_letters object reasons.Mask fields.rights.column fields.rights.bytes
  Ok (record {
    type_number = number;
    flags = with_group_flag fields.who.bytes flags;
    mask = mask;
    who = fields.who.bytes;
  })

-- the ACE of an entry of nfs4-acl-tools
unfoldable pub tools_any_entry : ObjectKind → EntryReader
tools_any_entry object count weight entry = do
  fields ← fields_read count entry
  a ← tools_any_ace object fields
  any_taken weight fields.rights.column fields.who.column a

-- the ACE of fields of FreeBSD, ZFS and archives, or the first fault, as `nfs_ace` has them
unfoldable pub nfs_any_ace : WhoField → NfsFields → Result AnyAce ReadFault
nfs_any_ace source fields = do
  mask ← set_of_letters (nfs_right_letters no_letter) Directory reasons.Mask fields.rights.column fields.rights.bytes
  flags ← set_of_letters (nfs_flag_letters no_letter) Directory reasons.Flag fields.flags.column fields.flags.bytes
  number ← nfs_type fields.kind
  who ← who_by_tag source fields (tag_special fields.tag)
  Ok (record { type_number = number; flags = flags_by_tag fields.tag flags; mask = mask; who = who })

-- the ACE of an entry of FreeBSD, ZFS and archives
unfoldable pub nfs_any_entry : WhoField → EntryReader
nfs_any_entry source count weight entry = do
  fields ← nfs_fields_read count entry
  a ← nfs_any_ace source fields
  any_taken weight fields.rights.column fields.who.column a

-- ---- a text

-- an ACE at the place of its entry
abbrev pub placed_ace : ℕ → AnyAce → PlacedAce
placed_ace at a = record { ace = a; offset = at }

-- the rules of a form, whose entries are ACEs of any type; all ACEs count for the limits
abbrev pub any_type_rules : TextRules Ace → EntryReader → TextRules PlacedAce
any_type_rules rules read = record {
  ends_entry = rules.ends_entry;
  is_cut_short = rules.is_cut_short;
  is_line_skipped = rules.is_line_skipped;
  is_part_skipped = rules.is_part_skipped;
  entry = λ list entry. read (length list) (any_weight list) entry >>= λ a. Ok (placed_ace entry.column a);
  least = rules.least;
}

-- the rules of nfs4-acl-tools for ACEs of any type
abbrev pub tools_any_rules : ObjectKind → TextRules PlacedAce
tools_any_rules object = any_type_rules (tools_rules object) (tools_any_entry object)

-- the rules of FreeBSD, ZFS and archives for ACEs of any type
abbrev pub nfs_any_rules : WhoField → TextRules PlacedAce
nfs_any_rules source = any_type_rules (nfs_rules source) (nfs_any_entry source)
