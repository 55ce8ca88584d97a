-- The entry of a text of nfs4-acl-tools (nfs4_acl(5), "ACL FORMAT"): `type:flags:principal:permissions`.
use Rattle.std.specs.Prelude.{ℕ, List, [], ◌∷◌, length, nat_le, nat_lt, bit_or, Option, None, Some, ok_or, Result, Ok, Err, if◌then◌else◌}
use Rattle.std.specs.Str.{bytes_eq}
use Rattle.acl_perm.specs.Ascii.{colon}
use Rattle.acl_perm.specs.Bits.{identifier_group_alone}
use Rattle.acl_perm.specs.Lines.{Span, cut_at}
use Rattle.acl_perm.specs.declared.kind.Kind.{Kind}
use Rattle.acl_perm.specs.internal.Steps.{◌>>=◌}
use Rattle.acl_nfs4.specs.AccessPart.{kind_of_type}
use Rattle.acl_nfs4.specs.Ace.{Ace}
use Rattle.acl_nfs4.specs.Limits.{most_aces}
use Rattle.acl_nfs4.specs.Push.{push_refusal}
use Rattle.acl_nfs4.specs.Who.{group_name}
use Rattle.acl_nfs4.specs.declared.list.push_fault.PushFault.{PushFault}
use Rattle.acl_nfs4.specs.declared.list.push_fault.PushFault.TheVariants as push
use Rattle.acl_nfs4.specs.declared.xdr.fault.Reason.TheVariants as list
use Rattle.acl_forms.specs.Letters.{flag_letters, right_letters, set_of_letters}
use Rattle.acl_forms.specs.ReadFaults.{read_fault_at, no_memory_left}
use Rattle.acl_forms.specs.declared.fault.ReadFault.{ReadFault}
use Rattle.acl_forms.specs.declared.fault.ReadReason.TheVariants as reasons
use Rattle.acl_forms.specs.declared.object.ObjectKind.{ObjectKind}

-- the fields of an entry, with their places
pub record Fields : Type 0 where
  pub kind : Span
  pub flags : Span
  pub who : Span
  pub rights : Span

-- four parts as fields; another number of parts has none
abbrev pub four : List Span → Option Fields
four (kind ∷ flags ∷ who ∷ rights ∷ []) =
    Some (record { kind = kind; flags = flags; who = who; rights = rights })
four _ = None

-- the fields of an entry: the parts between its colons, if there are four
unfoldable pub entry_fields_of : Span → Option Fields
entry_fields_of entry = four (cut_at colon entry)

-- the number of the type of a letter: `A` is ALLOW, `D` is DENY, `U` is AUDIT, and `L` is ALARM
abbrev pub type_read : Span → Result ℕ ReadFault
type_read field = if bytes_eq field.bytes (0x41 ∷ []) then Ok 0
    else (if bytes_eq field.bytes (0x44 ∷ []) then Ok 1
    else (if bytes_eq field.bytes (0x55 ∷ []) then Ok 2
    else (if bytes_eq field.bytes (0x4c ∷ []) then Ok 3
    else Err (read_fault_at field.column (reasons.List list.AceType)))))

-- the kind of a type at this place; AUDIT and ALARM are no kinds
abbrev pub kind_at : ℕ → ℕ → Result Kind ReadFault
kind_at at number = if nat_lt number 2 then Ok (kind_of_type number)
    else Err (read_fault_at at (reasons.List list.AuditOrAlarm))

-- the kind of a letter
abbrev pub kind_read : Span → Result Kind ReadFault
kind_read field = type_read field >>= λ number. kind_at field.column number

-- the flags of an ACE with this who: the tool sets IDENTIFIER_GROUP on `GROUP@`, whatever the text says
abbrev pub with_group_flag : List ℕ → ℕ → ℕ
with_group_flag who flags = if bytes_eq who group_name then bit_or flags identifier_group_alone else flags

-- why a list does not accept one more ACE, at the place of the mask or of the who
abbrev pub refused_at : ℕ → ℕ → PushFault → ReadFault
refused_at mask who push.TooManyAces = read_fault_at who (reasons.List list.TooManyAces)
refused_at mask who push.TooHeavy = read_fault_at mask (reasons.List list.TooHeavy)
refused_at mask who push.WhoLength = read_fault_at who (reasons.List list.WhoLength)
refused_at mask who push.WhoUtf8 = read_fault_at who (reasons.List list.WhoUtf8)
refused_at mask who push.WhoControl = read_fault_at who (reasons.List list.WhoControl)
refused_at mask who push.SpecialWho = read_fault_at who (reasons.List list.SpecialWho)
refused_at mask who push.Memory = no_memory_left

-- an ACE, or why it is refused
abbrev pub unless_refused : Ace → ℕ → ℕ → Option PushFault → Result Ace ReadFault
unless_refused a mask who None = Ok a
unless_refused a mask who (Some fault) = Err (refused_at mask who fault)

-- an ACE with its mask and its who at these places, as the next one of a list that may refuse it
abbrev pub taken : List Ace → Ace → ℕ → ℕ → Result Ace ReadFault
taken aces a mask who = unless_refused a mask who (push_refusal aces a)

-- the fields of an entry, if a list of this many ACEs can take one more
abbrev pub fields_read : ℕ → Span → Result Fields ReadFault
fields_read count entry = ok_or (entry_fields_of entry) (read_fault_at entry.column reasons.Fields) >>= λ fields.
    if nat_le most_aces count then Err (read_fault_at entry.column (reasons.List list.TooManyAces))
    else Ok fields

-- the ACE of fields, or the first fault: in the type, the flags or the permissions
unfoldable pub tools_ace : ObjectKind → Fields → Result Ace ReadFault
tools_ace object fields = do
  kind ← kind_read fields.kind
  flags ← set_of_letters flag_letters object reasons.Flag fields.flags.column fields.flags.bytes
  mask ← set_of_letters right_letters object reasons.Mask fields.rights.column fields.rights.bytes
  Ok (record { kind = kind; flags = with_group_flag fields.who.bytes flags; mask = mask; who = fields.who.bytes })

-- the ACE that an entry spells as the next one of a list, or the entry's first fault: in the number of its fields, the
-- number of ACEs, the type, the flags, the permissions, their number in the list, and the who
unfoldable pub tools_entry : ObjectKind → List Ace → Span → Result Ace ReadFault
tools_entry object aces entry = do
  fields ← fields_read (length aces) entry
  a ← tools_ace object fields
  taken aces a fields.rights.column fields.who.column
