-- The bytes of a list whose users and groups are ids: nfsacl41i, the value of Samba's attribute `security.nfs4acl_xdr`
-- (source3/modules/nfs41acl.x of Samba 4.17.12), in the layout of RFC 4506. An ACE has five words: its type, its flags,
-- whether its who is a special identifier, its mask, and the number of the special identifier or the id. That ids are
-- names by their decimal digits is this library's own.
use Rattle.std.specs.Prelude.{◌≡◌, ◌==◌, ◌&&◌, ◌<◌, ℕ, List, [], ◌∷◌, ◌++◌, length, nat_le, if◌then◌else◌, Option, Some, None, option_map, unwrap_or, IsSome, Result, Ok, Err}
use Rattle.std.specs.Fmt.{decimal}
use Rattle.std.specs.List.{flat_map, AllByRecursion}
use Rattle.std.specs.Option.{is_none}
use Rattle.std.specs.Str.{bytes_eq}
use Rattle.std.specs.Str.Parse.{digits_value}
use Rattle.acl_perm.specs.Kind.{kind_number}
use Rattle.acl_perm.specs.Profile.{full}
use Rattle.acl_posix.specs.Id.{greatest_id}
use Rattle.acl_nfs4.specs.Ace.{Ace}
use Rattle.acl_nfs4.specs.Fields.{flags_of, kind_of, mask_of}
use Rattle.acl_nfs4.specs.Layout.{Field, number_field}
use Rattle.acl_nfs4.specs.Spelling.{IsAccepted, word, word_limit}
use Rattle.acl_nfs4.specs.Who.{everyone_name, group_name, owner_name}
use Rattle.acl_nfs4.specs.declared.xdr.fault.Reason.{Reason}
use Rattle.acl_nfs4.specs.declared.xdr.fault.Reason.TheVariants.{SpecialWho}
use Rattle.acl_forms.specs.FirstFault.{first_fault}
use Rattle.acl_forms.specs.AclFields.{IsAclFault, acl_fields}
use Rattle.acl_forms.specs.AclFlags.{IsAclFlags}
use Rattle.acl_forms.specs.Words.{listed}
use Rattle.acl_forms.specs.declared.fault.FormFault.{FormFault}
use Rattle.acl_forms.specs.declared.fault.FormReason.{FormReason}
use Rattle.acl_forms.specs.declared.fault.FormReason.TheVariants.{NoId}
use Rattle.acl_forms.specs.declared.fault.ReadFault.{ReadFault}
use Rattle.acl_forms.specs.declared.fault.ReadReason.{ReadReason}
use Rattle.acl_forms.specs.declared.fault.ReadReason.TheVariants as reason

-- ---- the bytes of a list

-- the id whose decimal digits a who is; an id is at most 4294967294
abbrev pub id_of_digits : List ℕ → Option ℕ
id_of_digits who = if nat_le (digits_value 10 who) greatest_id && bytes_eq who (decimal (digits_value 10 who))
    then Some (digits_value 10 who) else None

-- the two words of a who: 1 and the number of a special identifier, or 0 and an id
unfoldable pub whom_words : List ℕ → Option (ℕ × ℕ)
whom_words who = if bytes_eq who owner_name then Some (1, 1)
    else (if bytes_eq who group_name then Some (1, 2)
    else (if bytes_eq who everyone_name then Some (1, 3)
    else option_map (λ id. (0, id)) (id_of_digits who)))

-- the bytes of an ACE whose who has these two words
abbrev pub id_ace_bytes : Ace → ℕ × ℕ → List ℕ
id_ace_bytes a who =
    word (kind_number a.kind) ++ (word a.flags ++ (word who.0 ++ (word a.mask ++ word who.1)))

-- the bytes of an ACE
abbrev pub id_piece : Ace → List ℕ
id_piece a = id_ace_bytes a (unwrap_or (whom_words a.who) (0, 0))

-- the bytes of flags and a list: the word of the flags, the word of the list's length, and the bytes of its ACEs
abbrev pub acl41_ids_bytes : ℕ → List Ace → List ℕ
acl41_ids_bytes flags list = word flags ++ (word (length list) ++ flat_map id_piece list)

-- each who is a special identifier or the digits of an id
abbrev pub EachHasId : List Ace → Type 0
EachHasId list = AllByRecursion (λ a. IsSome (whom_words a.who)) list

-- the flags are those of the standard, the list is accepted, each who has an id, and these are the bytes
pub record IsAcl41Ids (set : ℕ) (list : List Ace) (bytes : List ℕ) : Type 0 where
  pub flags : IsAclFlags set
  pub accepted : IsAccepted full list
  pub ids : EachHasId list
  pub spelled : bytes ≡ acl41_ids_bytes set list

-- ---- the first fault of bytes

-- whether the who is a special identifier, which is 1 or 0, or why the word is refused
abbrev pub special_of : ℕ → Result ℕ ReadReason
special_of n = if nat_le n 1 then Ok n else Err reason.IflagBits

-- the special identifier of a number, or why the number is refused
abbrev pub special_who : ℕ → Result (List ℕ) ReadReason
special_who n = if n == 1 then Ok owner_name
    else (if n == 2 then Ok group_name
    else (if n == 3 then Ok everyone_name else Err (reason.List SpecialWho)))

-- the digits of an id, or why the number is refused
abbrev pub id_who : ℕ → Result (List ℕ) ReadReason
id_who n = if nat_le n greatest_id then Ok (decimal n) else Err reason.Id

-- the who of a number, or why the number is refused
unfoldable pub id_who_of : ℕ → ℕ → Result (List ℕ) ReadReason
id_who_of special n = if special == 1 then special_who n else id_who n

-- the five words of an ACE: its type, its flags, whether its who is a special identifier, its mask, and the number of
-- its who
pub record AceWords : Type 0 where
  pub type_number : ℕ
  pub flags : ℕ
  pub special : ℕ
  pub mask : ℕ
  pub number : ℕ
  pub fits : number < word_limit

-- the fields of an ACE after ACEs of this weight, if its type and the number of its who have these meanings
abbrev pub fields_of_words : {K : Type 0} → (ℕ → Result K Reason) → (ℕ → ℕ → ℕ → Result (List ℕ) ReadReason) → ℕ
    → AceWords → List (Field ReadReason)
fields_of_words type who weight a = number_field (λ n. listed (type n)) a.type_number
    ∷ number_field (λ n. listed (flags_of full n)) a.flags ∷ number_field special_of a.special
    ∷ number_field (λ n. listed (mask_of full weight n)) a.mask
    ∷ number_field (who a.type_number a.special) a.number ∷ []

-- the fields of flags and of a list
abbrev pub acl41_ids_fields : ℕ → List AceWords → List (Field ReadReason)
acl41_ids_fields flags list = acl_fields (fields_of_words kind_of (λ type_number. id_who_of)) (λ a. a.mask) flags list

-- the bytes spell no flags and list, and this is their first fault
abbrev pub IsAcl41IdsFault : List ℕ → ReadFault → Type 0
IsAcl41IdsFault bytes fault = IsAclFault acl41_ids_fields
    (λ text. (flags : ℕ) × (list : List Ace) × IsAcl41Ids flags list text) bytes fault

-- ---- which lists the form holds

-- why the form cannot hold an ACE: its who has no id
abbrev pub id_fault : Ace → Option FormReason
id_fault a = if is_none (whom_words a.who) then Some NoId else None

-- why the form does not hold the list: the first ACE whose who has no id
abbrev pub acl41_ids_fault : List Ace → Option FormFault
acl41_ids_fault list = first_fault id_fault list
