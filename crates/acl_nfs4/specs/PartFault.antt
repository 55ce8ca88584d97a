-- The first fault of bytes that should be a list of any ACEs: the fields of such a list, and the first one that is
-- wrong. They are the fields of `Fields`, except that every type of RFC 8881, section 6.2.1.1, and every special
-- identifier is accepted.
use Rattle.std.specs.Prelude.{◌≡◌, ℕ, ◌<◌, List, [], ◌∷◌, ◌++◌, length, replicate, sum_by, take, Result, Ok, Err, if◌then◌else◌, nat_lt, option_map, count_ones, ◌⊎◌}
use Rattle.std.specs.List.{enumerate_from, flat_map}
use Rattle.acl_perm.specs.Profile.{Profile}
use Rattle.acl_nfs4.specs.AccessPart.{AnyAce, AnyXdr, Part}
use Rattle.acl_nfs4.specs.Fields.{count_of, flags_of, mask_of, padding_of, unless, who_len_of, who_reason}
use Rattle.acl_nfs4.specs.Layout.{Field, IsFirstWrongField, bytes_field, number_field}
use Rattle.acl_nfs4.specs.Spelling.{pad_len}
use Rattle.acl_nfs4.specs.Stream.{no_memory}
use Rattle.acl_nfs4.specs.internal.Reading.{text_fault}
use Rattle.acl_nfs4.specs.declared.xdr.fault.Fault.{Fault}
use Rattle.acl_nfs4.specs.declared.xdr.fault.Reason.{Reason}
use Rattle.acl_nfs4.specs.declared.xdr.fault.Reason.TheVariants.{AceType, TrailingBytes, Truncated}

-- the type that a word says, or why it is refused
abbrev pub type_of : ℕ → Result ℕ Reason
type_of n = if nat_lt n 4 then Ok n else Err AceType

-- the who, or why the bytes are refused; their number is already judged
abbrev pub any_who_of : List ℕ → Result (List ℕ) Reason
any_who_of bytes = unless (option_map who_reason (text_fault bytes)) bytes

-- the fields of an ACE after ACEs of this weight: its type, its flags, its mask, the length of its who, its who and its
-- padding
abbrev pub ace_fields : Profile → ℕ → AnyAce → List (Field Reason)
ace_fields p weight a = number_field type_of a.type_number ∷ number_field (flags_of p) a.flags
    ∷ number_field (mask_of p weight) a.mask ∷ number_field who_len_of (length a.who) ∷ bytes_field any_who_of a.who
    ∷ bytes_field padding_of (replicate (pad_len (length a.who)) 0) ∷ []

-- the number of mask bits that are set, over ACEs
abbrev pub weight_of_any : List AnyAce → ℕ
weight_of_any list = sum_by (λ a. count_ones a.mask) list

-- the fields of a list: the number of its ACEs, and those of each ACE, after the ACEs before it
abbrev pub fields_of_list : Profile → List AnyAce → List (Field Reason)
fields_of_list p list = number_field count_of (length list)
    ∷ flat_map (λ q. ace_fields p (weight_of_any (take q.0 list)) q.1) (enumerate_from 0 list)

-- what is wrong with bytes that should be a list of any ACEs and nothing more, and where: the first wrong field of a
-- list, or the first byte after a list
pub data IsAnyListFault (p : Profile) (bytes : List ℕ) : ℕ → Reason → Type 0 where
  of_field : (list : List AnyAce) (offset : ℕ) (r : Reason)
      → IsFirstWrongField Truncated (fields_of_list p list) bytes offset r → IsAnyListFault p bytes offset r
  after_list : (list : List AnyAce) (text rest : List ℕ)
      → AnyXdr p list text → bytes ≡ text ++ rest → 0 < length rest
      → IsAnyListFault p bytes (length text) TrailingBytes

-- the bytes spell no list of any ACEs, and this is their first fault
abbrev pub IsFaultOfPart : Profile → List ℕ → Fault → Type 0
IsFaultOfPart p bytes fault = IsAnyListFault p bytes fault.offset fault.reason

-- this part, unless memory runs out
abbrev pub IsPartOrMemory : Result Part Fault → Part → Type 0
IsPartOrMemory (Ok found) part = found ≡ part
IsPartOrMemory (Err fault) part = fault ≡ no_memory

-- this fault, unless memory runs out
abbrev pub FaultsOrMemory : Result Part Fault → Fault → Type 0
FaultsOrMemory (Ok found) fault = ⊥
FaultsOrMemory (Err found) fault = (found ≡ fault) ⊎ (found ≡ no_memory)
