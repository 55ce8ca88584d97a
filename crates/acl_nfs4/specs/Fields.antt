-- What each field of the XDR layout may hold (RFC 8881, section 6.2.1), and how it is refused if it holds anything
-- else: the table of faults, field by field, each with its conditions in the order in which they are judged. The limits
-- and the reasons are this library's own.
use Rattle.std.specs.Prelude.{ℕ, ◌+◌, List, take, drop, Result, Ok, Err, Option, None, Some, option_map, nat_lt, ◌==◌, not, if◌then◌else◌, count_ones}
use Rattle.std.specs.Int.{w32, from_be_bytes}
use Rattle.std.specs.List.{list_all}
use Rattle.acl_perm.specs.Profile.{Profile}
use Rattle.acl_nfs4.specs.Limits.{most_aces, most_weight}
use Rattle.acl_nfs4.specs.Spelling.{word_size}
use Rattle.acl_nfs4.specs.Who.{is_no_who_len, who_fault}
use Rattle.acl_nfs4.specs.Within.{is_within}
use Rattle.acl_perm.specs.declared.kind.Kind.{Kind}
use Rattle.acl_perm.specs.declared.kind.Kind.TheVariants.{Deny, Allow}
use Rattle.acl_nfs4.specs.declared.xdr.fault.Reason.{Reason}
use Rattle.acl_nfs4.specs.declared.xdr.fault.Reason.TheVariants.{TooManyAces, AuditOrAlarm, AceType, FlagBits, MaskBits, TooHeavy, WhoLength, WhoUtf8, WhoControl, SpecialWho, Padding}
use Rattle.acl_nfs4.specs.declared.who.WhoFault.{WhoFault}
use Rattle.acl_nfs4.specs.declared.who.WhoFault.TheVariants as who

-- the number that four bytes spell
abbrev pub number : List ℕ → ℕ
number bytes = from_be_bytes w32 bytes

-- the number that the word at a place spells
abbrev pub number_at : ℕ → List ℕ → ℕ
number_at place bytes = number (take word_size (drop place bytes))

-- the number of ACEs that a word says, or why it is refused
abbrev pub count_of : ℕ → Result ℕ Reason
count_of n = if nat_lt most_aces n then Err TooManyAces else Ok n

-- the kind that a word says, or why it is refused; AUDIT is 2 and ALARM is 3
abbrev pub kind_of : ℕ → Result Kind Reason
kind_of n = if n == 0 then Ok Allow
    else (if n == 1 then Ok Deny
    else (if nat_lt n 4 then Err AuditOrAlarm else Err AceType))

-- the flags that a word says, or why they are refused
abbrev pub flags_of : Profile → ℕ → Result ℕ Reason
flags_of p n = if is_within p.flags n then Ok n else Err FlagBits

-- the mask that a word says after ACEs of this weight, or why it is refused
abbrev pub mask_of : Profile → ℕ → ℕ → Result ℕ Reason
mask_of p weight n = if not (is_within p.masks n) then Err MaskBits
    else (if nat_lt most_weight (weight + count_ones n) then Err TooHeavy else Ok n)

-- the length of the who that a word says, or why it is refused
abbrev pub who_len_of : ℕ → Result ℕ Reason
who_len_of n = if is_no_who_len n then Err WhoLength else Ok n

-- the reason that names a fault of a who
abbrev pub who_reason : WhoFault → Reason
who_reason who.Length = WhoLength
who_reason who.Utf8 = WhoUtf8
who_reason who.Control = WhoControl
who_reason who.Special = SpecialWho

-- a value, unless there is a reason to refuse it
abbrev pub unless : {A : Type 0} → Option Reason → A → Result A Reason
unless None x = Ok x
unless (Some r) x = Err r

-- the who, or why the bytes are refused
abbrev pub who_of : List ℕ → Result (List ℕ) Reason
who_of bytes = unless (option_map who_reason (who_fault bytes)) bytes

-- the padding, or why the bytes are refused
abbrev pub padding_of : List ℕ → Result (Unit {0}) Reason
padding_of bytes = if list_all (λ b. b == 0) bytes then Ok tt else Err Padding
