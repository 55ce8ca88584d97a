-- Reading from left to right, with the first fault: what this library's readers compute. No public clause cites it.
use Rattle.std.specs.Prelude.{◌≡◌, ℕ, zero, suc, ◌+◌, ◌-◌, ◌*◌, ◌^◌, List, [], ◌∷◌, length, take, drop, Result, Ok, Err, Option, None, Some, nat_le, nat_lt, ◌&&◌, not, ◌==◌, Bool, true, if◌then◌else◌, count_ones}
use Rattle.acl_perm.specs.Ascii.{delete, space}
use Rattle.acl_perm.specs.Profile.{Profile}
use Rattle.acl_perm.specs.declared.kind.Kind.{Kind}
use Rattle.acl_perm.specs.internal.Steps.{◌>>=◌}
use Rattle.acl_nfs4.specs.Ace.{Ace}
use Rattle.acl_nfs4.specs.Fields.{number, count_of, kind_of, flags_of, mask_of, who_len_of, who_of, padding_of}
use Rattle.std.specs.List.{AllWithin, list_all}
use Rattle.std.specs.Str.{is_utf8}
use Rattle.acl_nfs4.specs.Spelling.{pad_len, word_size}
use Rattle.acl_nfs4.specs.Who.{is_plain}
use Rattle.acl_nfs4.specs.declared.who.WhoFault.{WhoFault}
use Rattle.acl_nfs4.specs.declared.who.WhoFault.TheVariants.{Utf8, Control}
use Rattle.acl_nfs4.specs.declared.xdr.fault.Fault.{Fault}
use Rattle.acl_nfs4.specs.declared.xdr.fault.Reason.{Reason}
use Rattle.acl_nfs4.specs.declared.xdr.fault.Reason.TheVariants.{Truncated}

-- the result of a function, seen by view, is what reading gives
abbrev pub Gives : {X Y E : Type 0} → (X → Y) → Result X E → Result Y E → Type 0
Gives view (Ok x) read = read ≡ Ok (view x)
Gives view (Err e) read = read ≡ Err e

-- the answer of a test is the fault for which it looks
abbrev pub Judges : {E : Type 0} → Result (Unit {0}) E → Option E → Type 0
Judges (Ok _) fault = fault ≡ None
Judges (Err e) fault = fault ≡ Some e

-- how many bytes one load of the test of plain ASCII takes
abbrev pub load : ℕ
load = 16

-- the greatest number of lanes whose tests fit into a mask of 64 bits
abbrev pub most_lanes : ℕ
most_lanes = 64

-- an ASCII byte that is not a control byte
abbrev pub is_plain_ascii : ℕ → Bool
is_plain_ascii b = nat_le space b && nat_lt b delete

-- each byte from one place up to another is plain ASCII
abbrev pub ArePlain : List ℕ → ℕ → ℕ → Type 0
ArePlain bytes from to = AllWithin (λ b. is_plain_ascii b ≡ true) bytes from to

-- the first condition on their encoding that bytes do not meet
abbrev pub text_fault : List ℕ → Option WhoFault
text_fault bytes = if not (is_utf8 bytes) then Some Utf8
    else (if not (list_all is_plain bytes) then Some Control else None)

-- the number in which all bits of the lowest n bytes are set, and no others
abbrev pub low_bytes : ℕ → ℕ
low_bytes n = 2 ^ (8 * n) - 1

-- each offset, and so each number of bytes, is below this
abbrev pub offset_limit : ℕ
offset_limit = 2 ^ 64

-- how many bytes were read, and those that are left
pub record Place : Type 0 where
  pub at : ℕ
  pub rest : List ℕ

-- a fault of the field at a place
abbrev pub fault_at : Place → Reason → Fault
fault_at p r = record { offset = p.at; reason = r }

-- the value of a field, or its fault at the field's first byte
abbrev pub Placed : {A : Type 0} → ℕ → Result A Reason → Result A Fault → Type 0
Placed offset (Ok x) result = result ≡ Ok x
Placed offset (Err r) result = result ≡ Err (record { offset = offset; reason = r })

-- a place this many bytes further on
abbrev pub moved : ℕ → Place → Place
moved n p = record { at = p.at + n; rest = drop n p.rest }

-- the result of a whole field of n bytes: the reason for which it is refused, or its value and the place after it
abbrev pub judged : {A : Type 0} → ℕ → Place → Result A Reason → Result (A × Place) Fault
judged n p (Ok x) = Ok (x, moved n p)
judged n p (Err r) = Err (fault_at p r)

-- a field of n bytes: cut short, or its result if it is whole
abbrev pub field : {A : Type 0} → ℕ → (List ℕ → Result A Reason) → Place → Result (A × Place) Fault
field n value p = if nat_lt (length p.rest) n then Err (fault_at p Truncated) else judged n p (value (take n p.rest))

-- ---- the fields in order

-- a field that is a word
abbrev pub word_field : {A : Type 0} → (ℕ → Result A Reason) → Place → Result (A × Place) Fault
word_field value p = field word_size (λ bytes. value (number bytes)) p

-- the rest of an ACE, from its padding on
abbrev pub from_padding : Kind → ℕ → ℕ → ℕ → List ℕ → Place → Result (Ace × Place) Fault
from_padding kind flags mask len who at = do
  padding ← field (pad_len len) padding_of at
  Ok (record { kind = kind; flags = flags; mask = mask; who = who }, padding.1)

-- the rest of an ACE, from its who on
abbrev pub from_who : Kind → ℕ → ℕ → ℕ → Place → Result (Ace × Place) Fault
from_who kind flags mask len at = do
  who ← field len who_of at
  from_padding kind flags mask len who.0 who.1

-- the rest of an ACE, from the length of its who on
abbrev pub from_len : Kind → ℕ → ℕ → Place → Result (Ace × Place) Fault
from_len kind flags mask at = do
  len ← word_field who_len_of at
  from_who kind flags mask len.0 len.1

-- the rest of an ACE, from its mask on, after ACEs of this weight
abbrev pub from_mask : Profile → ℕ → Kind → ℕ → Place → Result (Ace × Place) Fault
from_mask p weight kind flags at = do
  mask ← word_field (mask_of p weight) at
  from_len kind flags mask.0 mask.1

-- the rest of an ACE, from its flags on, after ACEs of this weight
abbrev pub from_flags : Profile → ℕ → Kind → Place → Result (Ace × Place) Fault
from_flags p weight kind at = do
  flags ← word_field (flags_of p) at
  from_mask p weight kind flags.0 flags.1

-- the ACE at a place, after ACEs of this weight
unfoldable pub ace_at : Profile → ℕ → Place → Result (Ace × Place) Fault
ace_at p weight at = do
  kind ← word_field kind_of at
  from_flags p weight kind.0 kind.1

-- this many ACEs from a place on, after ACEs of this weight
unfoldable pub aces_at : Profile → ℕ → ℕ → Place → Result (List Ace × Place) Fault
aces_at p zero weight at = Ok ([], at)
aces_at p (suc n) weight at = do
  first ← ace_at p weight at
  others ← aces_at p n (weight + count_ones first.0.mask) first.1
  Ok (first.0 ∷ others.0, others.1)

-- the list at the front of bytes, and the place after it
unfoldable pub read_list : Profile → List ℕ → Result (List Ace × Place) Fault
read_list p bytes = do
  count ← word_field count_of (record { at = 0; rest = bytes })
  aces_at p count.0 0 count.1
