-- A list of ACEs of any type while it is read, and an ACE of any type as the code holds it (this library's own). No
-- public clause cites it.
use Rattle.std.specs.Prelude.{◌≡◌, ◌⊎◌, ◌+◌, ◌<◌, ◌≤◌, ◌++◌, ℕ, zero, suc, List, [], ◌∷◌, Result, Ok, Err, count_ones, drop, if◌then◌else◌, length, nat_lt, take, true}
use Rattle.std.specs.List.{enumerate_from, flat_map}
use Rattle.acl_perm.specs.Profile.{full}
use Rattle.acl_perm.specs.internal.Steps.{◌>>=◌}
use Rattle.acl_nfs4.specs.AccessPart.{AnyAce, IsAnyWho}
use Rattle.acl_nfs4.specs.Fields.{count_of, flags_of, mask_of, padding_of, who_len_of}
use Rattle.acl_nfs4.specs.Limits.{most_aces, most_weight}
use Rattle.acl_nfs4.specs.PartFault.{type_of}
use Rattle.acl_nfs4.specs.Spelling.{pad_len}
use Rattle.acl_nfs4.specs.Who.{is_unknown_special}
use Rattle.acl_nfs4.specs.internal.Reading.{Place}
use Rattle.acl_nfs4.specs.declared.xdr.fault.Reason.TheVariants.{Truncated}
use Rattle.acl_forms.specs.Acl41Ids.{special_of}
use Rattle.acl_forms.specs.Part.{IsPartWith, PlacedAce, any_weight, kept, left_out, noted_if, reason_of}
use Rattle.acl_forms.specs.PartWords.{special_identifier, who_by_name, who_by_number}
use Rattle.acl_forms.specs.ReadFaults.{no_memory_left, read_fault_at}
use Rattle.acl_forms.specs.Words.{acl_flags_of, listed, start, word_at}
use Rattle.acl_forms.specs.declared.fault.ReadFault.{ReadFault}
use Rattle.acl_forms.specs.declared.fault.ReadReason.{ReadReason}
use Rattle.acl_forms.specs.declared.fault.ReadReason.TheVariants as reason
use Rattle.acl_forms.specs.declared.part.ReadablePart.{ReadablePart}
use Rattle.acl_forms.specs.declared.part.left_out.LeftOut.{LeftOut}
use Rattle.acl_forms.specs.declared.part.any_ace.AnyAceRef.{AnyAceRef}
use Rattle.acl_forms.specs.declared.part.any_ace.AnyWho.{AnyWho}
use Rattle.acl_forms.specs.declared.part.any_ace.AnyWho.TheVariants.{Known, Name, Special}
use Rattle.acl_forms.specs.declared.part.any_entry.AnyEntry.{AnyEntry}
use Rattle.acl_forms.specs.declared.part.words.Layout.{Layout}
use Rattle.acl_forms.specs.declared.part.words.Layout.TheVariants.{ByName, ByNumber}
use Rattle.acl_forms.specs.internal.IdAces.{nothing_after, whom_name}
use Rattle.acl_forms.specs.internal.NfsReading.{entry_name}

-- ---- reading from left to right

-- what this many bytes mean and the place after them, or why they are refused
abbrev pub judged_bytes : {A : Type 0} → ℕ → Place → Result A ReadReason → Result (A × Place) ReadFault
judged_bytes n p (Ok x) = Ok (x, record { at = p.at + n; rest = drop n p.rest })
judged_bytes n p (Err r) = Err (read_fault_at p.at r)

-- this many bytes at a place: cut short, or what they mean
abbrev pub bytes_at : {A : Type 0} → ℕ → (List ℕ → Result A ReadReason) → Place → Result (A × Place) ReadFault
bytes_at n means p = if nat_lt (length p.rest) n then Err (read_fault_at p.at (reason.List Truncated))
    else judged_bytes n p (means (take n p.rest))

-- a call that reads an ACE at a place, after ACEs of this weight, and the place after it
abbrev pub AceReader : Type 0
AceReader = ℕ → Place → Result (AnyAce × Place) ReadFault

-- the ACE at a place in nfsacl41
unfoldable pub ace_by_name : AceReader
ace_by_name weight at = do
  number ← word_at (λ n. listed (type_of n)) at
  flags ← word_at (λ n. listed (flags_of full n)) number.1
  mask ← word_at (λ n. listed (mask_of full weight n)) flags.1
  len ← word_at (λ n. listed (who_len_of n)) mask.1
  who ← bytes_at len.0 (who_by_name number.0) len.1
  padding ← bytes_at (pad_len len.0) (λ b. listed (padding_of b)) who.1
  Ok (record { type_number = number.0; flags = flags.0; mask = mask.0; who = who.0 }, padding.1)

-- the ACE at a place in nfsacl41i
unfoldable pub ace_by_number : AceReader
ace_by_number weight at = do
  number ← word_at (λ n. listed (type_of n)) at
  flags ← word_at (λ n. listed (flags_of full n)) number.1
  special ← word_at special_of flags.1
  mask ← word_at (λ n. listed (mask_of full weight n)) special.1
  who ← word_at (who_by_number number.0 special.0) mask.1
  Ok (record { type_number = number.0; flags = flags.0; mask = mask.0; who = who.0 }, who.1)

-- the list with this many more ACEs from a place on, and the place after them
unfoldable pub aces_from : AceReader → ℕ → List PlacedAce → Place → Result (List PlacedAce × Place) ReadFault
aces_from read zero list at = Ok (list, at)
aces_from read (suc n) list at = do
  first ← read (any_weight list) at
  aces_from read n (list ++ record { ace = first.0; offset = at.at } ∷ []) first.1

-- the flags and the ACEs that all of the bytes spell, or the first fault from the left
unfoldable pub whole_in : AceReader → List ℕ → Result (ℕ × List PlacedAce) ReadFault
whole_in read bytes = do
  flags ← word_at acl_flags_of (start bytes)
  count ← word_at (λ n. listed (count_of n)) flags.1
  list ← aces_from read count.0 [] count.1
  nothing_after flags.0 list

-- ---- as the code holds it

-- the name of a who
abbrev pub any_name : AnyWho → List ℕ
any_name (Name name) = name.now
any_name (Known whom) = whom_name whom
any_name (Special n) = special_identifier n

-- the ACE of an `AnyAceRef`
abbrev pub any_ace_of : AnyAceRef → AnyAce
any_ace_of a =
    record { type_number = a.type_number; flags = a.flags.bits; mask = a.mask.bits; who = any_name a.who }

-- a name is one that an ACE may have, and nobody knows whom the special identifier of a number names
abbrev pub HasAnyName : AnyWho → Type 0
HasAnyName (Name name) = IsAnyWho name.now
HasAnyName (Known whom) = Unit {0}
HasAnyName (Special n) = is_unknown_special (special_identifier n) ≡ true

-- the ACE of an `AnyEntry`
abbrev pub any_entry : AnyEntry → AnyAce
any_entry a =
    record { type_number = a.type_number; flags = a.flags.bits; mask = a.mask.bits; who = entry_name a.who }

-- the ACEs that are left out, in order, if the first ACE of the list has this number
abbrev pub left_out_from : ℕ → List PlacedAce → List LeftOut
left_out_from place list =
    flat_map (λ p. noted_if p.0 p.1.offset (reason_of p.1.ace)) (enumerate_from place list)

-- a list of this many ACEs of this weight can take one more, which has a name
pub record IsWithinLimits (count weight : ℕ) (a : AnyAceRef) : Type 0 where
  pub room : count < most_aces
  pub light : weight + count_ones a.mask.bits ≤ most_weight
  pub named : HasAnyName a.who

-- what reads an ACE in a layout
abbrev pub reader_of : Layout → AceReader
reader_of ByName = ace_by_name
reader_of ByNumber = ace_by_number

-- the result of reading ACEs is the part of those that are read, and ends at this place, unless memory runs out
abbrev pub GivesAnyPart : ℕ → Place → Result ReadablePart ReadFault → Result (List PlacedAce × Place) ReadFault → Type 0
GivesAnyPart flags at (Ok part) read =
    (list : List PlacedAce) × (read ≡ Ok (list, at)) × IsPartWith part flags (kept list) (left_out list)
GivesAnyPart flags at (Err fault) read = (fault ≡ no_memory_left) ⊎ (read ≡ Err fault)

-- the result of a call is the part of what is read, unless memory runs out
abbrev pub IsPartReadAs : Result ReadablePart ReadFault → Result (ℕ × List PlacedAce) ReadFault → Type 0
IsPartReadAs (Ok part) said = (flags : ℕ) × (list : List PlacedAce) × (said ≡ Ok (flags, list))
    × IsPartWith part flags (kept list) (left_out list)
IsPartReadAs (Err fault) said = (fault ≡ no_memory_left) ⊎ (said ≡ Err fault)
