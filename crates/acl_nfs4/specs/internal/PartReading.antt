-- What the reader of a part keeps while it reads: this library's own. No public clause cites it.
use Rattle.std.specs.Prelude.{Result, Ok, Err, ◌≡◌, ◌&&◌, ◌≤◌, ◌⊎◌, ◌+◌, ◌++◌, ℕ, zero, suc, Bool, List, [], ◌∷◌, All, count_ones, if◌then◌else◌, length, map, not, ◌==◌}
use Rattle.std.specs.BTreeSet.{BTreeSet, contains_by}
use Rattle.std.specs.Borrow.{Bor}
use Rattle.std.specs.Cmp.Lexicographic.{slice_cmp}
use Rattle.std.specs.List.{list_any}
use Rattle.std.specs.Option.{is_none}
use Rattle.std.specs.Ordering.{nat_cmp}
use Rattle.std.specs.Str.{bytes_eq}
use Rattle.acl_perm.specs.Profile.{Profile}
use Rattle.acl_perm.specs.internal.Steps.{◌>>=◌}
use Rattle.acl_nfs4.specs.AccessPart.{AnyAce, IsAnyWho, Part, is_for_access, kept_ace}
use Rattle.acl_nfs4.specs.Ace.{Ace, ace}
use Rattle.acl_nfs4.specs.Fields.{count_of, flags_of, mask_of, padding_of, who_len_of}
use Rattle.acl_nfs4.specs.Limits.{most_aces, most_weight}
use Rattle.acl_nfs4.specs.PartFault.{any_who_of, type_of}
use Rattle.acl_nfs4.specs.Spelling.{pad_len, weight}
use Rattle.acl_nfs4.specs.Who.{ends_in_at, is_unknown_special}
use Rattle.acl_nfs4.specs.declared.ace.AceRef.{AceRef}
use Rattle.acl_nfs4.specs.Stream.{no_memory}
use Rattle.acl_nfs4.specs.internal.Reading.{Place, fault_at, field, text_fault, word_field}
use Rattle.acl_nfs4.specs.declared.xdr.access_part.AccessAce.{AccessAce}
use Rattle.acl_nfs4.specs.declared.xdr.fault.Fault.{Fault}
use Rattle.acl_nfs4.specs.declared.xdr.fault.Reason.TheVariants.{TrailingBytes}

-- the ACE of an `AccessAce`
abbrev pub any_ace : AccessAce → AnyAce
any_ace a = record { type_number = a.type_number; flags = a.flags.bits; mask = a.mask.bits; who = a.who.now }

-- the ACE at a place, after ACEs of this weight, and the place after it
unfoldable pub any_ace_at : Profile → ℕ → Place → Result (AnyAce × Place) Fault
any_ace_at p weight at = do
  number ← word_field type_of at
  flags ← word_field (flags_of p) number.1
  mask ← word_field (mask_of p weight) flags.1
  len ← word_field who_len_of mask.1
  who ← field len.0 any_who_of len.1
  padding ← field (pad_len len.0) padding_of who.1
  Ok (record { type_number = number.0; flags = flags.0; mask = mask.0; who = who.0 }, padding.1)

-- a part and one more ACE: it is kept, or left out and counted
abbrev pub with_ace : Part → AnyAce → Part
with_ace part a = if is_for_access a
    then record { kept = part.kept ++ kept_ace a ∷ []; left_out = part.left_out }
    else record { kept = part.kept; left_out = part.left_out + 1 }

-- the part with this many more ACEs from a place on, after ACEs of this weight, and the place after them
unfoldable pub part_from : Profile → ℕ → ℕ → Part → Place → Result (Part × Place) Fault
part_from p zero weight part at = Ok (part, at)
part_from p (suc n) weight part at = do
  first ← any_ace_at p weight at
  part_from p n (weight + count_ones first.0.mask) (with_ace part first.0) first.1

-- the part, if no byte is left
abbrev pub at_end : Part × Place → Result Part Fault
at_end (part, at) = if length at.rest == 0 then Ok part else Err (fault_at at TrailingBytes)

-- the part of the list that all of the bytes spell, or the first fault from the left
unfoldable pub part_in : Profile → List ℕ → Result Part Fault
part_in p bytes = do
  count ← word_field count_of (record { at = 0; rest = bytes })
  part ← part_from p count.0 0 (record { kept = []; left_out = 0 }) count.1
  at_end part

-- reading gives this part and ends at this place, unless memory runs out
abbrev pub GivesPart : Place → Result Part Fault → Result (Part × Place) Fault → Type 0
GivesPart at (Ok part) read = read ≡ Ok (part, at)
GivesPart at (Err fault) read = (fault ≡ no_memory) ⊎ (read ≡ Err fault)

-- the result is what the bytes say, unless memory runs out
abbrev pub PartReadAs : Result Part Fault → Result Part Fault → Type 0
PartReadAs (Ok part) said = said ≡ Ok part
PartReadAs (Err fault) said = (fault ≡ no_memory) ⊎ (said ≡ Err fault)

-- the ACEs that are kept of a list: they are within the limits, and each has a name
pub record CanBePart (aces : List AceRef) : Type 0 where
  pub count : length aces ≤ most_aces
  pub weight : weight (map ace aces) ≤ most_weight
  pub each : All (λ a. IsAnyWho a.who.now) aces

-- the who of the ACE is this name, and an unknown special identifier
abbrev pub is_unknown_name : List ℕ → Ace → Bool
is_unknown_name name a = is_unknown_special a.who && bytes_eq name a.who

-- a set has the name
abbrev pub has_name : BTreeSet (Bor (List ℕ)) → List ℕ → Bool
has_name names name = contains_by (λ k. slice_cmp nat_cmp name k.now) names

-- a set has the unknown special identifiers of the ACEs
abbrev pub HasUnknownNames : BTreeSet (Bor (List ℕ)) → List AceRef → Type 0
HasUnknownNames names aces = (name : List ℕ) → has_name names name ≡ list_any (λ a. is_unknown_name name (ace a)) aces

-- the bytes may follow a name: there is one, they have no fault of their encoding, and the last of them is not `@`
abbrev pub is_good_suffix : List ℕ → Bool
is_good_suffix suffix = not (length suffix == 0) && (is_none (text_fault suffix) && not (ends_in_at suffix))
