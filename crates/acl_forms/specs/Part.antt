-- The part of a list of ACEs of any type that access can read (RFC 8881, section 6.2.1): AUDIT and ALARM ACEs grant and
-- deny nothing, and nobody knows whom a special identifier other than `OWNER@`, `GROUP@` and `EVERYONE@` names (section
-- 6.2.1.5). An ALLOW of such a name is left out, so that no more is granted; without a DENY of it more may be granted,
-- so that is refused: this library's own.
use Rattle.std.specs.Prelude.{◌≡◌, ◌==◌, ◌&&◌, ◌+◌, ◌++◌, ℕ, Bool, not, count_ones, if◌then◌else◌, List, [], ◌∷◌, Option, Some, None, Result, MatchResult, ◌⊎◌, false, sum_by}
use Rattle.std.specs.List.{AllByRecursion, enumerate_from, filter_map, flat_map}
use Rattle.acl_nfs4.specs.AccessPart.{AnyAce, is_for_access, kept_ace}
use Rattle.acl_nfs4.specs.Ace.{Ace}
use Rattle.acl_nfs4.specs.Who.{is_unknown_special}
use Rattle.acl_forms.specs.ReadFaults.{no_memory_left}
use Rattle.acl_forms.specs.declared.fault.ReadFault.{ReadFault}
use Rattle.acl_forms.specs.declared.part.ReadablePart.{ReadablePart}
use Rattle.acl_forms.specs.declared.part.left_out.LeftOut.{LeftOut}
use Rattle.acl_forms.specs.declared.part.left_out.LeftOutReason.{LeftOutReason}
use Rattle.acl_forms.specs.declared.part.left_out.LeftOutReason.TheVariants.{AuditOrAlarm, SpecialWho}

-- an ACE of any type, and the place of its first byte in the value
pub record PlacedAce : Type 0 where
  pub ace : AnyAce
  pub offset : ℕ

-- an ACE of this type about this who cannot be left out: it is a DENY, and nobody knows whom it names
abbrev pub is_unknown_deny : ℕ → List ℕ → Bool
is_unknown_deny type_number who = is_unknown_special who && type_number == 1

-- no ACE of these is such a DENY
abbrev pub HasNoUnknownDeny : List PlacedAce → Type 0
HasNoUnknownDeny list = AllByRecursion (λ p. is_unknown_deny p.ace.type_number p.ace.who ≡ false) list

-- why an ACE is left out, if it is
abbrev pub reason_of : AnyAce → Option LeftOutReason
reason_of a = if not (is_for_access a) then Some AuditOrAlarm
    else (if is_unknown_special a.who then Some SpecialWho else None)

-- the ACE that is kept, unless there is a reason to leave it out
abbrev pub kept_unless : Option LeftOutReason → AnyAce → Option Ace
kept_unless None a = Some (kept_ace a)
kept_unless (Some reason) a = None

-- the ACEs that are kept, in order
abbrev pub kept : List PlacedAce → List Ace
kept list = filter_map (λ p. kept_unless (reason_of p.ace) p.ace) list

-- what is reported of the ACE with this number in the list and this place, if there is a reason to leave it out
abbrev pub noted_if : ℕ → ℕ → Option LeftOutReason → List LeftOut
noted_if place offset None = []
noted_if place offset (Some reason) = record { place = place; offset = offset; reason = reason } ∷ []

-- the ACEs that are left out of a whole list, in order
abbrev pub left_out : List PlacedAce → List LeftOut
left_out list = flat_map (λ p. noted_if p.0 p.1.offset (reason_of p.1.ace)) (enumerate_from 0 list)

-- the number of mask bits that are set, over all ACEs
abbrev pub any_weight : List PlacedAce → ℕ
any_weight list = sum_by (λ p. count_ones p.ace.mask) list

-- ---- the part of a list, and the answers of a call that reads it

-- the ACEs that are kept and those that are left out are those of a whole list that is spelled
pub record SpellsPart (Spells : List PlacedAce → Type 0) (list : List Ace) (out : List LeftOut) : Type 0 where
  pub whole : List PlacedAce
  pub spelled : Spells whole
  pub kept : list ≡ kept whole
  pub left_out : out ≡ left_out whole

-- the part has these flags and these ACEs, and reports these ones as left out
pub record IsPartWith (part : ReadablePart) (set : ℕ) (list : List Ace) (out : List LeftOut) : Type 0 where
  pub flags : part.flags.bits ≡ set
  pub kept : part.list ≡ list
  pub left_out : part.left_out.items ≡ out

-- this part, unless memory runs out
abbrev pub IsReadAsPart : Result ReadablePart ReadFault → ℕ → List Ace → List LeftOut → Type 0
IsReadAsPart result set list out =
    MatchResult result (λ part. IsPartWith part set list out) (λ fault. fault ≡ no_memory_left)

-- this fault, unless memory runs out
abbrev pub RefusesPart : Result ReadablePart ReadFault → ReadFault → Type 0
RefusesPart result wrong = MatchResult result (λ _. ⊥) (λ fault. (fault ≡ wrong) ⊎ (fault ≡ no_memory_left))
