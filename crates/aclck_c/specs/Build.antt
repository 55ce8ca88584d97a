-- What a call from C makes of an array of ACEs (this library's own, over RFC 8881, section 6.2.1).
use Rattle.std.specs.Prelude.{◌≡◌, ◌==◌, ◌++◌, ◌∷◌, ℕ, All, List, None, Option, Some, if◌then◌else◌, length, map, nat_lt, not, option_map}
use Rattle.std.specs.Option.{option_or}
use Rattle.acl_perm.specs.Profile.{Profile}
use Rattle.acl_perm.specs.declared.kind.Kind.TheVariants.{Allow, Deny}
use Rattle.acl_nfs4.specs.Ace.{Ace}
use Rattle.acl_nfs4.specs.Push.{push_refusal}
use Rattle.acl_nfs4.specs.Spelling.{IsAccepted, Xdr}
use Rattle.acl_nfs4.specs.Within.{is_within}
use Rattle.acl_nfs4.specs.declared.list.push_fault.PushFault.{PushFault}
use Rattle.acl_nfs4.specs.declared.list.push_fault.PushFault.TheVariants as push
use Rattle.acl_nfs4.specs.declared.xdr.fault.Reason.{Reason}
use Rattle.acl_nfs4.specs.declared.xdr.fault.Reason.TheVariants as reason
use Rattle.aclck_c.specs.Refusal.{in_list}
use Rattle.aclck_c.specs.declared.nfs4.ace.RawAce.{RawAce}
use Rattle.aclck_c.specs.declared.refusal.Refusal.{Refusal}

-- the ACE of the numbers and the who; the number of its kind is 0 (ALLOW) or 1 (DENY)
abbrev pub ace_given : RawAce → Ace
ace_given a = record {
  kind = if a.kind == 0 then Allow else Deny;
  flags = a.flags;
  mask = a.mask;
  who = a.who.now;
}

-- why a number of an ACE is refused, or none: the kind, which may be neither AUDIT (2) nor ALARM (3), then the flags
-- and then the mask, which must be within the profile
abbrev pub number_fault : Profile → RawAce → Option Reason
number_fault p a = if nat_lt 3 a.kind then Some reason.AceType
    else (if nat_lt 1 a.kind then Some reason.AuditOrAlarm
    else (if not (is_within p.flags a.flags) then Some reason.FlagBits
    else (if not (is_within p.masks a.mask) then Some reason.MaskBits else None)))

-- the reason for which a list does not accept one more ACE
abbrev pub push_reason : PushFault → Reason
push_reason push.TooManyAces = reason.TooManyAces
push_reason push.TooHeavy = reason.TooHeavy
push_reason push.WhoLength = reason.WhoLength
push_reason push.WhoUtf8 = reason.WhoUtf8
push_reason push.WhoControl = reason.WhoControl
push_reason push.SpecialWho = reason.SpecialWho
push_reason push.Memory = reason.Memory

-- why an ACE is refused after a list, or none: a number of it, or what the list does not accept at its end
abbrev pub next_fault : Profile → List Ace → RawAce → Option Reason
next_fault p list a = option_or (number_fault p a) (option_map push_reason (push_refusal list (ace_given a)))

-- no number of the ACEs is refused, and their list is accepted
pub record AreAces (p : Profile) (aces : List RawAce) : Type 0 where
  pub numbers : All (λ a. number_fault p a ≡ None) aces
  pub accepted : IsAccepted p (map ace_given aces)

-- no number of the ACEs is refused, and the bytes spell their list
pub record Builds (p : Profile) (aces : List RawAce) (bytes : List ℕ) : Type 0 where
  pub are : AreAces p aces
  pub spelled : Xdr p (map ace_given aces) bytes

-- an ACE is refused after those before it, of which none is refused; its place is the offset of the refusal
pub record IsRefusedBuild (p : Profile) (aces : List RawAce) (shown : Refusal) : Type 0 where
  pub before : List RawAce
  pub refused : RawAce
  pub after : List RawAce
  pub reason : Reason
  pub parts : aces ≡ before ++ refused ∷ after
  pub are : AreAces p before
  pub why : next_fault p (map ace_given before) refused ≡ Some reason
  pub is : shown ≡ in_list (length before) reason 0
