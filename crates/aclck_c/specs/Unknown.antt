-- What a call from C asks of a list that may name special identifiers which nobody knows, and what its answer means
-- (this library's own, over RFC 8881, sections 6.2.1 and 6.2.1.5).
use Rattle.std.specs.Prelude.{◌≡◌, ◌↔◌, ℕ, IsTrue, List, Some}
use Rattle.acl_perm.specs.Bits.{has_bit}
use Rattle.acl_perm.specs.Profile.{Profile}
use Rattle.acl_perm.specs.Situation.{Situation}
use Rattle.acl_perm.specs.declared.kind.Kind.TheVariants.{Allow, Deny}
use Rattle.acl_nfs4.specs.Ace.{Ace}
use Rattle.acl_nfs4.specs.AccessPart.{IsPartOf, Part}
use Rattle.acl_nfs4.specs.PartFault.{IsFaultOfPart}
use Rattle.acl_nfs4.specs.declared.xdr.fault.Reason.{Reason}
use Rattle.acl_decide.specs.Unknown.{AlwaysAnswers, IsRequestAnswer, MayAnswer, MayNotGrant, NeverGrants}
use Rattle.acl_decide.specs.declared.request_with_unknown.RequestAnswer.{RequestAnswer}
use Rattle.acl_decide.specs.declared.request_with_unknown.RequestAnswer.TheVariants.{Always, Depends, Never}
use Rattle.aclck_c.specs.Refusal.{in_list}
use Rattle.aclck_c.specs.declared.nfs4.unknown.RawPossible.{RawPossible}
use Rattle.aclck_c.specs.declared.refusal.Refusal.{Refusal}

-- the bytes spell no list of ACEs of any type and any special identifier, and have this fault
pub record IsRefusedPart (p : Profile) (bytes : List ℕ) (shown : Refusal) : Type 0 where
  pub offset : ℕ
  pub reason : Reason
  pub has : IsFaultOfPart p bytes (record { offset = offset; reason = reason })
  pub is : shown ≡ in_list offset reason 0

-- the number of an answer in `enum aclck_request_answer`
abbrev pub request_number : RequestAnswer → ℕ
request_number Never = 0
request_number Depends = 1
request_number Always = 2

-- the number is that of what the list answers to the whole request
pub record IsRequestNumber (list : List Ace) (s : Situation) (mask number : ℕ) : Type 0 where
  pub answer : RequestAnswer
  pub holds : IsRequestAnswer list s mask answer
  pub is : number ≡ request_number answer

-- Of the rights of the mask: an ALLOW decides the allowed ones, whatever the unknown identifiers match; no assignment
-- of matches grants the denied ones, and some assignment lets a DENY decide; some assignment grants the unknown ones,
-- and another does not. The last field is the answer to the whole request.
pub record ArePossibleIn (list : List Ace) (s : Situation) (mask : ℕ) (found : RawPossible) : Type 0 where
  pub allowed : (bit : ℕ) → IsTrue (has_bit found.allowed bit)
      ↔ (IsTrue (has_bit mask bit) × AlwaysAnswers list s bit (Some Allow))
  pub denied : (bit : ℕ) → IsTrue (has_bit found.denied bit)
      ↔ (IsTrue (has_bit mask bit) × NeverGrants list s bit × MayAnswer list s bit (Some Deny))
  pub unknown : (bit : ℕ) → IsTrue (has_bit found.unknown bit)
      ↔ (IsTrue (has_bit mask bit) × MayAnswer list s bit (Some Allow) × MayNotGrant list s bit)
  pub request : IsRequestNumber list s mask found.request

-- the bytes spell a list, and this is possible of the part of it that access reads, without AUDIT and ALARM ACEs, which
-- are counted
pub record ArePossible (p : Profile) (bytes : List ℕ) (s : Situation) (mask : ℕ) (found : RawPossible) : Type 0 where
  pub part : Part
  pub read : IsPartOf p bytes part
  pub possible : ArePossibleIn part.kept s mask found
  pub left_out : found.left_out ≡ part.left_out

-- what is written if the call fails: no right, and that the request is never granted
abbrev pub nothing_possible : RawPossible
nothing_possible = record { allowed = 0; denied = 0; unknown = 0; request = 0; left_out = 0 }
