-- What calls from C make of lists whose users and groups are ids (this library's own, over RFC 8881, section 6.2.1).
use Rattle.std.specs.Prelude.{◌≡◌, ◌≢◌, ◌⊎◌, ◌++◌, ◌∷◌, [], ℕ, List, Some, codes}
use Rattle.acl_perm.specs.Bits.{IsMask}
use Rattle.acl_perm.specs.Profile.{Profile}
use Rattle.acl_perm.specs.Situation.{Situation}
use Rattle.acl_perm.specs.declared.kind.Kind.TheVariants.{Allow, Deny}
use Rattle.acl_posix.specs.Names.{Table}
use Rattle.acl_nfs4.specs.Ace.{Ace}
use Rattle.acl_nfs4.specs.Spelling.{Xdr}
use Rattle.acl_eval.specs.Deciding.{AreDecidedBy}
use Rattle.acl_ids.specs.Ids.{AreRising, first_unknown, situation_of_ids, with_ids}
use Rattle.acl_prepared.specs.PreparedIds.{IsPreparedIds}
use Rattle.aclck_c.specs.Call.{ReportsFault}
use Rattle.aclck_c.specs.Lists.{IsRefusedList}
use Rattle.aclck_c.specs.Names.{AreGoodNames, AreNames}
use Rattle.aclck_c.specs.Options.{IsProfileOption}
use Rattle.aclck_c.specs.Refusal.{in_part}
use Rattle.aclck_c.specs.Status as status
use Rattle.aclck_c.specs.Words.{reason_called}
use Rattle.aclck_c.specs.declared.nfs4.decide.RawDecided.{RawDecided}
use Rattle.aclck_c.specs.declared.nfs4.ids.RawIdObject.{RawIdObject}
use Rattle.aclck_c.specs.declared.nfs4.ids.RawIdRequester.{RawIdRequester}
use Rattle.aclck_c.specs.declared.nfs4.request.RawQuestion.{RawQuestion}
use Rattle.aclck_c.specs.declared.posix.names.RawName.{RawName}
use Rattle.aclck_c.specs.declared.refusal.Refusal.{Refusal}

-- ---- lists that are prepared for ids

-- the names make a table, the bytes spell a list, and the result is the list when it is prepared with the table
pub record MakesIds (p : Profile) (bytes : List ℕ) (names : List RawName) (result : List ℕ) : Type 0 where
  pub table : Table
  pub list : List Ace
  pub named : AreNames names table
  pub spelled : Xdr p list bytes
  pub prepared : IsPreparedIds table list result

-- a name of the list has no id: the reason, and the number of the first ACE with such a name
abbrev pub unknown_at : ℕ → Refusal
unknown_at place = in_part (reason_called (codes "UnknownName")) 0 place 0

-- the names make a table, the bytes spell a list, and this is its first ACE with a name that has no id
pub record HasUnknownName (p : Profile) (bytes : List ℕ) (names : List RawName) (shown : Refusal) : Type 0 where
  pub table : Table
  pub list : List Ace
  pub place : ℕ
  pub named : AreNames names table
  pub spelled : Xdr p list bytes
  pub unknown : first_unknown table list ≡ Some place
  pub is : shown ≡ unknown_at place

-- the names make a table, and the bytes have the fault or a name of their list has no id
pub record IsRefusedForIds (p : Profile) (bytes : List ℕ) (names : List RawName) (shown : Refusal) : Type 0 where
  pub named : AreGoodNames names
  pub refused : IsRefusedList p bytes 0 shown ⊎ HasUnknownName p bytes names shown

-- what a call promises about a list, names and options
pub record ReadsForIds (p : Profile) (bytes : List ℕ) (names : List RawName) (options : ℕ)
    (fault fault_after : Refusal) (returned : ℕ) : Type 0 where
  pub refusal : ReportsFault (IsRefusedForIds p bytes names) fault fault_after returned
  -- an argument is bad if and only if this is returned; if memory runs out, nothing is said about the names
  pub bad : returned ≡ status.bad_argument → AreGoodNames names → IsProfileOption options → ⊥
  pub good : (returned ≢ status.bad_argument) → IsProfileOption options
  pub named : (returned ≢ status.bad_argument) → (returned ≢ status.memory) → AreGoodNames names
  -- no other status is returned
  pub known : status.IsOneOf (status.done_or_short ++ status.failures) returned

-- ---- questions by ids

-- the situation in which a requester requests access to an object
abbrev pub asked_by_ids : RawIdObject → RawIdRequester → Situation
asked_by_ids object who = situation_of_ids object.owner object.group who.user who.groups.now

-- the ids of the groups rise, the rights are a mask, and there is no option
pub record AreGoodIdNumbers (who : RawIdRequester) (question : RawQuestion) : Type 0 where
  pub rising : AreRising who.groups.now
  pub is_mask : IsMask question.mask
  pub no_option : question.options ≡ 0

-- if the bytes are those of a list that is prepared for ids, of the rights of the mask an ALLOW of the list decides
-- these, and a DENY those; the names of the list are the digits of their ids
pub record AreDecidedByIds (prepared : List ℕ) (s : Situation) (mask : ℕ) (found : RawDecided) : Type 0 where
  pub allowed : (table : Table) (list : List Ace) → IsPreparedIds table list prepared
      → AreDecidedBy Allow (with_ids table list) s mask found.allowed
  pub denied : (table : Table) (list : List Ace) → IsPreparedIds table list prepared
      → AreDecidedBy Deny (with_ids table list) s mask found.denied

-- what a call promises about its arguments
pub record JudgesIds (prepared : List ℕ) (who : RawIdRequester) (question : RawQuestion) (returned : ℕ) : Type 0 where
  -- an argument is bad, or the bytes are not those of a list that is prepared for ids
  pub bad : returned ≡ status.bad_argument → (table : Table) (list : List Ace) → IsPreparedIds table list prepared
      → AreGoodIdNumbers who question → ⊥
  pub good : (returned ≢ status.bad_argument) → AreGoodIdNumbers who question
  -- no other status is returned
  pub known : status.IsOneOf (status.done ∷ status.bad_argument ∷ []) returned
