-- An ACE of an array, as the code judges it (this library's own; only the code needs it).
use Rattle.std.specs.Prelude.{◌≡◌, ◌++◌, ◌∷◌, [], ⊤, Err, List, None, Ok, Result, Some, length}
use Rattle.acl_perm.specs.Profile.{Profile}
use Rattle.acl_nfs4.specs.Ace.{Ace, ace}
use Rattle.acl_nfs4.specs.Spelling.{IsAccepted}
use Rattle.acl_perm.specs.Profile.{full}
use Rattle.acl_nfs4.specs.declared.ace.AceRef.{AceRef}
use Rattle.acl_nfs4.specs.declared.xdr.fault.Reason.{Reason}
use Rattle.acl_nfs4.specs.declared.xdr.fault.Reason.TheVariants as reason
use Rattle.aclck_c.specs.Build.{ace_given, next_fault, number_fault}
use Rattle.aclck_c.specs.Refusal.{in_list}
use Rattle.aclck_c.specs.declared.failure.Failure.{Failure}
use Rattle.aclck_c.specs.declared.failure.Failure.TheVariants as failure
use Rattle.aclck_c.specs.declared.nfs4.ace.RawAce.{RawAce}

-- the ACE of the numbers, of which none is refused; or why one is
abbrev pub GivesJudgedAce : Profile → RawAce → Result AceRef Reason → Type 0
GivesJudgedAce p given (Ok item) = (number_fault p given ≡ None) × (ace item ≡ ace_given given)
GivesJudgedAce p given (Err why) = number_fault p given ≡ Some why

-- the longer list, after an ACE of which no number is refused
pub record IsWithNext (p : Profile) (given : RawAce) (old new : List Ace) : Type 0 where
  pub number : number_fault p given ≡ None
  pub is : new ≡ old ++ ace_given given ∷ []
  pub accepted : IsAccepted full new

-- the ACE is refused for this reason, or memory ran out
abbrev pub IsNextFault : Profile → List Ace → RawAce → Reason → Type 0
IsNextFault p old given reason.Memory = ⊤
IsNextFault p old given why = next_fault p old given ≡ Some why

-- one more ACE, or why the list does not get it
abbrev pub AddsNext : Profile → RawAce → Result (Unit {0}) Reason → List Ace → List Ace → Type 0
AddsNext p given (Ok done) old new = IsWithNext p given old new
AddsNext p given (Err why) old new = IsNextFault p old given why × (new ≡ old)

-- what the failure says of an ACE that a list does not get
abbrev pub IsNextFailure : Profile → List Ace → RawAce → Failure → Type 0
IsNextFailure p old given failure.BadArgument = ⊥
IsNextFailure p old given (failure.Refused shown) =
    (why : Reason) × (next_fault p old given ≡ Some why) × (shown ≡ in_list (length old) why 0)
IsNextFailure p old given failure.Memory = ⊤

-- one more ACE, or a failure
abbrev pub AddsAce : Profile → RawAce → Result (Unit {0}) Failure → List Ace → List Ace → Type 0
AddsAce p given (Ok done) old new = IsWithNext p given old new
AddsAce p given (Err f) old new = IsNextFailure p old given f
