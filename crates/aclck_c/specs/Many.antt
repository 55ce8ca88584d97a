-- What a call from C asks of a list for many requesters (this library's own, over RFC 8881, section 6.2.1).
use Rattle.std.specs.Prelude.{◌≡◌, ℕ, All, List, Some, length, replicate, slice_get, slice_index_or}
use Rattle.acl_perm.specs.Profile.{Profile}
use Rattle.acl_nfs4.specs.Ace.{Ace}
use Rattle.acl_nfs4.specs.Spelling.{Xdr}
use Rattle.aclck_c.specs.Requests.{AreGranted, IsGoodObject, IsGoodQuestion, IsGoodRequester, asked_by}
use Rattle.aclck_c.specs.declared.nfs4.request.RawObject.{RawObject}
use Rattle.aclck_c.specs.declared.nfs4.request.RawQuestion.{RawQuestion}
use Rattle.aclck_c.specs.declared.nfs4.request.RawRequester.{RawRequester}

-- the object and the question are good
pub record IsGoodCall (object : RawObject) (question : RawQuestion) : Type 0 where
  pub good_object : IsGoodObject object
  pub good_question : IsGoodQuestion question

-- the call is good, no name of a requester is empty, and there is a place for each answer
pub record AreGoodMany (object : RawObject) (requesters : List RawRequester) (question : RawQuestion) (places : ℕ)
    : Type 0 where
  pub call : IsGoodCall object question
  pub good : All IsGoodRequester requesters
  pub is_place : places ≡ length requesters

-- no right at any place
abbrev pub nothing_for : List ℕ → List ℕ
nothing_for granted = replicate (length granted) 0

-- at the place of each requester are the rights of the mask that the list grants the requester
abbrev pub AreEachGranted : List Ace → List ℕ → List ℕ → List RawRequester → ℕ → List ℕ → Type 0
AreEachGranted list owner group requesters mask granted = (place : ℕ) (who : RawRequester)
    → slice_get requesters place ≡ Some who
    → AreGranted list (asked_by owner group who) mask (slice_index_or granted place 0)

-- the bytes spell a list, and at the place of each requester are the rights that it grants
pub record HaveGranted (p : Profile) (bytes : List ℕ) (object : RawObject) (requesters : List RawRequester) (mask : ℕ)
    (granted : List ℕ) : Type 0 where
  pub list : List Ace
  pub spelled : Xdr p list bytes
  pub rights : AreEachGranted list object.owner.now object.group.now requesters mask granted
  pub count : length granted ≡ length requesters
