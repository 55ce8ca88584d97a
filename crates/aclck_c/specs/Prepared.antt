-- What calls from C make of a list that is read once and then asked often, by its prepared bytes (this library's own,
-- over RFC 8881, section 6.2.1).
use Rattle.std.specs.Prelude.{◌≡◌, ◌≢◌, ◌∷◌, if◌then◌else◌, ℕ, All, Bool, List, length, map, replicate, slice_get, slice_index_or, Some}
use Rattle.acl_perm.specs.Bits.{IsMask}
use Rattle.acl_perm.specs.Profile.{Profile}
use Rattle.acl_perm.specs.Situation.{Situation}
use Rattle.acl_perm.specs.declared.kind.Kind.TheVariants.{Allow, Deny}
use Rattle.acl_nfs4.specs.Ace.{Ace}
use Rattle.acl_nfs4.specs.Spelling.{Xdr}
use Rattle.acl_eval.specs.Deciding.{AreDecidedBy}
use Rattle.acl_eval.specs.GroupSearch.{found_groups}
use Rattle.acl_prepared.specs.Prepared.{IsPrepared}
use Rattle.acl_eval.specs.Situation.{named_situation}
use Rattle.aclck_c.specs.Options.{IsOrderOption, says_order}
use Rattle.aclck_c.specs.Requests.{IsGoodObject, IsGoodRequester, nothing_decided}
use Rattle.aclck_c.specs.Status as status
use Rattle.aclck_c.specs.declared.nfs4.decide.RawDecided.{RawDecided}
use Rattle.aclck_c.specs.declared.nfs4.request.RawObject.{RawObject}
use Rattle.aclck_c.specs.declared.nfs4.request.RawQuestion.{RawQuestion}
use Rattle.aclck_c.specs.declared.nfs4.request.RawRequester.{RawRequester}

-- ---- what is prepared

-- the bytes spell a list, and these are the prepared bytes of the list
pub record Prepares (p : Profile) (bytes prepared : List ℕ) : Type 0 where
  pub list : List Ace
  pub spelled : Xdr p list bytes
  pub is : IsPrepared list prepared

-- ---- what is asked

-- the rights are a mask, and the options are those of a call that asks prepared bytes
pub record IsPreparedQuestion (question : RawQuestion) : Type 0 where
  pub is_mask : IsMask question.mask
  pub is_order : IsOrderOption question.options

-- the object and the question are good
pub record IsPreparedCall (object : RawObject) (question : RawQuestion) : Type 0 where
  pub good_object : IsGoodObject object
  pub good_question : IsPreparedQuestion question

-- the object, the requester and the question are good
pub record AreGoodForPrepared (object : RawObject) (who : RawRequester) (question : RawQuestion) : Type 0 where
  pub call : IsPreparedCall object question
  pub good_requester : IsGoodRequester who

-- the call is good, no name of a requester is empty, and there is a place for each answer
pub record AreGoodForPreparedMany (object : RawObject) (requesters : List RawRequester) (question : RawQuestion)
    (places : ℕ) : Type 0 where
  pub call : IsPreparedCall object question
  pub good : All IsGoodRequester requesters
  pub is_place : places ≡ length requesters

-- the groups that count, of those that are given: if the caller says that they are in order, those that a binary search
-- finds, which are all of them if it is true
abbrev pub groups_asked : Bool → List (List ℕ) → List (List ℕ)
groups_asked said groups = if said then found_groups groups else groups

-- the situation in which a requester requests access to an object of this owner and this owning group
abbrev pub asked_prepared_by : List ℕ → List ℕ → Bool → RawRequester → Situation
asked_prepared_by owner group said who =
    named_situation owner group who.user.now (groups_asked said (map (λ g. g.now) who.groups.now))

-- the situation in which a requester requests access to an object
abbrev pub asked_prepared : RawObject → RawQuestion → RawRequester → Situation
asked_prepared object question who =
    asked_prepared_by object.owner.now object.group.now (says_order question.options) who

-- ---- what is answered

-- What a call promises that asks prepared bytes. Bytes that are not those of a list are refused, or get some answer.
pub record AnswersPrepared {A : Type 0} (prepared : List ℕ) (AreGood : Type 0) (Means : List Ace → A → Type 0)
    (closed answer : A) (returned : ℕ) : Type 0 where
  -- if the bytes are those of a list, and the arguments are good, the call answers
  pub answers : (list : List Ace) → IsPrepared list prepared → AreGood → returned ≡ status.done
  -- if the bytes are those of a list, and the call answers, the answer is that of the list
  pub done : (list : List Ace) → IsPrepared list prepared → returned ≡ status.done → Means list answer
  -- at every other status the answer is the closed one
  pub failed : (returned ≢ status.done) → answer ≡ closed
  -- if the call answers, the arguments are good
  pub good : returned ≡ status.done → AreGood
  -- no other status is returned
  pub known : status.IsOneOf (status.bad_argument ∷ status.only_done) returned

-- of the rights of the mask an ALLOW of the list decides these, and a DENY those
pub record AreDecidedIn (s : Situation) (mask : ℕ) (list : List Ace) (found : RawDecided) : Type 0 where
  pub allowed : AreDecidedBy Allow list s mask found.allowed
  pub denied : AreDecidedBy Deny list s mask found.denied

-- at the place of each requester are the rights of the mask that the list decides
abbrev pub AreEachDecided : (RawRequester → Situation) → List RawRequester → ℕ → List Ace → List RawDecided → Type 0
AreEachDecided asks requesters mask list decided = (place : ℕ) (who : RawRequester)
    → slice_get requesters place ≡ Some who
    → AreDecidedIn (asks who) mask list (slice_index_or decided place nothing_decided)

-- the same, and there is no other place
pub record HaveDecided (asks : RawRequester → Situation) (requesters : List RawRequester) (mask : ℕ)
    (list : List Ace) (decided : List RawDecided) : Type 0 where
  pub rights : AreEachDecided asks requesters mask list decided
  pub count : length decided ≡ length requesters

-- nothing decided at any place
abbrev pub nothing_decided_for : List RawDecided → List RawDecided
nothing_decided_for decided = replicate (length decided) nothing_decided
