-- What a call from C asks of a list, and what its answer means (this library's own, over RFC 8881, section 6.2.1).
use Rattle.std.specs.Prelude.{◌≡◌, ◌<◌, ◌^◌, ◌&&◌, ◌⊎◌, ℕ, All, List, None, Some, length, map}
use Rattle.acl_perm.specs.Bits.{IsMask, has_bit}
use Rattle.acl_perm.specs.Profile.{Profile}
use Rattle.acl_perm.specs.Situation.{Situation}
use Rattle.acl_perm.specs.declared.kind.Kind.{Kind}
use Rattle.acl_perm.specs.declared.kind.Kind.TheVariants.{Allow, Deny}
use Rattle.acl_nfs4.specs.Ace.{Ace}
use Rattle.acl_perm.specs.Kind.{kind_number}
use Rattle.acl_nfs4.specs.Spelling.{Xdr}
use Rattle.acl_eval.specs.Deciding.{AreDecidedBy, deciding_kind, deciding_place}
use Rattle.acl_eval.specs.Grant.{grants_bit}
use Rattle.aclck_c.specs.Options.{IsProfileOption}
use Rattle.aclck_c.specs.declared.nfs4.decide.RawDecided.{RawDecided}
use Rattle.aclck_c.specs.declared.nfs4.deciding.RawDecision.{RawDecision}
use Rattle.aclck_c.specs.declared.nfs4.request.RawObject.{RawObject}
use Rattle.aclck_c.specs.declared.nfs4.request.RawQuestion.{RawQuestion}
use Rattle.aclck_c.specs.declared.nfs4.request.RawRequester.{RawRequester}

-- the situation in which a requester requests access to an object of this owner and this owning group; the names of
-- groups are behind references
abbrev pub asked_by : List ℕ → List ℕ → RawRequester → Situation
asked_by owner group who = record {
  owner_name = owner;
  owning_group = group;
  user_name = who.user.now;
  groups = map (λ g. g.now) who.groups.now;
}

-- the situation in which a requester requests access to an object
abbrev pub asked : RawObject → RawRequester → Situation
asked object who = asked_by object.owner.now object.group.now who

-- no name of the object is empty
pub record IsGoodObject (object : RawObject) : Type 0 where
  pub named_owner : 0 < length object.owner.now
  pub named_group : 0 < length object.group.now

-- no name of the requester is empty
pub record IsGoodRequester (who : RawRequester) : Type 0 where
  pub named_user : 0 < length who.user.now
  pub named_groups : All (λ g. 0 < length g) (map (λ g. g.now) who.groups.now)

-- the rights are a mask, and the options are those of a profile
pub record IsGoodQuestion (question : RawQuestion) : Type 0 where
  pub is_mask : IsMask question.mask
  pub is_profile : IsProfileOption question.options

-- the object, the requester and the question are good
pub record AreGood (object : RawObject) (who : RawRequester) (question : RawQuestion) : Type 0 where
  pub good_object : IsGoodObject object
  pub good_requester : IsGoodRequester who
  pub good_question : IsGoodQuestion question

-- the mask has this bit and no other
abbrev pub IsRight : ℕ → ℕ → Type 0
IsRight mask bit = (bit < 21) × (mask ≡ 2 ^ bit)

-- the mask has exactly one bit
abbrev pub IsSomeRight : ℕ → Type 0
IsSomeRight mask = (bit : ℕ) × IsRight mask bit

-- the bytes spell a list, and the ACE at this place, which has this kind, decides the right
pub record IsDecidedAt (p : Profile) (bytes : List ℕ) (s : Situation) (right place number : ℕ) : Type 0 where
  pub list : List Ace
  pub bit : ℕ
  pub kind : Kind
  pub spelled : Xdr p list bytes
  pub is_right : IsRight right bit
  pub is_place : deciding_place list s bit ≡ Some place
  pub is_kind : deciding_kind list s bit ≡ Some kind
  pub is_number : number ≡ kind_number kind

-- the bytes spell a list, and no ACE of it decides the right
pub record IsUndecided (p : Profile) (bytes : List ℕ) (s : Situation) (right : ℕ) : Type 0 where
  pub list : List Ace
  pub bit : ℕ
  pub spelled : Xdr p list bytes
  pub is_right : IsRight right bit
  pub none : deciding_place list s bit ≡ None

-- what is written if the call fails: no right
abbrev pub nothing_decided : RawDecided
nothing_decided = record { allowed = 0; denied = 0 }

-- the bytes spell a list, and of the rights of the mask an ALLOW of it decides these, and a DENY those
pub record AreDecided (p : Profile) (bytes : List ℕ) (s : Situation) (mask : ℕ) (found : RawDecided) : Type 0 where
  pub list : List Ace
  pub spelled : Xdr p list bytes
  pub allowed : AreDecidedBy Allow list s mask found.allowed
  pub denied : AreDecidedBy Deny list s mask found.denied

-- what is written if no ACE decides, or if the call fails: `ACLCK_UNDECIDED` of `enum aclck_kind`, and no place
abbrev pub no_decision : RawDecision
no_decision = record { place = 0; kind = 2 }

-- the bytes spell a list, and this is the ACE of it that decides the right, or no ACE does
abbrev pub IsDecision : Profile → List ℕ → Situation → ℕ → RawDecision → Type 0
IsDecision p bytes s right found =
    IsDecidedAt p bytes s right found.place found.kind ⊎ (IsUndecided p bytes s right × (found ≡ no_decision))

-- of the rights of the mask these are the ones that the list grants
abbrev pub AreGranted : List Ace → Situation → ℕ → ℕ → Type 0
AreGranted list s mask granted =
    (bit : ℕ) → has_bit granted bit ≡ (has_bit mask bit && grants_bit list s bit)

-- the bytes spell a list, and of the rights of the mask these are the ones that it grants
pub record HasGranted (p : Profile) (bytes : List ℕ) (s : Situation) (mask granted : ℕ) : Type 0 where
  pub list : List Ace
  pub spelled : Xdr p list bytes
  pub rights : AreGranted list s mask granted
