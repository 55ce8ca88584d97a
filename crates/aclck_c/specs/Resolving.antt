-- What a call from C makes of a list and of an object, whose owner and owning group stand for `OWNER@` and `GROUP@`
-- (this library's own, over RFC 8881, section 6.2.1.5).
use Rattle.std.specs.Prelude.{◌≡◌, ◌⊎◌, ℕ, List, None, Some}
use Rattle.acl_perm.specs.Profile.{Profile}
use Rattle.acl_nfs4.specs.Ace.{Ace}
use Rattle.acl_nfs4.specs.Spelling.{Xdr, spelling}
use Rattle.acl_change.specs.Resolved.{first_nameless, resolved_list}
use Rattle.aclck_c.specs.Ids.{unknown_at}
use Rattle.aclck_c.specs.Lists.{IsRefusedList}
use Rattle.aclck_c.specs.Options.{IsProfileOption}
use Rattle.aclck_c.specs.Requests.{IsGoodObject}
use Rattle.aclck_c.specs.declared.nfs4.request.RawObject.{RawObject}
use Rattle.aclck_c.specs.declared.refusal.Refusal.{Refusal}

-- the bytes spell a list, and the result spells the list for an object with this owner and this owning group
pub record MakesResolved (p : Profile) (bytes owner group result : List ℕ) : Type 0 where
  pub list : List Ace
  pub read : Xdr p list bytes
  pub named : first_nameless owner group list ≡ None
  pub is : result ≡ spelling (resolved_list owner group list)

-- the bytes spell a list, and the ACE at this place needs a name that no ACE can have
pub record IsNameless (p : Profile) (bytes owner group : List ℕ) (shown : Refusal) : Type 0 where
  pub list : List Ace
  pub read : Xdr p list bytes
  pub place : ℕ
  pub found : first_nameless owner group list ≡ Some place
  pub is : shown ≡ unknown_at place

-- the bytes have this fault, or an ACE needs a name that no ACE can have
abbrev pub IsRefusedObject : Profile → List ℕ → List ℕ → List ℕ → Refusal → Type 0
IsRefusedObject p bytes owner group shown = IsRefusedList p bytes 0 shown ⊎ IsNameless p bytes owner group shown

-- no name of the object is empty, and the options are those of a profile
pub record IsGoodResolving (object : RawObject) (options : ℕ) : Type 0 where
  pub good_object : IsGoodObject object
  pub is_profile : IsProfileOption options
