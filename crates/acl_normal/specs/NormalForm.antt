-- How the normal form of a list of ACEs relates to the list (this library's own; what a list grants is of RFC 8881,
-- section 6.2.1).
use Rattle.std.specs.Prelude.{◌≡◌, ◌≤◌, ℕ, List}
use Rattle.acl_perm.specs.Bits.{all_rights}
use Rattle.acl_perm.specs.Profile.{Profile, full}
use Rattle.acl_nfs4.specs.Ace.{Ace}
use Rattle.acl_nfs4.specs.Spelling.{Fits, IsAccepted, Xdr, weight}
use Rattle.acl_eval.specs.Grant.{SameGrants}
use Rattle.acl_normal.specs.Normal.{IsNormal}

-- the second list is normal and grants the same; it is accepted, no heavier, fits each profile that the source fits, is
-- the only such list, and is the source itself if the source is normal
pub record IsNormalFormOf (source result : List Ace) : Type 0 where
  pub normal : IsNormal result
  pub grants : SameGrants all_rights source result
  pub lighter : weight result ≤ weight source
  pub accepted : IsAccepted full result
  pub fits : (p : Profile) → Fits p source → Fits p result
  pub only : (other : List Ace) → IsNormal other → SameGrants all_rights source other → result ≡ other
  pub itself : IsNormal source → result ≡ source

-- the bytes spell a list, and the text its normal form (RFC 4506)
pub record Normalizes (p : Profile) (bytes text : List ℕ) : Type 0 where
  pub source : List Ace
  pub form : List Ace
  pub read : Xdr p source bytes
  pub is_form : IsNormalFormOf source form
  pub spelled : Xdr p form text
