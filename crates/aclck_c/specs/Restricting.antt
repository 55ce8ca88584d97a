-- What a call from C makes of a list and of a bound: what the list keeps under the bound (this library's own, over the
-- first match of RFC 8881, section 6.2.1).
use Rattle.std.specs.Prelude.{◌≡◌, ◌↔◌, ℕ, List}
use Rattle.acl_perm.specs.Bits.{all_rights}
use Rattle.acl_perm.specs.Profile.{Profile}
use Rattle.acl_nfs4.specs.Ace.{Ace}
use Rattle.acl_nfs4.specs.Spelling.{Xdr}
use Rattle.acl_eval.specs.Grant.{GrantsAtMost}
use Rattle.acl_contain.specs.EveryPath.{AtMostEverywhere}
use Rattle.acl_contain.specs.Removal.{IsGreatestWithin, IsRemoval}
use Rattle.aclck_c.specs.Compare.{SpellLists}

-- the third list is the greatest of the removals of the first that are at most the second, and it is the first itself
-- if and only if the first is at most the second
pub record IsKeptUnder (IsAtMost : List Ace → List Ace → Type 0) (list bound kept : List Ace) : Type 0 where
  pub at_most_list : IsAtMost kept list
  pub greatest : IsGreatestWithin (λ cut. IsAtMost cut bound) list kept
  pub most : (other : List Ace) → IsRemoval list other → IsAtMost other bound → IsAtMost other kept
  pub unchanged : (kept ≡ list) ↔ IsAtMost list bound

-- both spell lists, and the result spells what the first keeps under the second
pub record MakesKept (IsAtMost : List Ace → List Ace → Type 0) (p : Profile) (first second result : List ℕ) : Type 0
  where
    pub list : List Ace
    pub bound : List Ace
    pub kept : List Ace
    pub read : SpellLists p first second list bound
    pub is_kept : IsKeptUnder IsAtMost list bound kept
    pub spelled : Xdr p kept result

-- the result grants at most what the second grants
abbrev pub MakesRestricted : Profile → List ℕ → List ℕ → List ℕ → Type 0
MakesRestricted = MakesKept (GrantsAtMost all_rights)

-- at every path of creations, the result grants at most what the second grants
abbrev pub MakesRestrictedEverywhere : Profile → List ℕ → List ℕ → List ℕ → Type 0
MakesRestrictedEverywhere = MakesKept AtMostEverywhere
