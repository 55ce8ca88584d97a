-- Lists of which rights were taken out (this library's own, over the kinds and masks of RFC 8881, section 6.2.1).
use Rattle.std.specs.Prelude.{◌≡◌, List}
use Rattle.std.specs.List.{AllZip}
use Rattle.acl_perm.specs.Bits.{IsSubset, all_rights}
use Rattle.acl_perm.specs.declared.kind.Kind.TheVariants.{Deny}
use Rattle.acl_nfs4.specs.Ace.{Ace}
use Rattle.acl_eval.specs.Grant.{GrantsAtMost}

-- the second ACE is the first without some of its rights; a DENY keeps them all
pub record IsAceRemoval (a cut : Ace) : Type 0 where
  pub kind : cut.kind ≡ a.kind
  pub flags : cut.flags ≡ a.flags
  pub who : cut.who ≡ a.who
  pub within : IsSubset cut.mask a.mask
  pub denied : a.kind ≡ Deny → cut.mask ≡ a.mask

-- the second list is the first, but that rights were taken out of ALLOWs
abbrev pub IsRemoval : List Ace → List Ace → Type 0
IsRemoval = AllZip IsAceRemoval

-- a removal of the list that passes a test, and of which every such removal is a removal
pub record IsGreatestWithin (IsWithin : List Ace → Type 0) (list cut : List Ace) : Type 0 where
  pub removal : IsRemoval list cut
  pub within : IsWithin cut
  pub greatest : (other : List Ace) → IsRemoval list other → IsWithin other → IsRemoval cut other

-- a removal of the list that grants at most what the bound grants, and of which every such removal is a removal
abbrev pub IsGreatestRemoval : List Ace → List Ace → List Ace → Type 0
IsGreatestRemoval list bound = IsGreatestWithin (λ cut. GrantsAtMost all_rights cut bound) list
