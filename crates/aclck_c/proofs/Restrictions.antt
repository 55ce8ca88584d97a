-- The bytes of what a list keeps under a bound.
use Rattle.std.proofs.Common.{◌∷◌, [], List, subst, sym}
use Rattle.acl_perm.specs.Profile.{Profile}
use Rattle.acl_nfs4.specs.Ace.{Ace}
use Rattle.acl_nfs4.specs.Spelling.{Fits, IsAccepted}
use Rattle.acl_nfs4.specs.Within.{IsProfile, IsWithin}
use Rattle.acl_nfs4.proofs.Exports.{accepted_where_it_fits}
use Rattle.acl_normal.proofs.unique.Kept.{within_fewer}
use Rattle.acl_contain.specs.Removal.{IsRemoval}
use Rattle.acl_contain.proofs.restriction.Keeping.{removal_accepted}

-- a list without some rights fits each profile that the list fits
removal_fits : (p : Profile) (list cut : List Ace) → IsRemoval list cut → Fits p list → Fits p cut
removal_fits p [] [] removal fits = tt
removal_fits p (a ∷ list) (c ∷ cut) (r, removal) (is, fits) = (
  (subst (IsWithin p.flags) (sym r.flags) is.0, within_fewer p.masks c.mask a.mask is.1 r.within),
  removal_fits p list cut removal fits,
)
removal_fits p [] (c ∷ cut) removal fits = absurd removal
removal_fits p (a ∷ list) [] removal fits = absurd removal

-- it is accepted under each profile under which the list is accepted
pub removal_taken : (p : Profile) (list cut : List Ace) → IsProfile p → IsRemoval list cut → IsAccepted p list
    → IsAccepted p cut
removal_taken p list cut is removal taken =
    let (accepted, fits) = (accepted_where_it_fits p list is).0 taken in
    (accepted_where_it_fits p cut is).1
    (removal_accepted list cut removal accepted, removal_fits p list cut removal fits)
