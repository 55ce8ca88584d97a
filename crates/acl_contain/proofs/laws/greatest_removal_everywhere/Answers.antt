use Rattle.acl_normal.proofs.Common.{Ace, IsAccepted, List, [], full, ◌∷◌}
use Rattle.acl_normal.proofs.unique.Accepted.{accepted_masks, accepted_names}
use Rattle.acl_normal.specs.Paths.{here}
use Rattle.acl_contain.proofs.restriction.Chosen.{restricted, restricted_by_rule}
use Rattle.acl_contain.proofs.restriction.Greatest.{greatest_once, greatest_unchanged}
use Rattle.acl_contain.proofs.restriction.Keeping.{removal_accepted}
use Rattle.acl_contain.proofs.restriction.PutBack.{AtMostAtEach, at_all_five, at_no_path, at_one_more, greatest_at, names_in_place, removal_everywhere}
use Rattle.acl_contain.proofs.laws.greatest_removal_everywhere.Goals as goal
use Rattle.acl_contain.specs.EveryPath.{AtMostEverywhere}
use Rattle.acl_contain.specs.Removal.{IsGreatestWithin}
use Rattle.acl_contain.specs.declared.restricting.short_path.ShortPath.{ShortPath}
use Rattle.acl_contain.specs.declared.restricting.short_path.ShortPath.TheVariants.{DirectoryInDirectory, FileInDirectory, NewDirectory, NewFile, Object}
use Rattle.acl_contain.specs.internal.InPlace.{all_in_place, all_put_back}

pub returns-clause-less : goal.returns-clause-less
returns-clause-less c = removal_everywhere

-- the greatest of the removals that grant at most the bound at some paths
at_paths : (paths : List ShortPath) (list bound : List Ace) → IsAccepted full list → IsAccepted full bound
    → (cut : List Ace) × IsGreatestWithin (AtMostAtEach bound paths) list cut
at_paths [] list bound ok other = (list, at_no_path list bound)
at_paths (path ∷ paths) list bound ok other =
    let (cut, g) = at_paths paths list bound ok other in
    let cut_ok : IsAccepted full cut = removal_accepted list cut g.removal ok in
    let left : List Ace = restricted (all_in_place path cut) (all_in_place path bound) in (
      all_put_back path cut left,
      at_one_more bound paths path list cut (all_put_back path cut left) g
          (greatest_at path cut bound left (accepted_masks cut cut_ok)
          (restricted_by_rule (all_in_place path cut) (all_in_place path bound)
          (names_in_place path cut (accepted_names full cut cut_ok))
          (names_in_place path bound (accepted_names full bound other)))),
    )

pub returns-clause-exists : goal.returns-clause-exists
returns-clause-exists c = λ list bound ok other.
    let (cut, g) =
    at_paths (DirectoryInDirectory ∷ FileInDirectory ∷ NewDirectory ∷ NewFile ∷ Object ∷ []) list bound ok other in
    (cut, at_all_five list bound cut g)

pub returns-clause-unique : goal.returns-clause-unique
returns-clause-unique c = λ list bound. greatest_once (λ cut. AtMostEverywhere cut bound) list

pub returns-clause-unchanged : goal.returns-clause-unchanged
returns-clause-unchanged c = λ list bound. greatest_unchanged (λ cut. AtMostEverywhere cut bound) list

pub returns-clause-less_than_here : goal.returns-clause-less_than_here
returns-clause-less_than_here c = λ list bound cut more everywhere alone.
    alone.greatest cut everywhere.removal (everywhere.within here)

pub returns-clause-wider : goal.returns-clause-wider
returns-clause-wider c = λ list bound wide cut more less first second.
    second.greatest cut first.removal (λ path s valid request within granted.
    less path s valid request within (first.within path s valid request within granted))
