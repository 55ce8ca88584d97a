-- The places of placings are within the lists.
use Rattle.acl_normal.proofs.Common.{Ace, AllByRecursion, AllZip, IsPlacing, List, Principal, Placing, [], arith, first_place, length, ℕ, ◌∷◌, ◌≤◌}
use Rattle.acl_normal.specs.internal.comparison.PlaceTables.{IsPlacingWithin}

-- the first place of a set is at most the length of the list
pub first_place_within : (ps : List Principal) (b : ℕ) (xs : List Ace) → first_place ps b xs ≤ length xs
first_place_within ps b [] = omega arith
first_place_within ps b (a ∷ xs) = grind (arith, first_place_within ps b xs)

-- the places of placings are within the lists
pub rows_within : (ps : List Principal) (xs ys : List Ace) (b size : ℕ) (rows : List Placing) → length xs ≤ size
    → length ys ≤ size → AllZip (IsPlacing xs ys b) ps rows → AllByRecursion (IsPlacingWithin size) rows
rows_within [] xs ys b size [] lx ly z = tt
rows_within (p ∷ ps) xs ys b size (r ∷ rows) lx ly z = (
  record {
    here = omega (arith, z.0.here.place, first_place_within (p ∷ []) b xs);
    there =
        omega (arith, z.0.there.place, first_place_within (p ∷ []) b ys);
  },
  rows_within ps xs ys b size rows lx ly z.1,
)
rows_within _ xs ys b size _ lx ly z = absurd z
