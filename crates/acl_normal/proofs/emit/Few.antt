-- What remains of a list is short and tidy.
use Rattle.acl_normal.proofs.Common.{[], Ace, AceRef, arith, mask_numbers, Inside, IsRemaining, length, List, masks_left, remaining_of, subst, with_masks, ℕ, ◌∷◌, ◌≡◌, ◌≤◌}
use Rattle.acl_normal.specs.internal.rows.Remaining.{IsRemainder}

-- a list with masks has at most as many ACEs as were given
no_more : (aces : List AceRef) (masks : List ℕ) → length (with_masks aces masks) ≤ length aces
no_more [] masks = omega arith
no_more (a ∷ aces) [] = omega arith
no_more (a ∷ aces) (m ∷ masks) = omega (arith, no_more aces masks)

-- the list that the fields show is one that may remain
pub remainder_of : (a : Inside) (xs : List Ace) → IsRemaining a → remaining_of a ≡ xs → IsRemainder xs
remainder_of a xs r is = subst IsRemainder is (record {
  few = omega (
    arith,
    no_more a.aces.items (masks_left (mask_numbers a.masks.items) a.rows.items (mask_numbers a.left.items)),
    r.few,
  );
  tidy = r.list.tidy;
  rights = r.list.rights;
})
