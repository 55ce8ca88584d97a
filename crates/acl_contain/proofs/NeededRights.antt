-- The rights that a reduction leaves are those that are needed.
use Rattle.acl_normal.proofs.Common.{Ace, AceRef, AllZip, Bool, HasOnlyNeeded, IsAccepted, IsIrreducible, IsQuiet, IsReducedOf, IsSubset, List, SameGrants, [], aces_with, all_rights, ap, arith, column, false, full, has_bit, key_here, left, length, Mask, mask_here, mask_numbers, nothing_left, principal_here, refl, subst, suc, sym, true, with_masks, ℕ, ◌<◌, ◌∙◌, ◌∷◌, ◌≡◌, ◌≤◌}
use Rattle.acl_contain.specs.Needed.{AreNeeded, HasFewest, cut_to}
use Rattle.acl_normal.proofs.Exports.{bits_length, column_left, first_by_place, first_here, has_first, irreducible_fewest, masks_of_quiet}
use Rattle.acl_normal.proofs.unique.Accepted.{accepted_names}
use Rattle.acl_normal.proofs.unique.IrreducibleLists.{irreducible_column}
use Rattle.acl_normal.proofs.unique.ListColumns.{names_in_column, same_verdicts}
use Rattle.acl_normal.proofs.unique.Normal.{only_needed}
use Rattle.acl_normal.proofs.unique.Outline.{length_alike}

-- the masks of a list
abbrev masks_of : List Ace → List ℕ
masks_of [] = []
masks_of (a ∷ xs) = a.mask ∷ masks_of xs

-- the ACEs of the code have the masks that are given for them
masks_shown : (aces : List AceRef) (masks : List ℕ) → length masks ≡ length aces
    → masks_of (with_masks aces masks) ≡ masks
masks_shown [] [] h = refl
masks_shown [] (m ∷ masks) h = absurd (omega (arith, h))
masks_shown (x ∷ aces) [] h = absurd (omega (arith, h))
masks_shown (x ∷ aces) (m ∷ masks) h = ap (λ v. m ∷ v) (masks_shown aces masks (omega (arith, h)))

-- a list is as long as the list of its masks
masks_count : (xs : List Ace) → length (masks_of xs) ≡ length xs
masks_count [] = refl
masks_count (a ∷ xs) = ap suc (masks_count xs)

-- lists of one outline begin alike, and go on alike
outline_first : (a b : Ace) (xs ys : List Ace) → nothing_left (a ∷ xs) ≡ nothing_left (b ∷ ys)
    → (record a { mask = 0 } ≡ record b { mask = 0 }) × (nothing_left xs ≡ nothing_left ys)
outline_first a b xs ys h = (cc, cc)

-- a list is what is left of each list of its outline that is cut to its masks
cut_is : (xs ys : List Ace) → nothing_left ys ≡ nothing_left xs → cut_to (masks_of ys) xs ≡ ys
cut_is [] [] h = refl
cut_is (a ∷ xs) [] h = refl
cut_is [] (b ∷ ys) h = cc
cut_is (a ∷ xs) (b ∷ ys) h =
    let parts = outline_first b a ys xs h in
    ap (λ (v : Ace). record v { mask = b.mask } ∷ cut_to (masks_of ys) xs) (sym parts.0)
    ∙ ap (λ v. b ∷ v) (cut_is xs ys parts.1)

-- the masks of a list are within those of each list of its outline that has its bits, place by place
within_by_place : (xs ys : List Ace) → nothing_left ys ≡ nothing_left xs
    → ((i b : ℕ) → i < length ys → has_bit (mask_here ys i) b ≡ true → has_bit (mask_here xs i) b ≡ true)
    → AllZip (λ mask (a : Ace). IsSubset mask a.mask) (masks_of ys) xs
within_by_place [] [] e h = tt
within_by_place (a ∷ xs) [] e h = cc
within_by_place [] (b ∷ ys) e h = cc
within_by_place (a ∷ xs) (b ∷ ys) e h = (
  λ k has. h 0 k (omega arith) has,
  within_by_place xs ys (outline_first b a ys xs e).1 (λ i k l has. h (suc i) k (omega (arith, l)) has),
)

-- each bit that a reduction leaves at a place was there
left_was_there : (xs ys : List Ace) (i b : ℕ) → IsReducedOf xs ys → i < length ys → has_bit (mask_here ys i) b ≡ true
    → has_bit (mask_here xs i) b ≡ true
left_was_there xs ys i b r l has =
    let tidy = r.thinned.tidy in
    let first = first_here b ys i (tidy.once b) tidy.quiet has l in
    has_first b (principal_here ys i) xs (key_here ys i).1 i
    (r.thinned.firsts b (principal_here ys i) (key_here ys i).1 i (first_by_place b (principal_here ys i) ys i first))

-- what a reduction leaves is needed
needed_of_reduced : (xs ys : List Ace) → IsReducedOf xs ys → AreNeeded xs (masks_of ys)
needed_of_reduced xs ys r = record {
  count = masks_count ys ∙ length_alike ys xs r.thinned.outline;
  within = within_by_place xs ys r.thinned.outline (λ i b l has. left_was_there xs ys i b r l has);
  same = subst (λ v. SameGrants all_rights xs v) (sym cut) r.grants;
  needed = subst HasOnlyNeeded (sym cut) (only_needed ys (masks_of_quiet ys quiet r.rights) quiet irr);
  fewest =
      subst HasFewest (sym cut) (λ other accepted same b. fewest other accepted same b (has_bit all_rights b) refl);
}
  where
    quiet : IsQuiet ys
    quiet = r.thinned.tidy.quiet

    cut : cut_to (masks_of ys) xs ≡ ys
    cut = cut_is xs ys r.thinned.outline

    irr : (b : ℕ) → IsIrreducible (column ys b)
    irr b = subst IsIrreducible (column_left b ys) (irreducible_column (left ys) b r.irreducible)

    fewest : (other : List Ace) → IsAccepted full other → SameGrants all_rights ys other → (b : ℕ) (t : Bool)
        → has_bit all_rights b ≡ t → length (column ys b) ≤ length (column other b)
    fewest other accepted same b true e =
        irreducible_fewest (column ys b) (column other b) (r.thinned.tidy.once b) (irr b)
        (names_in_column b other (accepted_names full other accepted)) (same_verdicts ys other same b e)
    fewest other accepted same b false e = omega (arith, ap length (r.rights b e))

-- the masks of the code that a reduction leaves are needed
pub needed_left : (xs : List Ace) (aces : List AceRef) (masks : List Mask) → length masks ≡ length aces
    → IsReducedOf xs (aces_with aces masks) → AreNeeded xs (mask_numbers masks)
needed_left xs aces masks count r =
    subst (AreNeeded xs) (masks_shown aces (mask_numbers masks) (bits_length masks ∙ count))
    (needed_of_reduced xs (aces_with aces masks) r)
