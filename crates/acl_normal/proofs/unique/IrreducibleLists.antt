-- The columns of irreducible lists are irreducible, and alike if the lists grant the same.
use Rattle.acl_normal.proofs.Common.{Ace, Bool, Column, IsAlike, IsIrreducible, IsIrreducibleList, IsSituation, List, SameGrants, Situation, [], all_rights, ap, cases_eq, column, false, has_bit, inl, inr, matches, refl, subst, sym, true, verdict, without_bit, ℕ, ◌++◌, ◌∙◌, ◌∷◌, ◌≡◌, ◌⊎◌}
use Rattle.acl_normal.proofs.unique.Columns.{column-append}
use Rattle.acl_normal.proofs.unique.Named.{irreducible_named}
use Rattle.acl_normal.proofs.unique.SameKeys.{decide_alike}
use Rattle.acl_normal.proofs.unique.ListColumns.{ComesFrom, column_without, comes_from, other_column, same_grants_from_columns, same_verdicts}

-- without a bit of an ACE an irreducible list does not grant the same
pub needed_in : (xs l : List Ace) (a : Ace) (r : List Ace) (b : ℕ) → IsIrreducibleList xs → xs ≡ l ++ a ∷ r
    → has_bit a.mask b ≡ true → SameGrants all_rights xs (l ++ without_bit a b ∷ r) → ⊥
needed_in xs l a r b irr is has same =
    irr.needed l a r b is has (subst (λ v. SameGrants all_rights v (l ++ without_bit a b ∷ r)) is same)

-- every column of an irreducible list is irreducible
pub irreducible_column : (xs : List Ace) (b : ℕ) → IsIrreducibleList xs → IsIrreducible (column xs b)
irreducible_column xs b irr before e after is same =
    let s = comes_from b xs before e after is in
    let shorter : column (s.before ++ without_bit s.ace b ∷ s.after) b ≡ before ++ after =
    column-append b s.before (without_bit s.ace b ∷ s.after)
    ∙ ap (λ c. column s.before b ++ c) (column_without b s.ace s.after) ∙ rw (s.front_is, s.back_is) refl in
    needed_in xs s.before s.ace s.after b irr s.is s.has
    (same_grants_from_columns xs (s.before ++ without_bit s.ace b ∷ s.after)
    (λ i is_bit w valid. at s shorter i w valid (cases_eq i b)))
  where
    at : (s : ComesFrom b xs before e after) → column (s.before ++ without_bit s.ace b ∷ s.after) b ≡ before ++ after
        → (i : ℕ) (w : Situation) → IsSituation w → (i ≡ b) ⊎ (i ≡ b → ⊥)
        → verdict (matches w) (column xs i) ≡ verdict (matches w) (column (s.before ++ without_bit s.ace b ∷ s.after) i)
    at s shorter i w valid (inr n) =
        ap (λ v. verdict (matches w) (column v i)) s.is
        ∙ ap (verdict (matches w)) (other_column b i s.before s.after s.ace n)
    at s shorter i w valid (inl e) =
        subst (λ v. verdict (matches w) (column xs v) ≡ verdict (matches w)
        (column (s.before ++ without_bit s.ace b ∷ s.after) v)) (sym e)
        (same w valid ∙ ap (verdict (matches w)) (sym shorter))

-- an irreducible list has no other bits than the sixteen
pub no_other_bits : (xs : List Ace) (b : ℕ) → IsIrreducibleList xs → has_bit all_rights b ≡ false → column xs b ≡ []
no_other_bits xs b irr outside = go (column xs b) refl
  where
    go : (c : Column) → column xs b ≡ c → column xs b ≡ []
    go [] h = h
    go (e ∷ c) h =
        let s = comes_from b xs [] e c h in
        absurd (needed_in xs s.before s.ace s.after b irr s.is s.has
        (same_grants_from_columns xs (s.before ++ without_bit s.ace b ∷ s.after)
        (λ i is_bit w valid. ap (λ v. verdict (matches w) (column v i)) s.is
        ∙ ap (verdict (matches w)) (other_column b i s.before s.after s.ace
        (λ same. absurd (other i is_bit same))))))
      where
        other : (i : ℕ) → has_bit all_rights i ≡ true → i ≡ b → ⊥
        other i inside same =
            let bad = subst (λ v. has_bit all_rights v ≡ true) same inside in
            cc

-- irreducible lists with the same grants have alike columns
pub alike_columns : (xs ys : List Ace) → IsIrreducibleList xs → IsIrreducibleList ys → SameGrants all_rights xs ys
    → (b : ℕ) → IsAlike (column xs b) (column ys b)
alike_columns xs ys ix iy same b = go (has_bit all_rights b) refl
  where
    go : (t : Bool) → has_bit all_rights b ≡ t → IsAlike (column xs b) (column ys b)
    go true e =
        decide_alike (column xs b) (column ys b) (irreducible_column xs b ix) (irreducible_column ys b iy)
        (irreducible_named _ (irreducible_column xs b ix)) (irreducible_named _ (irreducible_column ys b iy))
        (same_verdicts xs ys same b e)
    go false e = rw (no_other_bits xs b ix e, no_other_bits ys b iy e) (λ p q o. refl)
