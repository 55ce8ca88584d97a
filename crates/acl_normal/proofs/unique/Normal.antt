-- Lists whose columns are irreducible, and normal forms.
use Rattle.acl_normal.proofs.Common.{[], Ace, ace_key, all_rights, ap, arith, bit_at-zero, column, false, has_bit, HasMasks, HasNoEmptyMask, HasNormalFlags, HasOnlyNeeded, is_inherit_only, IsEmission, IsIrreducible, IsIrreducibleList, IsNormal, IsQuiet, IsSubset, List, matches, not, principal_of, refl, SameGrants, subst, sym, true, verdict, without_bit, ℕ, ◌&&◌, ◌++◌, ◌∙◌, ◌∷◌, ◌≡◌}
use mathlib.Core.Logic.Iff.{trans}
use Rattle.acl_normal.proofs.Each.{at_split}
use Rattle.acl_normal.proofs.unique.ListColumns.{column_without, same_grants_from_columns, same_verdicts}
use Rattle.acl_normal.proofs.unique.Invariant.{irreducible_alike, same_by_alike}
use Rattle.acl_normal.proofs.unique.Columns.{column-append, no_inherit_only}
use Rattle.acl_normal.proofs.unique.IrreducibleLists.{irreducible_column}

-- an ACE of a quiet list that takes no part has no bit
pub quiet_at : (l : List Ace) (a : Ace) (r : List Ace) → IsQuiet (l ++ a ∷ r) → is_inherit_only a ≡ true → a.mask ≡ 0
quiet_at [] a r h = h.0
quiet_at (b ∷ l) a r h = quiet_at l a r h.1

-- a list with normal flags is quiet
pub quiet_flags : (xs : List Ace) → HasNormalFlags xs → IsQuiet xs
quiet_flags [] h = tt
quiet_flags (a ∷ xs) h =
    ((λ e. clash (sym e ∙ ap (λ f. has_bit f 3) h.0 ∙ no_inherit_only (principal_of a))), quiet_flags xs h.1)
  where
    clash : true ≡ false → a.mask ≡ 0
    clash e = cc

-- an ACE that takes part or has no bit counts at each bit that it has
pub counts_mask : (b : ℕ) (a : Ace) → (is_inherit_only a ≡ true → a.mask ≡ 0)
    → (has_bit a.mask b && not (is_inherit_only a)) ≡ has_bit a.mask b
counts_mask b a h = grind (arith, bit_at-zero b)

-- an ACE that takes part or has no bit is a key of the column of each of its bits
pub column_quiet : (b : ℕ) (a : Ace) (xs : List Ace) → (is_inherit_only a ≡ true → a.mask ≡ 0)
    → has_bit a.mask b ≡ true → column (a ∷ xs) b ≡ ace_key a ∷ column xs b
column_quiet b a xs h has = rw (counts_mask b a h ∙ has) refl

-- a list whose columns are irreducible needs each of its rights, where no key that takes no part has a bit
pub only_needed : (xs : List Ace) → HasMasks xs → IsQuiet xs → ((b : ℕ) → IsIrreducible (column xs b))
    → HasOnlyNeeded xs
only_needed xs masks quiet irr l a r b is has same =
    let whole : column xs b ≡ column l b ++ ace_key a ∷ column r b =
    ap (λ v. column v b) is ∙ column-append b l (a ∷ r)
    ∙ ap (λ c. column l b ++ c) (column_quiet b a r (quiet_at l a r (subst (λ v. IsQuiet v) is quiet)) has) in
    let less : column (l ++ without_bit a b ∷ r) b ≡ column l b ++ column r b =
    column-append b l (without_bit a b ∷ r) ∙ ap (λ c. column l b ++ c) (column_without b a r) in
    let inside = at_split (λ v. IsSubset v.mask all_rights) xs l a r is masks b has in
    irr b (column l b) (ace_key a) (column r b) whole
    (λ s valid. same_verdicts xs (l ++ without_bit a b ∷ r)
    (subst (λ v. SameGrants all_rights v (l ++ without_bit a b ∷ r)) (sym is) same) b inside s valid
    ∙ ap (verdict (matches s)) less)

-- a list whose columns are irreducible is, where no mask is empty and no key that takes no part has a bit
pub irreducible_list : (xs : List Ace) → HasNoEmptyMask xs → HasMasks xs → IsQuiet xs
    → ((b : ℕ) → IsIrreducible (column xs b)) → IsIrreducibleList xs
irreducible_list xs full masks quiet irr = record { no_empty_mask = full; needed = only_needed xs masks quiet irr }

-- what is emitted from an irreducible list with the grants of another is the normal form of both
pub emission_of_irreducible : (xs rest ns : List Ace) → IsIrreducibleList rest → SameGrants all_rights xs rest
    → IsEmission rest ns → HasMasks ns → IsNormal ns × SameGrants all_rights xs ns
emission_of_irreducible xs rest ns irr same emitted masks = (
  record {
    irreducible =
        irreducible_list ns emitted.masks masks (quiet_flags ns emitted.flags)
        (λ b. irreducible_alike (column rest b) (column ns b) (irreducible_column rest b irr) (emitted.alike b)
        (emitted.once b));
    ordered = emitted.ordered;
    flags = emitted.flags;
  },
  λ s valid request within. trans (same s valid request within) (alike_grants s valid request within),
)
  where
    alike_grants : SameGrants all_rights rest ns
    alike_grants =
        same_grants_from_columns rest ns
        (λ b inside s valid. same_by_alike (column rest b) (column ns b) (emitted.alike b) s valid)
