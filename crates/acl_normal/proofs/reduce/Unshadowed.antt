-- The unshadowed keys of a column decide as the column, and are a clean column.
use Rattle.acl_normal.proofs.Common.{Bool, Column, IsOnce, Kind, None, Option, Principal, Some, [], arith, everyone, first_kind, is_either, principal_eq, refl, subst, sym, true, unshadowed, ◌++◌, ◌∙◌, ◌∷◌, ◌≡◌}
use Rattle.acl_normal.proofs.unique.Names.{either_first, either_second, either_within, principal_eq_same}
use Rattle.acl_normal.proofs.unique.FirstKind.{append_none, append_some, none_within}
use Rattle.acl_normal.proofs.unique.Irreducible.{IsClean}
use Rattle.acl_normal.proofs.unique.Free.{once_from_clean}

-- the shadowed keys decide nothing
pub same_unshadowed : (m : Principal → Bool) (before c : Column) → m everyone ≡ true → first_kind m before ≡ None
    → first_kind m (unshadowed before c) ≡ first_kind m c
same_unshadowed m before [] e none = refl
same_unshadowed m before ((p, k) ∷ c) e none =
    grind (
      arith,
      same_unshadowed m (before ++ (p, k) ∷ []) c e,
      none_within m (is_either p everyone) before none,
      either_within m p everyone,
      append_none m before ((p, k) ∷ []) none,
    )

-- a principal that has a key before, or whom everyone has a key before, has no unshadowed key
pub shadowed_lacks : (x : Principal) (j : Kind) (before c : Column) → first_kind (is_either x everyone) before ≡ Some j
    → first_kind (is_either x x) (unshadowed before c) ≡ None
shadowed_lacks x j before [] h = refl
shadowed_lacks x j before ((p, k) ∷ c) h =
    grind (
      arith,
      shadowed_lacks x j (before ++ (p, k) ∷ []) c,
      append_some (is_either x everyone) before ((p, k) ∷ []) j h,
      same,
    )
  where
    same : principal_eq p x ≡ true → first_kind (is_either p everyone) before ≡ Some j
    same e = subst (λ v. first_kind (is_either v everyone) before ≡ Some j) (sym (principal_eq_same p x e)) h

-- after a key of everyone no key is unshadowed
pub shadowed_nothing : (j : Kind) (before c : Column) → first_kind (is_either everyone everyone) before ≡ Some j
    → unshadowed before c ≡ []
shadowed_nothing j before [] h = refl
shadowed_nothing j before ((p, k) ∷ c) h =
    grind (
      arith,
      shadowed_nothing j (before ++ (p, k) ∷ []) c
          (append_some (is_either everyone everyone) before ((p, k) ∷ []) j h),
      λ (none : first_kind (is_either p everyone) before ≡ None).
          none_within (is_either p everyone) (is_either everyone everyone) before none
          (either_within (is_either p everyone) everyone everyone (either_second p everyone)
          (either_second p everyone)),
    )

-- the unshadowed keys are a clean column
pub unshadowed_clean : (before c : Column) → IsClean (unshadowed before c)
unshadowed_clean before [] = tt
unshadowed_clean before ((p, k) ∷ c) =
    go (first_kind (is_either p everyone) before) refl (unshadowed_clean (before ++ (p, k) ∷ []) c)
  where
    go : (o : Option Kind) → first_kind (is_either p everyone) before ≡ o
        → IsClean (unshadowed (before ++ (p, k) ∷ []) c) → IsClean (unshadowed before ((p, k) ∷ c))
    go (Some i) e ih = rw e ih
    go None e ih =
        let here : first_kind (is_either p everyone) (before ++ (p, k) ∷ []) ≡ Some k =
        append_none (is_either p everyone) before ((p, k) ∷ []) e ∙ rw (either_first p everyone) refl in
        rw e (shadowed_lacks p k (before ++ (p, k) ∷ []) c here, last here, ih)
      where
        last : first_kind (is_either p everyone) (before ++ (p, k) ∷ []) ≡ Some k → principal_eq p everyone ≡ true
            → unshadowed (before ++ (p, k) ∷ []) c ≡ []
        last here same =
            shadowed_nothing k (before ++ (p, k) ∷ []) c
            (subst (λ v. first_kind (is_either v everyone) (before ++ (p, k) ∷ []) ≡ Some k)
            (principal_eq_same p everyone same) here)

-- the unshadowed keys have each principal at most once
pub unshadowed_once : (c : Column) → IsOnce (unshadowed [] c)
unshadowed_once c = once_from_clean (unshadowed [] c) (unshadowed_clean [] c)
