-- A column alike an irreducible one is irreducible.
use Rattle.acl_normal.proofs.Common.{ap, Column, Deny, first_kind, Has, is_either, IsAlike, IsIrreducible, IsOnce, matches, Principal, refl, SameVerdicts, Some, sym, unwrap_or, verdict, without_principal, ◌∙◌, ◌≡◌}
use Rattle.acl_normal.proofs.unique.Names.{overlaps_itself}
use Rattle.acl_normal.proofs.unique.FirstKind.{alike_agree, clique_of}
use Rattle.acl_normal.proofs.unique.Irreducible.{irreducible_clean}
use Rattle.acl_normal.proofs.unique.Free.{alike_lacking, once_from_clean}
use Rattle.acl_normal.proofs.unique.SameOrder.{once_has, has_once}
use Rattle.acl_normal.proofs.unique.Shorter.{without_key, without_other, lacks_principal}

-- alike columns are alike without a principal
pub alike_without : (p : Principal) (c d : Column) → IsAlike c d
    → IsAlike (without_principal p c) (without_principal p d)
alike_without p c d a =
    alike_lacking p (without_principal p c) (without_principal p d) (lacks_principal p c) (lacks_principal p d)
    (λ x y o away. without_other _ _ p c away (λ z e. refl) ∙ a x y o ∙ sym (without_other _ _ p d away (λ z e. refl)))

-- alike columns decide alike in every situation
pub same_by_alike : (c d : Column) → IsAlike c d → SameVerdicts c d
same_by_alike c d a s valid =
    ap (λ o. unwrap_or o Deny) (alike_agree (matches s) c d (clique_of s) a)

-- a column without repetition that is alike an irreducible one is irreducible
pub irreducible_alike : (c d : Column) → IsIrreducible c → IsAlike c d → IsOnce d → IsIrreducible d
irreducible_alike c d irr a od l (p, k) r is same = at (has_once c p k has)
  where
    oc : IsOnce c
    oc = once_from_clean c (irreducible_clean c irr)

    has : first_kind (is_either p p) c ≡ Some k
    has = a p p (overlaps_itself p) ∙ once_has d p k od (record { before = l; after = r; is = is })

    at : Has c (p, k) → ⊥
    at h = irr h.before (p, k) h.after h.is (λ s valid.
        same_by_alike c d a s valid
        ∙ same s valid
        ∙ ap (verdict (matches s)) (sym (without_key d l r p k od is))
        ∙ sym (same_by_alike (without_principal p c) (without_principal p d) (alike_without p c d a) s valid)
        ∙ ap (verdict (matches s)) (without_key c h.before h.after p k oc h.is))
