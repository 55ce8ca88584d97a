-- What comes first in a list, and what is emitted from the rest.
use Rattle.acl_normal.proofs.Common.{Ace, Bool, Column, ColumnKey, IsAlike, IsEmission, IsOnce, IsStep, Kind, List, Principal, Some, ace_key, ap, arith, column, false, first_kind, has_bit, is_either, is_free, may_overlap, principal_of, refl, subst, sym, true, without_principal, ℕ, ⊎_elim, ◌∙◌, ◌∷◌, ◌≡◌}
use Rattle.acl_normal.proofs.unique.Names.{overlaps_back, overlaps_itself}
use Rattle.acl_normal.proofs.unique.FirstKind.{first_kind_same}
use Rattle.acl_normal.proofs.unique.Irreducible.{either_is}
use Rattle.acl_normal.proofs.unique.Shorter.{lacks_principal, without_other}
use Rattle.acl_normal.proofs.unique.Free.{ahead_from_free, same_free, skip_head}
use Rattle.acl_normal.proofs.unique.Columns.{column_lacking, column_with}

-- the order of two principals plays no part in what comes first
pub either_swap : (p q : Principal) (c : Column) → first_kind (is_either p q) c ≡ first_kind (is_either q p) c
either_swap p q c = first_kind_same (is_either p q) (is_either q p) c (λ z. grind arith)

-- a free key may be moved to the front of a column
move_front : (c d : Column) (p : Principal) (k : Kind) → is_free c (p, k) ≡ true → IsAlike (without_principal p c) d
    → IsAlike c ((p, k) ∷ d)
move_front c d p k free a x y o = go (is_either x y p) refl
  where
    ahead : (q : Principal) → may_overlap p q ≡ true → first_kind (is_either p q) c ≡ Some k
    ahead = ahead_from_free c p k free

    go : (b : Bool) → is_either x y p ≡ b → first_kind (is_either x y) c ≡ first_kind (is_either x y) ((p, k) ∷ d)
    go false e = sym (without_other _ _ p c e (λ z n. refl)) ∙ a x y o ∙ sym (skip_head (is_either x y) p k d e)
    go true e =
        let found : first_kind (is_either x y) c ≡ Some k = ⊎_elim
        (λ f. subst (λ v. first_kind (is_either v y) c ≡ Some k) f
        (ahead y (subst (λ v. may_overlap v y ≡ true) (sym f) o)))
        (λ f. either_swap x y c ∙ subst (λ v. first_kind (is_either v x) c ≡ Some k) f
        (ahead x (subst (λ v. may_overlap v x ≡ true) (sym f) (overlaps_back x y o))))
        (either_is x y p e) in
        found ∙ rw e refl

-- with the ACE that comes first in front of what is emitted from the rest, each principal is once in each column
once_emitted : (xs rest ns : List Ace) (a : Ace) → IsStep xs a rest → IsEmission rest ns → (b : ℕ)
    → IsOnce (column (a ∷ ns) b)
once_emitted xs rest ns a step h b = at (has_bit a.mask b) refl
  where
    at : (t : Bool) → has_bit a.mask b ≡ t → IsOnce (column (a ∷ ns) b)
    at true e =
        let p : Principal = principal_of a in
        let none =
        sym (h.alike b p p (overlaps_itself p)) ∙ ap (first_kind (is_either p p)) (step.taken b e)
        ∙ lacks_principal p (column xs b) in
        subst (λ c. IsOnce c) (sym (column_with b a ns step.flags e)) (none, h.once b)
    at false e = subst (λ c. IsOnce c) (sym (column_lacking b a ns step.flags e)) (h.once b)

-- what comes first in a list, before what is emitted from the rest, is emitted from the list
pub emission_step : (xs rest ns : List Ace) (a : Ace) → ((b : ℕ) → IsOnce (column xs b)) → IsStep xs a rest
    → IsEmission rest ns → IsEmission xs (a ∷ ns)
emission_step xs rest ns a once step h = record {
  alike = alike;
  once = once_emitted xs rest ns a step h;
  ordered = (
    λ k b free. step.least k b (same k b ∙ free),
    λ b. step.all b ∙ same (ace_key a) b,
    h.ordered,
  );
  flags = (step.flags, h.flags);
  masks = (step.mask, h.masks);
}
  where
    alike_at : (b : ℕ) (t : Bool) → has_bit a.mask b ≡ t → IsAlike (column xs b) (column (a ∷ ns) b)
    alike_at b true e =
        let moved =
        move_front (column xs b) (column ns b) (principal_of a) a.kind (sym (step.all b) ∙ e)
        (subst (λ c. IsAlike c (column ns b)) (step.taken b e) (h.alike b)) in
        subst (λ c. IsAlike (column xs b) c) (sym (column_with b a ns step.flags e)) moved
    alike_at b false e =
        subst (λ c. IsAlike (column xs b) c) (sym (column_lacking b a ns step.flags e))
        (subst (λ c. IsAlike c (column ns b)) (step.kept b e) (h.alike b))

    alike : (b : ℕ) → IsAlike (column xs b) (column (a ∷ ns) b)
    alike b = alike_at b (has_bit a.mask b) refl

    same : (k : ColumnKey) (b : ℕ) → is_free (column xs b) k ≡ is_free (column (a ∷ ns) b) k
    same k b = same_free (column xs b) (column (a ∷ ns) b) k (once b) (once_emitted xs rest ns a step h b) (alike b)
