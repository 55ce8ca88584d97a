-- Principals in order: none is below itself, and rising lists of the same principals are the same.
use Rattle.acl_normal.proofs.Common.{[], AllByRecursion, ap, false≢true, is_among, IsRisingSet, Less, List, or_cases, or_left, or_right, Principal, principal_cmp, principal_eq, refl, subst, sym, true, ⊎_elim, ◌∙◌, ◌∷◌, ◌≡◌, same_answers, principal_total, Greater, ordering_reverse}
use Rattle.acl_normal.proofs.unique.Names.{principal_eq_itself, principal_eq_same}

-- of two principals one is the lesser
pub principal_greater : (p q : Principal) → principal_cmp p q ≡ Greater → principal_cmp q p ≡ Less
principal_greater p q h = principal_total.antisymm q p ∙ ap ordering_reverse h

-- what holds of all principals holds of one among them
pub below_one : (P : Principal → Type 0) (ps : List Principal) (p : Principal) → AllByRecursion P ps
    → is_among p ps ≡ true → P p
below_one P [] p h i = cc
below_one P (x ∷ ps) p h i = ⊎_elim
    (λ e. subst P (sym (principal_eq_same p x e)) h.0)
    (λ j. below_one P ps p h.1 j)
    (or_cases (principal_eq p x) (is_among p ps) i)

-- no principal is below itself
pub not_below_itself : (p : Principal) → principal_cmp p p ≡ Less → ⊥
not_below_itself p h = let back = principal_total.antisymm p p in cc

-- of two principals not each is below the other
pub not_both_below : (p q : Principal) → principal_cmp p q ≡ Less → principal_cmp q p ≡ Less → ⊥
not_both_below p q h i = not_below_itself p (principal_total.trans p q p h i)

-- a principal above the first of a list and among another list with that first is among the rest of that list
among_rest : (p : Principal) (ps qs : List Principal) (s : Principal)
    → AllByRecursion (λ q. principal_cmp p q ≡ Less) ps → is_among s (p ∷ ps) ≡ is_among s (p ∷ qs)
    → is_among s ps ≡ true → is_among s qs ≡ true
among_rest p ps qs s below h i = ⊎_elim
    (λ e. absurd (not_below_itself p (subst (λ v. principal_cmp p v ≡ Less) (principal_eq_same s p e)
    (below_one (λ v. principal_cmp p v ≡ Less) ps s below i))))
    (λ j. j)
    (or_cases (principal_eq s p) (is_among s qs) (sym h ∙ or_right (principal_eq s p) (is_among s ps) i))

-- rising lists of the same principals have the same first
same_first : (p q : Principal) (ps qs : List Principal) → AllByRecursion (λ s. principal_cmp p s ≡ Less) ps
    → AllByRecursion (λ s. principal_cmp q s ≡ Less) qs
    → ((s : Principal) → is_among s (p ∷ ps) ≡ is_among s (q ∷ qs)) → p ≡ q
same_first p q ps qs r t h = ⊎_elim
    (λ e. principal_eq_same p q e)
    (λ i. ⊎_elim
    (λ e. sym (principal_eq_same q p e))
    (λ j. absurd (not_both_below p q (below_one (λ v. principal_cmp p v ≡ Less) ps q r j)
    (below_one (λ v. principal_cmp q v ≡ Less) qs p t i)))
    (or_cases (principal_eq q p) (is_among q ps) (h q ∙ or_left _ _ (principal_eq_itself q))))
    (or_cases (principal_eq p q) (is_among p qs) (sym (h p) ∙ or_left _ _ (principal_eq_itself p)))

-- rising lists of the same principals are the same
pub rising_same : (ps qs : List Principal) → IsRisingSet ps → IsRisingSet qs
    → ((s : Principal) → is_among s ps ≡ is_among s qs) → ps ≡ qs
rising_same [] [] r t h = refl
rising_same [] (q ∷ qs) r t h = absurd (false≢true (h q ∙ or_left _ _ (principal_eq_itself q)))
rising_same (p ∷ ps) [] r t h = absurd (false≢true (sym (h p) ∙ or_left _ _ (principal_eq_itself p)))
rising_same (p ∷ ps) (q ∷ qs) r t h =
    let e : p ≡ q = same_first p q ps qs r.0 t.0 h in
    let below : AllByRecursion (λ v. principal_cmp p v ≡ Less) qs =
    subst (λ w. AllByRecursion (λ v. principal_cmp w v ≡ Less) qs) (sym e) t.0 in
    let both : (s : Principal) → is_among s (p ∷ ps) ≡ is_among s (p ∷ qs) =
    λ s. h s ∙ ap (λ w. is_among s (w ∷ qs)) (sym e) in
    let rest : ps ≡ qs = rising_same ps qs r.1 t.1 (λ s. same_answers (is_among s ps) (is_among s qs)
    (among_rest p ps qs s r.0 (both s)) (among_rest p qs ps s below (sym (both s)))) in
    ap (λ w. w ∷ ps) e ∙ ap (λ w. q ∷ w) rest
