-- What an irreducible column looks like.
use Rattle.acl_normal.proofs.Common.{[], Allow, ap, append_assoc, arith, Bool, Column, Deny, everyone, false, first_kind, is_either, is_either_or_everyone, IsIrreducible, IsOnce, IsSituation, Kind, matches, None, Option, Principal, principal_eq, refl, Situation, Some, subst, sym, true, verdict, ◌++◌, ◌∙◌, ◌∷◌, ◌≡◌, ◌⊎◌, same_Some}
use Rattle.acl_normal.proofs.unique.Names.{principal_eq_same}
use Rattle.acl_normal.proofs.unique.FirstKind.{splits_at}

-- a column decides the same without a key if what comes after the key decides so
without_key : (m : Principal → Bool) (l r : Column) (p : Principal) (k : Kind)
    → (first_kind m l ≡ None → m p ≡ true → verdict m r ≡ k) → verdict m (l ++ (p, k) ∷ r) ≡ verdict m (l ++ r)
without_key m [] r p k h = grind arith
without_key m ((q, j) ∷ l) r p k h = grind (arith, without_key m l r p k)

-- in each situation in which the key would decide, the keys after it decide the same
abbrev pub IsNeedless : Column → Principal → Kind → Column → Type 0
IsNeedless l p k r =
    (s : Situation) → IsSituation s → first_kind (matches s) l ≡ None → matches s p ≡ true → verdict (matches s) r ≡ k

-- an irreducible column has no key that is needless
pub not_needless : (c l r : Column) (p : Principal) (k : Kind) → IsIrreducible c → c ≡ l ++ (p, k) ∷ r
    → IsNeedless l p k r → ⊥
not_needless c l r p k irr is h =
    irr l (p, k) r is (λ s valid. ap (λ x. verdict (matches s) x) is ∙ without_key (matches s) l r p k (h s valid))

-- a test that finds nothing in two columns together finds nothing in the second
none_right : (m : Principal → Bool) (l r : Column) → first_kind m (l ++ r) ≡ None → first_kind m r ≡ None
none_right m [] r h = h
none_right m ((p, k) ∷ l) r h = grind (arith, none_right m l r)

-- a key is not needed after a key that matches in all the same situations
not_needed_after : (c l r t : Column) (p q : Principal) (k j : Kind) → IsIrreducible c
    → c ≡ l ++ (p, k) ∷ (r ++ (q, j) ∷ t)
    → ((s : Situation) → matches s q ≡ true → matches s p ≡ true) → ⊥
not_needed_after c l r t p q k j irr is over =
    not_needless c (l ++ (p, k) ∷ r) t q j irr (is ∙ sym (append_assoc l ((p, k) ∷ r) ((q, j) ∷ t)))
    (λ s valid none at.
    let rest = none_right (matches s) l ((p, k) ∷ r) none in
    let here : matches s p ≡ true = over s at in
    absurd (grind arith))

-- no principal is twice in the column, and nothing is after everyone
abbrev pub IsClean : Column → Type 0
IsClean [] = Unit {0}
IsClean ((p, k) ∷ r) = (first_kind (is_either p p) r ≡ None) × (principal_eq p everyone ≡ true → r ≡ []) × IsClean r

-- one of two principals is the first or the second
pub either_is : (p q x : Principal) → is_either p q x ≡ true → (x ≡ p) ⊎ (x ≡ q)
either_is p q x h = grind (arith, principal_eq_same)

-- one of a principal and itself is that principal
pub either_same : (p x : Principal) → is_either p p x ≡ true → x ≡ p
either_same p x h = grind (arith, principal_eq_same)

-- each end of an irreducible column is clean
pub clean_after : (c l d : Column) → IsIrreducible c → c ≡ l ++ d → IsClean d
clean_after c l [] irr is = tt
clean_after c l ((p, k) ∷ r) irr is = (
  once (first_kind (is_either p p) r) refl,
  last r refl,
  clean_after c (l ++ (p, k) ∷ []) r irr
      (is ∙ sym (append_assoc l ((p, k) ∷ []) r)),
)
  where
    once : (o : Option Kind) → first_kind (is_either p p) r ≡ o → first_kind (is_either p p) r ≡ None
    once None e = e
    once (Some j) e =
        let s = splits_at (is_either p p) r j e in
        let same : s.principal ≡ p = either_same p s.principal s.passes in
        absurd (not_needed_after c l s.before s.after p s.principal k j irr (is ∙ ap (λ x. l ++ (p, k) ∷ x) s.is)
        (λ w at. subst (λ v. matches w v ≡ true) same at))

    last : (t : Column) → r ≡ t → principal_eq p everyone ≡ true → r ≡ []
    last [] e h = e
    last ((q, j) ∷ t) e h =
        absurd (not_needed_after c l [] t p q k j irr (is ∙ ap (λ x. l ++ (p, k) ∷ x) e)
        (λ w at. subst (λ v. matches w v ≡ true) (sym (principal_eq_same p everyone h)) refl))

-- an irreducible column is clean
pub irreducible_clean : (c : Column) → IsIrreducible c → IsClean c
irreducible_clean c irr = clean_after c [] c irr refl

-- a clean column has each principal once
pub once_from_clean : (c : Column) → IsClean c → IsOnce c
once_from_clean [] h = tt
once_from_clean ((p, k) ∷ r) h = (h.0, once_from_clean r h.2)

-- in a clean column the first of two principals decides, since everyone comes last
pub first_decides : (p q : Principal) (c : Column) (k : Kind) → IsClean c → first_kind (is_either p q) c ≡ Some k
    → verdict (is_either_or_everyone p q) c ≡ k
first_decides p q [] k clean h = cc
first_decides p q ((x, j) ∷ r) k clean h =
    go (is_either p q x) (principal_eq x everyone) refl refl h (first_decides p q r k clean.2)
  where
    go : (e t : Bool) → is_either p q x ≡ e → principal_eq x everyone ≡ t
        → first_kind (is_either p q) ((x, j) ∷ r) ≡ Some k
        → (first_kind (is_either p q) r ≡ Some k → verdict (is_either_or_everyone p q) r ≡ k)
        → verdict (is_either_or_everyone p q) ((x, j) ∷ r) ≡ k
    go true t e f some ih = rw e (same_Some j k (rw e at some))
    go false true e f some ih =
        absurd (nothing (subst (λ v. first_kind (is_either p q) v ≡ Some k) (clean.1 f) (rw e at some)))
      where
        nothing : ◌≡◌ {A = Option Kind} None (Some k) → ⊥
        nothing g = cc
    go false false e f some ih = rw (e, f) (ih (rw e at some))

-- tests that differ at one principal alone, which the column lacks, find the same
pub first_kind_without : (m n : Principal → Bool) (x : Principal) (c : Column) → first_kind (is_either x x) c ≡ None
    → ((z : Principal) → principal_eq z x ≡ false → m z ≡ n z) → first_kind m c ≡ first_kind n c
first_kind_without m n x [] none same = refl
first_kind_without m n x ((z, j) ∷ c) none same = grind (arith, first_kind_without m n x c, same z)

-- of two principals, where the column lacks the first, the second alone decides
pub second_alone : (p q : Principal) (c : Column) → first_kind (is_either p p) c ≡ None
    → first_kind (is_either p q) c ≡ first_kind (is_either q q) c
second_alone p q [] none = refl
second_alone p q ((x, j) ∷ c) none = grind (arith, second_alone p q c)

-- of two principals, if the column lacks the second, the first alone decides
pub alone_first : (p q : Principal) (c : Column) → first_kind (is_either q q) c ≡ None
    → first_kind (is_either p q) c ≡ first_kind (is_either p p) c
alone_first p q [] none = refl
alone_first p q ((x, j) ∷ c) none = grind (arith, alone_first p q c)

-- a column that lacks a principal lacks each that passes the test for the same principal
pub lacks_same : (p x : Principal) (c : Column) → first_kind (is_either p p) c ≡ None → principal_eq p x ≡ true
    → first_kind (is_either x x) c ≡ None
lacks_same p x c none e = subst (λ v. first_kind (is_either v v) c ≡ None) (principal_eq_same p x e) none

-- everyone is never denied by name
pub allows_everyone : (c : Column) (k : Kind) → IsIrreducible c → first_kind (is_either everyone everyone) c ≡ Some k
    → k ≡ Allow
allows_everyone c Allow irr h = refl
allows_everyone c Deny irr h =
    let s = splits_at (is_either everyone everyone) c Deny h in
    let same : s.principal ≡ everyone = either_same everyone s.principal s.passes in
    let rest = clean_after c s.before ((s.principal, Deny) ∷ s.after) irr s.is in
    let none : s.after ≡ [] = rest.1 (ap (λ v. principal_eq v everyone) same) in
    absurd (not_needless c s.before s.after s.principal Deny irr s.is
    (λ w valid before at. ap (verdict (matches w)) none))
