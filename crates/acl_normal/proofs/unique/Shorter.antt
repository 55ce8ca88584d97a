-- A column without a principal, and a column in which each principal is at most once.
use Rattle.acl_normal.proofs.Common.{[], AllByRecursion, ap, arith, Bool, Column, false, first_kind, is_either, IsOnce, Kind, length, None, Principal, principal_eq, refl, Some, subst, without_principal, ◌++◌, ◌<◌, ◌∙◌, ◌∷◌, ◌≡◌, ◌≤◌}
use Rattle.std.proofs.lemmas.Bool.{cond_both}
use Rattle.acl_normal.proofs.unique.Names.{principal_eq_itself, principal_eq_same}

-- a column has no more keys without a principal
pub without_no_longer : (p : Principal) (c : Column) → length (without_principal p c) ≤ length c
without_no_longer p [] = omega arith
without_no_longer p ((s, i) ∷ c) = grind (arith, without_no_longer p c)

-- if a column has a key of a principal, it has fewer keys without this principal
pub without_shorter : (p : Principal) (c : Column) (k : Kind) → first_kind (is_either p p) c ≡ Some k
    → length (without_principal p c) < length c
without_shorter p [] k h = cc
without_shorter p ((s, i) ∷ c) k h = grind (arith, without_shorter p c k, without_no_longer p c)

-- a test that doesn't pass a principal finds without it what another does that differs at this principal alone
pub without_other : (m n : Principal → Bool) (x : Principal) (c : Column) → n x ≡ false
    → ((z : Principal) → principal_eq z x ≡ false → m z ≡ n z)
    → first_kind m (without_principal x c) ≡ first_kind n c
without_other m n x [] h same = refl
without_other m n x ((q, j) ∷ c) h same =
    grind (arith, without_other m n x c h same, principal_eq_same q x, same q)

-- where a test finds nothing, it passes no key
pub first_kind_after : (m : Principal → Bool) (l : Column) (p : Principal) (k : Kind) (r : Column)
    → first_kind m (l ++ (p, k) ∷ r) ≡ None → m p ≡ false
first_kind_after m [] p k r h = grind arith
first_kind_after m ((q, j) ∷ l) p k r h = grind (arith, first_kind_after m l p k r)

-- before the key of a principal, a column without repetition lacks it
pub once_before : (l : Column) (p : Principal) (k : Kind) (r : Column) → IsOnce (l ++ (p, k) ∷ r)
    → first_kind (is_either p p) l ≡ None
once_before [] p k r h = refl
once_before ((q, j) ∷ l) p k r h =
    grind (
      arith,
      once_before l p k r h.1,
      first_kind_after (is_either q q) l p k r h.0,
      principal_eq_same q p,
      principal_eq_itself,
    )

-- after the key of a principal, a column without repetition lacks it
pub once_after : (l : Column) (p : Principal) (k : Kind) (r : Column) → IsOnce (l ++ (p, k) ∷ r)
    → first_kind (is_either p p) r ≡ None
once_after [] p k r h = h.0
once_after ((q, j) ∷ l) p k r h = once_after l p k r h.1

-- a column that lacks a principal stays as it is without it
pub without_absent : (p : Principal) (c : Column) → first_kind (is_either p p) c ≡ None → without_principal p c ≡ c
without_absent p [] h = refl
without_absent p ((q, j) ∷ c) h = grind (arith, without_absent p c)

-- a column with one key of a principal is without it what is before the key and what is after it
without_split : (l : Column) (p : Principal) (k : Kind) (r : Column) → first_kind (is_either p p) l ≡ None
    → first_kind (is_either p p) r ≡ None → without_principal p (l ++ (p, k) ∷ r) ≡ l ++ r
without_split [] p k r h i = grind (arith, principal_eq_itself, without_absent p r i)
without_split ((q, j) ∷ l) p k r h i =
    grind (arith, λ (n : first_kind (is_either p p) l ≡ None). without_split l p k r n i)

-- a column without repetition, without a principal, lacks just its key
pub without_key : (c l r : Column) (p : Principal) (k : Kind) → IsOnce c → c ≡ l ++ (p, k) ∷ r
    → without_principal p c ≡ l ++ r
without_key c l r p k once is =
    let h = subst (λ v. IsOnce v) is once in
    ap (without_principal p) is ∙ without_split l p k r (once_before l p k r h) (once_after l p k r h)

-- what holds of each principal of a column holds of each without one of them
pub names_without : (P : Principal → Type 0) (x : Principal) (c : Column) → AllByRecursion (λ e. P e.0) c
    → AllByRecursion (λ e. P e.0) (without_principal x c)
names_without P x [] h = tt
names_without P x ((q, j) ∷ c) h = cond_both (principal_eq q x) _ _ (AllByRecursion (λ e. P e.0))
    (λ e. names_without P x c h.1) (λ e. (h.0, names_without P x c h.1))

-- without a principal, a column lacks it
pub lacks_principal : (p : Principal) (c : Column) → first_kind (is_either p p) (without_principal p c) ≡ None
lacks_principal p [] = refl
lacks_principal p ((q, j) ∷ c) = grind (arith, lacks_principal p c)

-- a test that finds no key finds none without a principal
pub none_without : (m : Principal → Bool) (p : Principal) (c : Column) → first_kind m c ≡ None
    → first_kind m (without_principal p c) ≡ None
none_without m p [] h = refl
none_without m p ((q, j) ∷ c) h = grind (arith, none_without m p c)

-- a column without a principal has each other still once
pub once_without : (p : Principal) (c : Column) → IsOnce c → IsOnce (without_principal p c)
once_without p [] h = tt
once_without p ((q, j) ∷ c) h = grind (arith, once_without p c h.1, none_without (is_either q q) p c h.0)
