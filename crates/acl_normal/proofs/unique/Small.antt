-- Small situations suffice for any relation of what two columns answer.
use Rattle.acl_normal.proofs.Common.{[], arith, Bool, Column, Deny, Equal, everyone, false, false≢true, Greater, inl, inr, is_among, is_either_or_everyone, length, Less, List, matches, may_overlap, or_cases, or_left, Ordering, Principal, principal_cmp, principal_eq, principal_exact, principal_name, refl, Kind, Situation, small_situation, subst, sym, true, unwrap_or, user, verdict, ℕ, ⊎_elim, ◌<◌, ◌∙◌, ◌∷◌, ◌≡◌, ◌⊎◌}
use Rattle.acl_normal.proofs.unique.Names.{principal_eq_same, overlaps_itself, overlaps_back, longest_name}
use Rattle.acl_normal.proofs.unique.FirstKind.{clique_of, cliques_relate}
use Rattle.acl_normal.proofs.unique.Realised.{AreShort, one_user, small_matches, first_kind_alike, HasOneUser, everyone_moved}
use Rattle.acl_normal.proofs.comparison.Ordered.{principal_greater}
use Rattle.acl_normal.proofs.unique.Columns.{HasOnly}

-- none, one, or two overlapping principals with P, the lesser first, and none of them everyone
pub data IsSmallSet (P : Principal → Type 0) : List Principal → Type 0 where
  none : IsSmallSet P []
  one : (p : Principal) → P p → principal_eq p everyone ≡ false → IsSmallSet P (p ∷ [])
  two : (p q : Principal) → P p → P q → principal_eq p everyone ≡ false → principal_eq q everyone ≡ false
      → may_overlap p q ≡ true → principal_cmp p q ≡ Less → IsSmallSet P (p ∷ q ∷ [])

-- if both of two principals are everyone, they and everyone are everyone alone
nobody_else : (p q r : Principal) → p ≡ everyone → q ≡ everyone
    → is_among r (everyone ∷ []) ≡ is_either_or_everyone p q r
nobody_else p q r e f = grind arith

-- if the first of two principals is everyone, they and everyone are the second and everyone
second_else : (p q r : Principal) → p ≡ everyone → is_among r (everyone ∷ q ∷ []) ≡ is_either_or_everyone p q r
second_else p q r e = grind arith

-- if the second of two principals is everyone or the first, they and everyone are the first and everyone
first_else : (p q r : Principal) → (q ≡ everyone) ⊎ (q ≡ p)
    → is_among r (everyone ∷ p ∷ []) ≡ is_either_or_everyone p q r
first_else p q r e = grind arith

-- two principals and everyone are the same the other way round
both_turned : (p q r : Principal) → is_among r (everyone ∷ q ∷ p ∷ []) ≡ is_either_or_everyone p q r
both_turned p q r = grind arith

-- a small set that with everyone has exactly these two principals and everyone
pub record Covers (P : Principal → Type 0) (p q : Principal) (n : ℕ) : Type 0 where
  pub set : List Principal
  pub small : IsSmallSet P set
  pub short : AreShort n set
  pub one_user : HasOneUser set
  pub same : (r : Principal) → is_among r (everyone ∷ set) ≡ is_either_or_everyone p q r

-- a set of no principal has at most one user
no_user : HasOneUser []
no_user a b h i = cc

-- a set of one principal has at most one user
user_alone : (x : Principal) → HasOneUser (x ∷ [])
user_alone x a b h i = one_user x x (overlaps_itself x) a b (first (user a) h) (first (user b) i)
  where
    first : (r : Principal) → is_among r (x ∷ []) ≡ true → is_among r (x ∷ x ∷ []) ≡ true
    first r h = ⊎_elim (λ e. or_left _ _ e) (λ e. absurd (false≢true e)) (or_cases (principal_eq r x) false h)

-- one principal covers two, if with everyone it is all that these are with everyone
covers_alone : {P : Principal → Type 0} {p q : Principal} {n : ℕ} (x : Principal) → P x
    → length (principal_name x) < n → principal_eq x everyone ≡ false
    → ((r : Principal) → is_among r (everyone ∷ x ∷ []) ≡ is_either_or_everyone p q r) → Covers P p q n
covers_alone x hx sx e same = record {
  set = x ∷ [];
  small = one x hx e;
  short = (sx, tt);
  one_user = user_alone x;
  same = same;
}

-- two principals that overlap have such a small set
has_cover : (P : Principal → Type 0) (p q : Principal) (n : ℕ) → P p → P q → length (principal_name p) < n
    → length (principal_name q) < n → may_overlap p q ≡ true → Covers P p q n
has_cover P p q n hp hq sp sq o =
    go (principal_eq p everyone) refl (principal_eq q everyone) refl (principal_cmp p q) refl
  where
    go : (b : Bool) → principal_eq p everyone ≡ b → (t : Bool) → principal_eq q everyone ≡ t → (w : Ordering)
        → principal_cmp p q ≡ w → Covers P p q n
    go true e true f w g = record {
      set = [];
      small = none;
      short = tt;
      one_user = no_user;
      same = λ r. nobody_else p q r (principal_eq_same p everyone e) (principal_eq_same q everyone f);
    }
    go true e false f w g =
        covers_alone q hq sq f (λ r. second_else p q r (principal_eq_same p everyone e))
    go false e true f w g =
        covers_alone p hp sp e (λ r. first_else p q r (inl (principal_eq_same q everyone f)))
    go false e false f Less g = record {
      set = p ∷ q ∷ [];
      small = two p q hp hq e f o g;
      short = (sp, (sq, tt));
      one_user = one_user p q o;
      same = λ r. everyone_moved (principal_eq r p) (principal_eq r q) (principal_eq r everyone);
    }
    go false e false f Equal g =
        covers_alone p hp sp e (λ r. first_else p q r (inr (sym (principal_exact p q g))))
    go false e false f Greater g = record {
      set = q ∷ p ∷ [];
      small = two q p hq hp f e (overlaps_back p q o) (principal_greater p q g);
      short = (sq, (sp, tt));
      one_user = one_user q p (overlaps_back p q o);
      same = λ r. both_turned p q r;
    }

-- what relates the answers of two columns in each small situation of their principals relates them in every situation
pub small_relate : (R : Kind → Kind → Type 0) (P : Principal → Type 0) (n : ℕ) (c d : Column) → P everyone
    → HasOnly P c → HasOnly P d → 0 < n → longest_name c < n → longest_name d < n
    → ((p : Principal) → P p → length (principal_name p) < n)
    → ((ps : List Principal) → IsSmallSet P ps → R (verdict (matches (small_situation n ps)) c)
    (verdict (matches (small_situation n ps)) d)) → (s : Situation) → R (verdict (matches s) c) (verdict (matches s) d)
small_relate R P n c d pe oc od pos lc ld short small s =
    cliques_relate R P (matches s) c d (clique_of s) refl pe oc od
    (λ p q hp hq o. at p q (has_cover P p q n hp hq (short p hp) (short q hq) o))
  where
    at : (p q : Principal) → Covers P p q n
        → R (verdict (is_either_or_everyone p q) c) (verdict (is_either_or_everyone p q) d)
    at p q h =
        let m = matches (small_situation n h.set) in
        let same : (r : Principal) → length (principal_name r) < n → m r ≡ is_either_or_everyone p q r =
        λ r l. small_matches n h.set h.short h.one_user pos r l ∙ h.same r in
        subst (λ v. R (unwrap_or v Deny) (verdict (is_either_or_everyone p q) d))
        (first_kind_alike m (is_either_or_everyone p q) c n same lc)
        (subst (λ v. R (verdict m c) (unwrap_or v Deny)) (first_kind_alike m (is_either_or_everyone p q) d n same ld)
        (small h.set h.small))
