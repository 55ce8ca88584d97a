-- The first key of a column that passes a test.
use Rattle.acl_normal.proofs.Common.{[], AllByRecursion, ap, arith, Bool, Column, Deny, everyone, false, first_kind, is_either, is_either_or_everyone, IsAlike, Kind, matches, may_overlap, None, Option, Principal, refl, Situation, Some, subst, sym, true, unwrap_or, verdict, ◌++◌, ◌∙◌, ◌∷◌, ◌≡◌}
use Rattle.acl_normal.proofs.Each.{at_split}
use Rattle.acl_normal.proofs.unique.Names.{either_first, either_or_everyone_within, either_second, either_within, or_everyone_first, or_everyone_second}
use Rattle.acl_normal.proofs.unique.Columns.{HasOnly}
use Rattle.acl_perm.proofs.Meetings.{overlap_is}

-- the first test passes only where the second does
abbrev pub IsNarrower : (Principal → Bool) → (Principal → Bool) → Type 0
IsNarrower n m = (x : Principal) → n x ≡ true → m x ≡ true

-- a narrower test finds nothing where a wider one does not
pub none_within : (m n : Principal → Bool) (c : Column) → first_kind m c ≡ None → IsNarrower n m → first_kind n c ≡ None
none_within m n [] h w = refl
none_within m n ((p, k) ∷ c) h w = grind (arith, none_within m n c, w p)

-- if the first column has no key that passes, the second one decides
pub append_none : (m : Principal → Bool) (l r : Column) → first_kind m l ≡ None → first_kind m (l ++ r) ≡ first_kind m r
append_none m [] r h = refl
append_none m ((p, k) ∷ l) r h = grind (arith, append_none m l r)

-- if the first column has a key that passes, it decides
pub append_some : (m : Principal → Bool) (l r : Column) (k : Kind) → first_kind m l ≡ Some k
    → first_kind m (l ++ r) ≡ Some k
append_some m [] r k h = cc
append_some m ((p, j) ∷ l) r k h = grind (arith, append_some m l r k)

-- tests that agree everywhere find the same
pub first_kind_same : (m n : Principal → Bool) (c : Column) → ((z : Principal) → m z ≡ n z)
    → first_kind m c ≡ first_kind n c
first_kind_same m n [] h = refl
first_kind_same m n ((p, k) ∷ c) h = grind (arith, first_kind_same m n c h, h p)

-- what holds of each principal of a column holds of that of a key
pub only_at : (P : Principal → Type 0) (c l r : Column) (p : Principal) (k : Kind) → c ≡ l ++ (p, k) ∷ r
    → AllByRecursion (λ e. P e.0) c → P p
only_at P c l r p k is h = at_split (λ e. P e.0) c l (p, k) r is h

-- the test passes no key of `before`, and then this principal
pub record SplitsAt (m : Principal → Bool) (c : Column) (k : Kind) : Type 0 where
  pub before : Column
  pub principal : Principal
  pub after : Column
  pub is : c ≡ before ++ (principal, k) ∷ after
  pub none : first_kind m before ≡ None
  pub passes : m principal ≡ true

-- the first key that passes a test is at a place, and no key before it passes
pub splits_at : (m : Principal → Bool) (c : Column) (k : Kind) → first_kind m c ≡ Some k → SplitsAt m c k
splits_at m [] k h = cc
splits_at m ((p, j) ∷ c) k h = go (m p) refl (splits_at m c k)
  where
    go : (b : Bool) → m p ≡ b → (first_kind m c ≡ Some k → SplitsAt m c k) → SplitsAt m ((p, j) ∷ c) k
    go true e ih =
        let same : j ≡ k = grind arith in
        record { before = []; principal = p; after = c; is = ap (λ v. (p, v) ∷ c) same; none = refl; passes = e }
    go false e ih =
        let s = ih (grind arith) in
        record {
          before = (p, j) ∷ s.before;
          principal = s.principal;
          after = s.after;
          is = ap (λ v. (p, j) ∷ v)
              s.is;
          none = grind (arith, s.none);
          passes = s.passes;
        }

-- the first key that passes is the first of any narrower test that it passes
pub first_within : (m n : Principal → Bool) (c : Column) (k : Kind) (s : SplitsAt m c k) → n s.principal ≡ true
    → IsNarrower n m → first_kind n c ≡ Some k
first_within m n c k s h w =
    let none : first_kind n s.before ≡ None = none_within m n s.before s.none w in
    ap (first_kind n) s.is ∙ append_none n s.before _ none ∙ grind arith

-- all that pass the test overlap
abbrev pub IsClique : (Principal → Bool) → Type 0
IsClique m = (p q : Principal) → m p ≡ true → m q ≡ true → may_overlap p q ≡ true

-- of each two principals that m passes, the test of these two passes both, and only what m passes
pub record Narrows (test : Principal → Principal → Principal → Bool) (m : Principal → Bool) : Type 0 where
  pub within : (p q : Principal) → m p ≡ true → m q ≡ true → IsNarrower (test p q) m
  pub first : (p q : Principal) → test p q p ≡ true
  pub second : (p q : Principal) → test p q q ≡ true

-- for what follows from the first kind among the keys that a test lets pass
module _ {X : Type 0} (f : Option Kind → X) (test : Principal → Principal → Principal → Bool) (m : Principal → Bool)
    (n : Narrows test m) (P : Principal → Type 0) where
  -- the columns agree at each two of their principals that the test passes
  abbrev pub AgreeAtOwn : Column → Column → Type 0
  AgreeAtOwn c d = (p q : Principal) → P p → P q → m p ≡ true → m q ≡ true
      → f (first_kind (test p q) c) ≡ f (first_kind (test p q) d)

  -- columns that agree at their own pairs agree if only the first of them has a key that passes
  one_found : (c d : Column) (k : Kind) → HasOnly P c → AgreeAtOwn c d → first_kind m c ≡ Some k
      → first_kind m d ≡ None → f (first_kind m c) ≡ f (first_kind m d)
  one_found c d k only a h i =
      let s = splits_at m c k h in
      let p : Principal = s.principal in
      let w = n.within p p s.passes s.passes in
      let own = only_at P c s.before s.after p k s.is only in
      ap f (h ∙ sym (first_within m (test p p) c k s (n.first p p) w)) ∙ a p p own own s.passes s.passes
      ∙ ap f (none_within m (test p p) d i w ∙ sym i)

  -- columns that agree at their own pairs agree where the test does
  pub own_pairs_agree : (c d : Column) → HasOnly P c → HasOnly P d → AgreeAtOwn c d
      → f (first_kind m c) ≡ f (first_kind m d)
  own_pairs_agree c d oc od a = go (first_kind m c) (first_kind m d) refl refl
    where
      go : (x y : Option Kind) → first_kind m c ≡ x → first_kind m d ≡ y → f (first_kind m c) ≡ f (first_kind m d)
      go None None h i = ap f (h ∙ sym i)
      go (Some j) None h i = one_found c d j oc a h i
      go None (Some k) h i = sym (one_found d c k od (λ p q hp hq mp mq. sym (a p q hp hq mp mq)) i h)
      go (Some j) (Some k) h i =
          let s = splits_at m c j h in
          let t = splits_at m d k i in
          let w = n.within s.principal t.principal s.passes t.passes in
          ap f (h ∙ sym (first_within m (test s.principal t.principal) c j s (n.first s.principal t.principal) w))
          ∙ a s.principal t.principal (only_at P c s.before s.after s.principal j s.is oc)
          (only_at P d t.before t.after t.principal k t.is od) s.passes t.passes
          ∙ ap f (first_within m (test s.principal t.principal) d k t (n.second s.principal t.principal) w ∙ sym i)

-- principals that match in one situation overlap
pub clique_of : (s : Situation) → IsClique (matches s)
clique_of s p q h i = (overlap_is p q).1 (s, h, i)

-- alike columns have the same first kind among principals that all overlap
pub alike_agree : (m : Principal → Bool) (c d : Column) → IsClique m → IsAlike c d → first_kind m c ≡ first_kind m d
alike_agree m c d q a =
    own_pairs_agree (λ o. o) is_either m
    (record { within = λ p r h i. either_within m p r h i; first = either_first; second = either_second })
    (λ p. Unit {0}) c d (any c) (any d) (λ p r hp hr i j. a p r (q p r i j))
  where
    any : (c : Column) → HasOnly (λ p. Unit {0}) c
    any [] = tt
    any (e ∷ c) = (tt, any c)

-- the columns agree at each two overlapping principals with P, together with everyone
abbrev pub AgreeWhere : (Principal → Type 0) → Column → Column → Type 0
AgreeWhere P c d = (p q : Principal) → P p → P q → may_overlap p q ≡ true
    → verdict (is_either_or_everyone p q) c ≡ verdict (is_either_or_everyone p q) d

-- a principal that decides a column under a test: each narrower test that it passes finds the same
pub record Decider (P : Principal → Type 0) (m : Principal → Bool) (c : Column) : Type 0 where
  pub principal : Principal
  pub is : P principal
  pub passes : m principal ≡ true
  pub kept : (n : Principal → Bool) → n principal ≡ true → IsNarrower n m → first_kind n c ≡ first_kind m c

-- under a test that everyone passes, a principal of the column decides, or everyone
decider_of : (P : Principal → Type 0) (m : Principal → Bool) (c : Column) → P everyone → m everyone ≡ true → HasOnly P c
    → Decider P m c
decider_of P m c pe me only = go (first_kind m c) refl
  where
    go : (x : Option Kind) → first_kind m c ≡ x → Decider P m c
    go None h = record {
      principal = everyone;
      is = pe;
      passes = me;
      kept = λ n t w. none_within m n c h w ∙ sym h;
    }
    go (Some k) h =
        let s = splits_at m c k h in
        record {
          principal = s.principal;
          is = only_at P c s.before s.after s.principal k s.is only;
          passes = s.passes;
          kept = λ n t w. first_within m n c k s t w ∙ sym h;
        }

-- what relates the answers of two columns at each two overlapping principals with P, together with everyone, relates
-- their answers at every clique with everyone
pub cliques_relate : (R : Kind → Kind → Type 0) (P : Principal → Type 0) (m : Principal → Bool) (c d : Column)
    → IsClique m → m everyone ≡ true → P everyone → HasOnly P c → HasOnly P d
    → ((p q : Principal) → P p → P q → may_overlap p q ≡ true
    → R (verdict (is_either_or_everyone p q) c) (verdict (is_either_or_everyone p q) d)) → R (verdict m c) (verdict m d)
cliques_relate R P m c d clique me pe oc od related =
    let s = decider_of P m c pe me oc in
    let t = decider_of P m d pe me od in
    let p : Principal = s.principal in
    let q : Principal = t.principal in
    let w : IsNarrower (is_either_or_everyone p q) m =
    λ x. either_or_everyone_within m p q s.passes t.passes me x in
    subst (λ v. R (unwrap_or v Deny) (verdict m d)) (s.kept (is_either_or_everyone p q) (or_everyone_first p q) w)
    (subst (λ v. R (verdict (is_either_or_everyone p q) c) (unwrap_or v Deny))
    (t.kept (is_either_or_everyone p q) (or_everyone_second p q) w)
    (related p q s.is t.is (clique p q s.passes t.passes)))

-- columns that agree at each two overlapping principals agree at every clique with everyone
pub cliques_agree : (P : Principal → Type 0) (m : Principal → Bool) (c d : Column) → IsClique m → m everyone ≡ true
    → P everyone → HasOnly P c → HasOnly P d → AgreeWhere P c d → verdict m c ≡ verdict m d
cliques_agree = cliques_relate (λ k l. k ≡ l)
