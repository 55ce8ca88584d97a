-- Irreducible columns that decide alike are alike.
use Rattle.acl_normal.proofs.Common.{ap, arith, Bool, Column, cond, Deny, everyone, false, first_kind, HasName, HaveNames, is_either, is_either_or_everyone, IsAlike, IsIrreducible, Kind, matches, may_overlap, None, Option, Principal, principal_eq, refl, SameVerdicts, Some, subst, sym, true, unwrap_or, verdict, without_principal, ◌++◌, ◌∙◌, ◌∷◌, ◌≡◌}
use Rattle.acl_normal.proofs.unique.Names.{principal_eq_same, either_first, either_second, either_within, overlaps_itself, overlaps_back, overlaps_everyone}
use Rattle.acl_normal.proofs.unique.FirstKind.{AgreeWhere, IsNarrower, SplitsAt, append_none, clique_of, cliques_agree, first_kind_same, first_within, none_within, only_at, splits_at}
use Rattle.acl_normal.proofs.unique.Realised.{pairs_from_situations}
use Rattle.acl_normal.proofs.unique.Irreducible.{allows_everyone, irreducible_clean, either_is, first_decides, first_kind_without, once_from_clean}
use Rattle.acl_normal.proofs.unique.Shorter.{names_without, without_key, without_other}
use Rattle.acl_normal.proofs.Each.{cond_holds}

-- a test that passes no key up to a principal finds what is after it
pub skip_to : (n : Principal → Bool) (l r : Column) (x : Principal) (k : Kind) → first_kind n l ≡ None → n x ≡ false
    → first_kind n (l ++ (x, k) ∷ r) ≡ first_kind n r
skip_to n l r x k none skip = append_none n l ((x, k) ∷ r) none ∙ rw skip refl

-- a test that passes the principal after none that it passes finds it
pub stop_at : (n : Principal → Bool) (l r : Column) (x : Principal) (k : Kind) → first_kind n l ≡ None → n x ≡ true
    → first_kind n (l ++ (x, k) ∷ r) ≡ Some k
stop_at n l r x k none at = append_none n l ((x, k) ∷ r) none ∙ rw at refl

-- a principal, or everyone in the place of x
abbrev off : Principal → Principal → Principal
off x p = cond (principal_eq x p) everyone p

-- two principals that overlap do so with everyone in the place of x
off_overlap : (x p q : Principal) → may_overlap p q ≡ true → may_overlap (off x p) (off x q) ≡ true
off_overlap x p q o = grind (arith, overlaps_everyone p)

-- for each principal but x, two principals and everyone are the same with everyone in the place of x
off_is : (x p q z : Principal) → principal_eq z x ≡ false
    → is_either_or_everyone p q z ≡ is_either_or_everyone (off x p) (off x q) z
off_is x p q z e = grind (arith, principal_eq_same x p, principal_eq_same x q)

-- two principals and everyone, with everyone in the place of x, are not x
off_misses : (x p q : Principal) → principal_eq x everyone ≡ false
    → is_either_or_everyone (off x p) (off x q) x ≡ false
off_misses x p q n = grind arith

-- if one of two columns that decide alike lacks a principal, the other decides alike without it
lost_agrees : (c d : Column) (x : Principal) → principal_eq x everyone ≡ false → AgreeWhere HasName c d
    → first_kind (is_either x x) d ≡ None → AgreeWhere HasName c (without_principal x c)
lost_agrees c d x n agree missing p q np nq o =
    let m = is_either_or_everyone (off x p) (off x q) in
    agree p q np nq o
    ∙ ap (λ o. unwrap_or o Deny) (first_kind_without (is_either_or_everyone p q) m x d missing (off_is x p q))
    ∙ sym (agree (off x p) (off x q) (cond_holds HasName (principal_eq x p) everyone p tt np)
    (cond_holds HasName (principal_eq x q) everyone q tt nq) (off_overlap x p q o))
    ∙ sym (ap (λ o. unwrap_or o Deny)
    (without_other (is_either_or_everyone p q) m x c (off_misses x p q n) (off_is x p q)))

-- if an irreducible column has a key of everyone, a column that decides alike has one
everyone_lost : (c d : Column) (k : Kind) → IsIrreducible c → AgreeWhere HasName c d
    → first_kind (is_either everyone everyone) c ≡ Some k → first_kind (is_either everyone everyone) d ≡ None → ⊥
everyone_lost c d k irr agree h i =
    let allow = allows_everyone c k irr h in
    let here = first_decides everyone everyone c k (irreducible_clean c irr) h in
    let there : verdict (is_either_or_everyone everyone everyone) d ≡ Deny = ap (λ o. unwrap_or o Deny)
    (first_kind_same _ (is_either everyone everyone) d (λ z. grind arith) ∙ i) in
    let same = agree everyone everyone tt tt refl in
    cc

-- if an irreducible column has a key of one of two principals, a column that decides alike has one
kind_present : (c d : Column) (p q : Principal) (k : Kind) → IsIrreducible c → HaveNames c → AgreeWhere HasName c d
    → first_kind (is_either p q) c ≡ Some k → first_kind (is_either p q) d ≡ None → ⊥
kind_present c d p q k irr names agree h i = go (splits_at (is_either p q) c k h)
  where
    go : SplitsAt (is_either p q) c k → ⊥
    go s = by (principal_eq x everyone) refl
      where
        x : Principal
        x = s.principal

        w : IsNarrower (is_either x x) (is_either p q)
        w = either_within (is_either p q) x x s.passes s.passes

        missing : first_kind (is_either x x) d ≡ None
        missing = none_within (is_either p q) (is_either x x) d i w

        by : (b : Bool) → principal_eq x everyone ≡ b → ⊥
        by true e =
            let is = principal_eq_same x everyone e in
            everyone_lost c d k irr agree (subst (λ v. first_kind (is_either v v) c ≡ Some k) is
            (first_within (is_either p q) (is_either x x) c k s (either_first x x) w))
            (subst (λ v. first_kind (is_either v v) d ≡ None) is missing)
        by false e = irr s.before (x, k) s.after s.is (λ v valid.
            cliques_agree HasName (matches v) c (without_principal x c) (clique_of v) refl tt names
            (names_without HasName x c names) (lost_agrees c d x e agree missing)
            ∙ ap (verdict (matches v))
            (without_key c s.before s.after x k (once_from_clean c (irreducible_clean c irr)) s.is))

-- each two of two principals that overlap do so
either_overlap : (p q : Principal) → may_overlap p q ≡ true → (x y : Principal) → is_either p q x ≡ true
    → is_either p q y ≡ true → may_overlap x y ≡ true
either_overlap p q o x y h i =
    grind (arith, overlaps_itself, overlaps_back p q o, either_is p q x h, either_is p q y i)

-- two irreducible columns that decide alike have the same keys, and those that conflict in the same order
pub decide_alike : (c d : Column) → IsIrreducible c → IsIrreducible d → HaveNames c → HaveNames d → SameVerdicts c d
    → IsAlike c d
decide_alike c d ic id nc nd same p q o = go (first_kind (is_either p q) c) (first_kind (is_either p q) d) refl refl
  where
    agree : AgreeWhere HasName c d
    agree p q np nq o = pairs_from_situations c d p q same np nq o

    back : AgreeWhere HasName d c
    back p q np nq o = sym (agree p q np nq o)

    go : (a b : Option Kind) → first_kind (is_either p q) c ≡ a → first_kind (is_either p q) d ≡ b
        → first_kind (is_either p q) c ≡ first_kind (is_either p q) d
    go None None h i = h ∙ sym i
    go (Some j) None h i = absurd (kind_present c d p q j ic nc agree h i)
    go None (Some k) h i = absurd (kind_present d c p q k id nd back i h)
    go (Some j) (Some k) h i =
        let s = splits_at (is_either p q) c j h in
        let t = splits_at (is_either p q) d k i in
        let x : Principal = s.principal in
        let y : Principal = t.principal in
        let w : IsNarrower (is_either x y) (is_either p q) = either_within (is_either p q) x y s.passes t.passes in
        let left =
        first_decides x y c j (irreducible_clean c ic)
        (first_within (is_either p q) (is_either x y) c j s (either_first x y) w) in
        let right =
        first_decides x y d k (irreducible_clean d id)
        (first_within (is_either p q) (is_either x y) d k t (either_second x y) w) in
        let nx : HasName x = only_at HasName c s.before s.after x j s.is nc in
        let ny : HasName y = only_at HasName d t.before t.after y k t.is nd in
        let over : may_overlap x y ≡ true = either_overlap p q o x y s.passes t.passes in
        let same_kind : j ≡ k = sym left ∙ agree x y nx ny over ∙ right in
        h ∙ ap Some same_kind ∙ sym i
