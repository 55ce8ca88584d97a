-- Settled columns, and that they are irreducible.
use Rattle.acl_normal.proofs.Common.{[], Allow, ap, arith, Bool, Column, Deny, everyone, false, false_from_ne_true, first_kind, HasName, HaveNames, inl, inr, is_either, is_either_or_everyone, IsIrreducible, IsOnce, Kind, may_overlap, None, Option, other_kind, Principal, principal_eq, refl, Some, subst, sym, true, unwrap_or, verdict, without_principal, ◌++◌, ◌||◌, ◌∙◌, ◌∷◌, ◌≡◌, ◌⊎◌, same_Some}
use Rattle.acl_normal.proofs.unique.Names.{principal_eq_same, overlaps_itself}
use Rattle.acl_normal.proofs.unique.FirstKind.{first_kind_same, only_at}
use Rattle.acl_normal.proofs.unique.Shorter.{without_key, without_other}
use Rattle.acl_normal.proofs.unique.Irreducible.{first_kind_without}
use Rattle.acl_normal.proofs.unique.SameOrder.{once_has, has_once}
use Rattle.acl_normal.proofs.unique.Realised.{pairs_from_situations}

-- everyone is allowed by name where the default is to allow
abbrev pub everyone_for : Kind → Option Kind
everyone_for Deny = None
everyone_for Allow = Some Allow

-- why a key of the default kind is needed: a key of the other kind that overlaps comes after it
pub record IsWitness (c : Column) (d : Kind) (p q : Principal) : Type 0 where
  pub not_everyone : principal_eq q everyone ≡ false
  pub overlap : may_overlap p q ≡ true
  pub kind : first_kind (is_either q q) c ≡ Some (other_kind d)
  pub after : first_kind (is_either p q) c ≡ Some d

-- the test of irreducibility, in terms of what comes first of two that overlap
pub record IsSettled (c : Column) (d : Kind) : Type 0 where
  pub everyone_is : first_kind (is_either everyone everyone) c ≡ everyone_for d
  pub needed : (p : Principal) → principal_eq p everyone ≡ false → first_kind (is_either p p) c ≡ Some d
      → (q : Principal) × IsWitness c d p q
  pub deny_first : (p : Principal) → first_kind (is_either p p) c ≡ Some Deny
      → first_kind (is_either p everyone) c ≡ Some Deny

-- where each of two tests finds an ALLOW first, so do both together
both_allow : (m n : Principal → Bool) (c : Column) → first_kind m c ≡ Some Allow → first_kind n c ≡ Some Allow
    → verdict (λ z. m z || n z) c ≡ Allow
both_allow m n [] h i = cc
both_allow m n ((x, k) ∷ c) h i = grind (arith, both_allow m n c)

-- if the first of two principals has the kind of the default, this kind decides with everyone
default_decides : (p q : Principal) (c : Column) (d : Kind) → first_kind (is_either p q) c ≡ Some d
    → first_kind (is_either everyone everyone) c ≡ everyone_for d → verdict (is_either_or_everyone p q) c ≡ d
default_decides p q c Deny h i = ap (λ o. unwrap_or o Deny) (first_kind_without (is_either_or_everyone p q)
    (is_either p q) everyone c i (λ z e. grind arith) ∙ h)
default_decides p q c Allow h i = ap (λ o. unwrap_or o Deny) (first_kind_same (is_either_or_everyone p q)
    (λ z. is_either p q z || is_either everyone everyone z) c (λ z. grind arith))
    ∙ both_allow (is_either p q) (is_either everyone everyone) c h i

-- a key of the other kind decides with everyone, since everyone comes after a denial
other_decides : (c : Column) (d : Kind) (q : Principal) → IsSettled c d
    → first_kind (is_either q q) c ≡ Some (other_kind d) → verdict (is_either_or_everyone q q) c ≡ other_kind d
other_decides c Allow q s h = ap (λ o. unwrap_or o Deny)
    (first_kind_same (is_either_or_everyone q q) (is_either q everyone) c (λ z. grind arith) ∙ s.deny_first q h)
other_decides c Deny q s h = ap (λ o. unwrap_or o Deny) (first_kind_without (is_either_or_everyone q q)
    (is_either q q) everyone c s.everyone_is (λ z e. grind arith) ∙ h)

-- without a principal, another and everyone decide alone
without_first : (p q : Principal) (c : Column) → principal_eq p everyone ≡ false → principal_eq p q ≡ false
    → verdict (is_either_or_everyone p q) (without_principal p c) ≡ verdict (is_either_or_everyone q q) c
without_first p q c n o = ap (λ o. unwrap_or o Deny) (without_other (is_either_or_everyone p q)
    (is_either_or_everyone q q) p c (grind arith) (λ z e. grind arith))

-- a column without a principal decides for the principal and everyone as everyone does
without_one : (p : Principal) (c : Column) → principal_eq p everyone ≡ false
    → verdict (is_either_or_everyone p p) (without_principal p c) ≡ verdict (is_either everyone everyone) c
without_one p c n = ap (λ o. unwrap_or o Deny) (without_other (is_either_or_everyone p p)
    (is_either everyone everyone) p c (grind arith) (λ z e. grind arith))

-- a column without everyone allows nobody by that name
without_everyone : (c : Column)
    → verdict (is_either_or_everyone everyone everyone) (without_principal everyone c) ≡ Deny
without_everyone [] = refl
without_everyone ((x, k) ∷ c) = grind (arith, without_everyone c)

-- a key of everyone allows
everyone_allows : (c : Column) (d k : Kind) → first_kind (is_either everyone everyone) c ≡ everyone_for d
    → first_kind (is_either everyone everyone) c ≡ Some k
    → verdict (is_either_or_everyone everyone everyone) c ≡ Deny → ⊥
everyone_allows c Deny k i h v = cc
everyone_allows c Allow k i h v = let allowed = default_decides everyone everyone c Allow i i in cc

-- the default of a settled column is the given kind
settled_default : (c : Column) (d : Kind) → IsSettled c d → verdict (is_either everyone everyone) c ≡ d
settled_default c d h = grind (arith, h.everyone_is)

-- a kind is equal to another or the other of it
pub two_kinds : (j k : Kind) → (j ≡ k) ⊎ (j ≡ other_kind k)
two_kinds j k = grind arith

-- no kind is its own other kind
kinds_clash : {P : Type 0} (k : Kind) → other_kind k ≡ k → P
kinds_clash k h = absurd (grind arith)

-- a settled column without repetition is irreducible
pub settled_irreducible : (c : Column) (d : Kind) → IsOnce c → HaveNames c → IsSettled c d → IsIrreducible c
settled_irreducible c d once names s l (p, k) r is same = go (principal_eq p everyone) refl (two_kinds k d)
  where
    at_p : first_kind (is_either p p) c ≡ Some k
    at_p = once_has c p k once (record { before = l; after = r; is = is })

    named : HasName p
    named = only_at HasName c l r p k is names

    agree : (q : Principal) → HasName q → may_overlap p q ≡ true
        → verdict (is_either_or_everyone p q) c ≡ verdict (is_either_or_everyone p q) (without_principal p c)
    agree q q_named over = pairs_from_situations c (l ++ r) p q same named q_named over
        ∙ ap (verdict (is_either_or_everyone p q)) (sym (without_key c l r p k once is))

    by_witness : principal_eq p everyone ≡ false → k ≡ d → (q : Principal) × IsWitness c d p q → ⊥
    by_witness e f (q, w) =
        let has = has_once c q (other_kind d) w.kind in
        let q_named = only_at HasName c has.before has.after q (other_kind d) has.is names in
        let apart : principal_eq p q ≡ false = false_from_ne_true _ (λ t. kinds_clash d (same_Some _ _ (sym w.kind
        ∙ ap (λ v. first_kind (is_either v v) c) (sym (principal_eq_same p q t)) ∙ at_p ∙ ap Some f))) in
        kinds_clash d (sym (other_decides c d q s w.kind) ∙ sym (without_first p q c e apart)
        ∙ sym (agree q q_named w.overlap) ∙ default_decides p q c d w.after s.everyone_is)

    go : (b : Bool) → principal_eq p everyone ≡ b → (k ≡ d) ⊎ (k ≡ other_kind d) → ⊥
    go true e f =
        let is_all = principal_eq_same p everyone e in
        everyone_allows c d k s.everyone_is (subst (λ v. first_kind (is_either v v) c ≡ Some k) is_all at_p)
        (subst (λ v. verdict (is_either_or_everyone v v) c ≡ verdict (is_either_or_everyone v v)
        (without_principal v c)) is_all (agree p named (overlaps_itself p)) ∙ without_everyone c)
    go false e (inl f) = by_witness e f (s.needed p e (at_p ∙ ap Some f))
    go false e (inr f) = kinds_clash d (sym (other_decides c d p s (at_p ∙ ap Some f))
        ∙ agree p named (overlaps_itself p) ∙ without_one p c e ∙ settled_default c d s)
