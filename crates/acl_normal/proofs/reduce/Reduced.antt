-- The plain reduction of a column decides alike, and is settled.
use Rattle.acl_normal.proofs.Common.{[], Allow, and_parts, ap, arith, Bool, Column, default, Deny, everyone, false, first_kind, has_opposite, inl, inr, is_either, is_needed, IsOnce, Kind, kind_eq, may_overlap, needed_keys, None, not, Option, other_kind, or_cases, or_from, or_left, Principal, principal_eq, reduced, refl, Some, subst, sym, true, unshadowed, unwrap_or, verdict, ◌&&◌, ◌∙◌, ◌∷◌, ◌≡◌, ◌⊎◌, same_Some}
use Rattle.acl_normal.proofs.unique.Names.{principal_eq_same, either_first, either_within, kind_eq_same, kind_eq_itself}
use Rattle.acl_normal.proofs.unique.FirstKind.{IsClique, none_within}
use Rattle.acl_normal.proofs.unique.Irreducible.{IsClean}
use Rattle.acl_normal.proofs.unique.Free.{once_from_clean}
use Rattle.acl_normal.proofs.unique.Settled.{everyone_for, IsWitness, IsSettled}
use Rattle.acl_normal.proofs.reduce.Unshadowed.{same_unshadowed, unshadowed_clean}

-- a test that passes no key passes no needed key
none_needed : (m : Principal → Bool) (d : Kind) (c : Column) → first_kind m c ≡ None
    → first_kind m (needed_keys d c) ≡ None
none_needed m d [] h = refl
none_needed m d ((p, k) ∷ c) h = grind (arith, none_needed m d c)

-- the needed keys of a clean column are a clean column
needed_clean : (d : Kind) (c : Column) → IsClean c → IsClean (needed_keys d c)
needed_clean d [] h = tt
needed_clean d ((p, k) ∷ c) h = grind (arith, needed_clean d c h.2, h.1, none_needed (is_either p p) d c h.0)

-- a clean column without its first key has the same default, if the key is not everyone's
default_rest : (p : Principal) (k : Kind) (c : Column) → principal_eq p everyone ≡ false
    → default ((p, k) ∷ c) ≡ default c
default_rest p k c e = grind arith

-- if no key of another kind overlaps with a principal, whoever it matches gets the default
no_opposite : (m : Principal → Bool) (d : Kind) (p : Principal) (c : Column) → IsClique m → m everyone ≡ true
    → m p ≡ true → default c ≡ d → has_opposite d p c ≡ false → verdict m c ≡ d
no_opposite m d p c q e at h none = go (first_kind m c) refl
  where
    has : (c : Column) (k : Kind) → first_kind m c ≡ Some k → has_opposite d p c ≡ false → k ≡ d
    has [] k i none = cc
    has ((x, j) ∷ c) k i none = grind (arith, has c k, kind_eq_same, q p x at)

    go : (o : Option Kind) → first_kind m c ≡ o → verdict m c ≡ d
    go (Some k) i = ap (λ o. unwrap_or o Deny) i ∙ has c k i none
    go None i =
        let nobody = none_within m (is_either everyone everyone) c i (either_within m everyone everyone e e) in
        ap (λ o. unwrap_or o Deny) i ∙ sym (ap (λ o. unwrap_or o Deny) nobody) ∙ h

-- if the needed keys of a column decide as the column, they do with one key in front
needed_step : (m : Principal → Bool) (d : Kind) (p : Principal) (k : Kind) (c : Column) → m everyone ≡ true
    → (principal_eq p everyone ≡ true → c ≡ []) → default ((p, k) ∷ c) ≡ d
    → (default c ≡ d → verdict m (needed_keys d c) ≡ verdict m c)
    → (m p ≡ true → default c ≡ d → has_opposite d p c ≡ false → verdict m c ≡ d)
    → verdict m (needed_keys d ((p, k) ∷ c)) ≡ verdict m ((p, k) ∷ c)
needed_step m d p k c e last h rest none = grind (arith, principal_eq_same p everyone, kind_eq_same k d)

-- the keys that aren't needed decide nothing
same_needed : (m : Principal → Bool) (d : Kind) (c : Column) → IsClique m → m everyone ≡ true → IsClean c
    → default c ≡ d → verdict m (needed_keys d c) ≡ verdict m c
same_needed m d [] q e clean h = refl
same_needed m d ((p, k) ∷ c) q e clean h =
    needed_step m d p k c e clean.1 h (same_needed m d c q e clean.2) (no_opposite m d p c q e)

-- the needed keys of a clean column allow everyone by name if the default is to allow, and else lack everyone
needed_everyone_is : (d : Kind) (c : Column) → IsClean c → default c ≡ d
    → first_kind (is_either everyone everyone) (needed_keys d c) ≡ everyone_for d
needed_everyone_is d [] clean h = ap everyone_for h
needed_everyone_is d ((p, k) ∷ c) clean h = grind (arith, needed_everyone_is d c clean.2, clean.1)

-- in a clean column the key of a principal comes before that of everyone
everyone_last : (c : Column) (p : Principal) (k : Kind) → IsClean c → principal_eq p everyone ≡ false
    → first_kind (is_either p p) c ≡ Some k → first_kind (is_either p everyone) c ≡ Some k
everyone_last [] p k clean e h = cc
everyone_last ((x, j) ∷ c) p k clean e h = grind (arith, everyone_last c p k clean.2 e, clean.1)

-- another principal overlaps with p and has a key of the other kind, which is needed
pub record IsOther (d : Kind) (p : Principal) (c : Column) (q : Principal) : Type 0 where
  pub not_everyone : principal_eq q everyone ≡ false
  pub overlap : may_overlap p q ≡ true
  pub source : first_kind (is_either q q) c ≡ Some (other_kind d)
  pub kind : first_kind (is_either q q) (needed_keys d c) ≡ Some (other_kind d)

-- which needed key of two principals comes first is the same after a key of a third
kept_behind : (d : Kind) (p q x : Principal) (j : Kind) (c : Column) (i : Kind) → principal_eq x p ≡ false
    → principal_eq x q ≡ false → first_kind (is_either p q) (needed_keys d c) ≡ Some i
    → first_kind (is_either p q) (needed_keys d ((x, j) ∷ c)) ≡ Some i
kept_behind d p q x j c i e f h = grind arith

-- another principal with such a key still has it after a key of a third
other_behind : (d : Kind) (p : Principal) (c : Column) (q x : Principal) (j : Kind) → principal_eq x q ≡ false
    → IsOther d p c q → IsOther d p ((x, j) ∷ c) q
other_behind d p c q x j f h = record {
  not_everyone = h.not_everyone;
  overlap = h.overlap;
  source = rw skip
      h.source;
  kind = kept_behind d q q x j c (other_kind d) f f h.kind;
}
  where
    skip : is_either q q x ≡ false
    skip = or_from _ _ f f

-- a principal that a column lacks is not one that it has
lacked_apart : (x q : Principal) (c : Column) (k : Kind) → first_kind (is_either x x) c ≡ None
    → first_kind (is_either q q) c ≡ Some k → principal_eq x q ≡ false
lacked_apart x q c k none has = grind (arith, principal_eq_same x q)

-- the default kind does not differ from itself
not_default : (d j : Kind) → j ≡ d → not (kind_eq j d) ≡ true → ⊥
not_default d j same f = grind (arith, kind_eq_itself j)

-- a kind that is not the default is its opposite
opposite_kind : (d j : Kind) → not (kind_eq j d) ≡ true → j ≡ other_kind d
opposite_kind d j f = grind arith

-- if a clean column has an opposite key, a needed key of another principal is one
find_other : (d : Kind) (p : Principal) (c : Column) → IsClean c → default c ≡ d → has_opposite d p c ≡ true
    → (q : Principal) × IsOther d p c q
find_other d p [] clean h has = cc
find_other d p ((x, j) ∷ c) clean h has =
    go (principal_eq x everyone) refl (or_cases (may_overlap p x && not (kind_eq j d)) (has_opposite d p c) has)
    (find_other d p c clean.2)
  where
    go : (b : Bool) → principal_eq x everyone ≡ b
        → ((may_overlap p x && not (kind_eq j d)) ≡ true) ⊎ (has_opposite d p c ≡ true)
        → (default c ≡ d → has_opposite d p c ≡ true → (q : Principal) × IsOther d p c q)
        → (q : Principal) × IsOther d p ((x, j) ∷ c) q
    go true e (inl f) ih =
        let found : default ((x, j) ∷ c) ≡ j =
        rw (or_left (principal_eq x everyone) (principal_eq x everyone) e) refl in
        absurd (not_default d j (sym found ∙ h) (and_parts (may_overlap p x) (not (kind_eq j d)) f).1)
    go true e (inr f) ih =
        let nothing = ap (has_opposite d p) (clean.1 e) in
        absurd (cc)
    go false e (inl f) ih =
        let parts = and_parts (may_overlap p x) (not (kind_eq j d)) f in
        let kind : j ≡ other_kind d = opposite_kind d j parts.1 in
        let at : is_either x x x ≡ true = either_first x x in
        let stays : is_needed d x j c ≡ true = rw e (or_left (not (kind_eq j d)) (has_opposite d x c) parts.1) in (
          x,
          record {
            not_everyone = e;
            overlap = parts.0;
            source = rw at (ap Some kind);
            kind = rw stays
                (rw at (ap Some kind));
          },
        )
    go false e (inr f) ih = behind (ih (sym (default_rest x j c e) ∙ h) f)
      where
        behind : (q : Principal) × IsOther d p c q → (q : Principal) × IsOther d p ((x, j) ∷ c) q
        behind (q, o) = (q, other_behind d p c q x j (lacked_apart x q c (other_kind d) clean.0 o.source) o)

-- a needed key of a principal is needed without the key of another in front
kept_before : (d : Kind) (p x : Principal) (j : Kind) (c : Column) → principal_eq x p ≡ false
    → first_kind (is_either p p) (needed_keys d ((x, j) ∷ c)) ≡ Some d
    → first_kind (is_either p p) (needed_keys d c) ≡ Some d
kept_before d p x j c e h = grind arith

-- a key of the default kind that is needed has an opposite key after it
needs_opposite : (d : Kind) (p x : Principal) (j : Kind) (c : Column) → principal_eq x p ≡ true
    → principal_eq x everyone ≡ false → is_needed d x j c ≡ true
    → first_kind (is_either p p) (needed_keys d ((x, j) ∷ c)) ≡ Some d → has_opposite d x c ≡ true
needs_opposite d p x j c e f n h = grind (arith, kind_eq_itself d)

-- another principal overlaps with p, and of both keys the needed one of p is first
abbrev pub HasWitness : Kind → Principal → Column → Type 0
HasWitness d p c = (q : Principal) × IsOther d p c q × (first_kind (is_either p q) (needed_keys d c) ≡ Some d)

-- a needed key of the default kind at the front has a needed key of the other kind after it that overlaps
front_witness : (d : Kind) (p x : Principal) (j : Kind) (c : Column) → IsClean ((x, j) ∷ c)
    → default ((x, j) ∷ c) ≡ d → principal_eq p everyone ≡ false → principal_eq x p ≡ true → is_needed d x j c ≡ true
    → first_kind (is_either p p) (needed_keys d ((x, j) ∷ c)) ≡ Some d → HasWitness d p ((x, j) ∷ c)
front_witness d p x j c clean h ne e f has = here (find_other d p c clean.2 dc opp)
  where
    same : x ≡ p
    same = principal_eq_same x p e

    not_all : principal_eq x everyone ≡ false
    not_all = subst (λ v. principal_eq v everyone ≡ false) (sym same) ne

    dc : default c ≡ d
    dc = sym (default_rest x j c not_all) ∙ h

    at_x : is_either p p x ≡ true
    at_x = or_left (principal_eq x p) (principal_eq x p) e

    kind : j ≡ d
    kind =
        let step : first_kind (is_either p p) ((x, j) ∷ needed_keys d c) ≡ Some d = rw f at has in
        let step' : Some j ≡ Some d = rw at_x at step in
        same_Some _ _ step'

    opp : has_opposite d p c ≡ true
    opp = subst (λ v. has_opposite d v c ≡ true) same (needs_opposite d p x j c e not_all f has)

    here : (q : Principal) × IsOther d p c q → HasWitness d p ((x, j) ∷ c)
    here (q, o) = (
      q,
      other_behind d p c q x j (lacked_apart x q c (other_kind d) clean.0 o.source) o,
      rw f
          (rw (or_left (principal_eq x p) (principal_eq x q) e) (ap Some kind)),
    )

-- a needed key of the default kind has a needed key of the other kind after it that overlaps
find_witness : (d : Kind) (p : Principal) (c : Column) → IsClean c → default c ≡ d → principal_eq p everyone ≡ false
    → first_kind (is_either p p) (needed_keys d c) ≡ Some d → HasWitness d p c
find_witness d p [] clean h ne has = cc
find_witness d p ((x, j) ∷ c) clean h ne has =
    go (principal_eq x p) refl (is_needed d x j c) refl (find_witness d p c clean.2)
  where
    later : principal_eq x p ≡ false → HasWitness d p c → HasWitness d p ((x, j) ∷ c)
    later e (q, o, a) =
        let other : principal_eq x q ≡ false = lacked_apart x q c (other_kind d) clean.0 o.source in
        (q, other_behind d p c q x j other o, kept_behind d p q x j c d e other a)

    rest_default : first_kind (is_either p p) (needed_keys d c) ≡ Some d → (t : Bool) → principal_eq x everyone ≡ t
        → default c ≡ d
    rest_default i false g = sym (default_rest x j c g) ∙ h
    rest_default i true g =
        let nothing = ap (λ v. first_kind (is_either p p) (needed_keys d v)) (clean.1 g) in
        absurd (cc)

    go : (b : Bool) → principal_eq x p ≡ b → (t : Bool) → is_needed d x j c ≡ t
        → (default c ≡ d → principal_eq p everyone ≡ false → first_kind (is_either p p) (needed_keys d c) ≡ Some d
        → HasWitness d p c) → HasWitness d p ((x, j) ∷ c)
    go false e t f ih =
        let i = kept_before d p x j c e has in
        later e (ih (rest_default i (principal_eq x everyone) refl) ne i)
    go true e false f ih =
        let gone =
        none_needed (is_either p p) d c
        (subst (λ v. first_kind (is_either v v) c ≡ None) (principal_eq_same x p e) clean.0) in
        let still : first_kind (is_either p p) (needed_keys d c) ≡ Some d = rw f at has in
        absurd (cc)
    go true e true f ih = front_witness d p x j c clean h ne e f has

-- the needed keys of a clean column are settled
needed_settled : (d : Kind) (c : Column) → IsClean c → default c ≡ d → IsSettled (needed_keys d c) d
needed_settled d c clean h = record {
  everyone_is = needed_everyone_is d c clean h;
  needed = λ p ne has. witness p (find_witness d p c clean h ne has);
  deny_first = λ p has. deny p has (principal_eq p everyone) refl;
}
  where
    witness : (p : Principal)
        → (q : Principal) × IsOther d p c q × (first_kind (is_either p q) (needed_keys d c) ≡ Some d)
        → (q : Principal) × IsWitness (needed_keys d c) d p q
    witness p (q, o, a) = (q, record { not_everyone = o.not_everyone; overlap = o.overlap; kind = o.kind; after = a })

    no_deny : (e : Kind) → everyone_for e ≡ Some Deny → ⊥
    no_deny Deny i = cc
    no_deny Allow i = cc

    deny : (p : Principal) → first_kind (is_either p p) (needed_keys d c) ≡ Some Deny → (b : Bool)
        → principal_eq p everyone ≡ b → first_kind (is_either p everyone) (needed_keys d c) ≡ Some Deny
    deny p has false e = everyone_last (needed_keys d c) p Deny (needed_clean d c clean) e has
    deny p has true e =
        absurd (no_deny d (sym (needed_everyone_is d c clean h)
        ∙ subst (λ v. first_kind (is_either v v) (needed_keys d c) ≡ Some Deny) (principal_eq_same p everyone e)
        has))

-- a column decides as its reduction does
pub same_reduced : (m : Principal → Bool) (c : Column) → IsClique m → m everyone ≡ true
    → verdict m (reduced c) ≡ verdict m c
same_reduced m c q e =
    same_needed m (default (unshadowed [] c)) (unshadowed [] c) q e (unshadowed_clean [] c) refl
    ∙ ap (λ o. unwrap_or o Deny) (same_unshadowed m [] c e refl)

-- a reduced column is settled
pub reduced_settled : (c : Column) → IsSettled (reduced c) (default (unshadowed [] c))
reduced_settled c = needed_settled (default (unshadowed [] c)) (unshadowed [] c) (unshadowed_clean [] c) refl

-- a reduced column has each principal at most once
pub reduced_once : (c : Column) → IsOnce (reduced c)
reduced_once c =
    once_from_clean (reduced c) (needed_clean (default (unshadowed [] c)) (unshadowed [] c) (unshadowed_clean [] c))
