-- The keys at places that wait, and at the place of a principal's first ACE.
use Rattle.acl_normal.proofs.Common.{Ace, Bool, IsOnce, Kind, List, None, Option, Principal, Some, [], and_parts, ap, arith, column, counts, false, first_at, inl, inr, is_user, key_here, kind_eq, length, principal_eq, principal_of, refl, same_class, suc, sym, true, waits, zero, ℕ, ◌&&◌, ◌<◌, ◌∙◌, ◌∷◌, ◌≡◌, ◌⊎◌}
use Rattle.acl_normal.proofs.unique.Names.{kind_eq_same, principal_eq_itself, principal_eq_same}
use Rattle.acl_normal.proofs.rows.Slots.{class_same}
use Rattle.acl_normal.proofs.rows.FirstAces.{IsHere, IsThere, first_cases, none_behind, once_rest}

-- a place that waits is one of the list
pub waits_within : (k : Kind) (u : Bool) (b : ℕ) (xs : List Ace) (i : ℕ) → waits k u b xs i ≡ true → i < length xs
waits_within k u b [] i h = cc
waits_within k u b (a ∷ xs) zero h = omega arith
waits_within k u b (a ∷ xs) (suc i) h = omega (arith, waits_within k u b xs i h)

-- the key at a place is the first of its principal at the bit, and has the kind and the class
pub record KeyAt (k : Kind) (u : Bool) (b : ℕ) (xs : List Ace) (i : ℕ) : Type 0 where
  pub first : first_at b (key_here xs i).0 xs ≡ Some (k, i)
  pub class : is_user (key_here xs i).0 ≡ u
  pub kind : (key_here xs i).1 ≡ k

-- the key at a place that waits is the first of its principal, in a column with each principal once
pub key_at : (k : Kind) (u : Bool) (b : ℕ) (xs : List Ace) (i : ℕ) → IsOnce (column xs b) → waits k u b xs i ≡ true
    → KeyAt k u b xs i
key_at k u b [] i once w = cc
key_at k u b (a ∷ xs) zero once w =
    let both = and_parts (counts b a) (kind_eq a.kind k && same_class (is_user (principal_of a)) u) w in
    let rest = and_parts (kind_eq a.kind k) (same_class (is_user (principal_of a)) u) both.1 in
    let kind = kind_eq_same a.kind k rest.0 in
    record {
      first = rw (both.0, principal_eq_itself (principal_of a)) (ap (λ v. Some (v, 0)) kind);
      class = class_same (is_user (principal_of a)) u rest.1;
      kind = kind;
    }
key_at k u b (a ∷ xs) (suc i) once w =
    go (key_at k u b xs i (once_rest b a xs once) w)
    (counts b a && principal_eq (principal_of a) (key_here xs i).0) refl
  where
    go : KeyAt k u b xs i → (t : Bool) → (counts b a && principal_eq (principal_of a) (key_here xs i).0) ≡ t
        → KeyAt k u b (a ∷ xs) (suc i)
    go s false e = record { first = rw (e, s.first) refl; class = s.class; kind = s.kind }
    go s true e =
        let both = and_parts (counts b a) (principal_eq (principal_of a) (key_here xs i).0) e in
        let none =
        none_behind b (key_here xs i).0 a xs a.kind 0 once
        (record { counts = both.0; same = both.1; kind = refl; place = refl }) in
        absurd (clash (sym none ∙ s.first))
      where
        clash : ◌≡◌ {A = Option (Kind × ℕ)} None (Some (k, i)) → ⊥
        clash h = cc

-- the key at the place of a principal's first ACE has that principal and the kind of the ACE
pub key_from_first : (b : ℕ) (q : Principal) (xs : List Ace) (j : Kind) (i : ℕ) → first_at b q xs ≡ Some (j, i)
    → key_here xs i ≡ (q, j)
key_from_first b q [] j i h = cc
key_from_first b q (a ∷ xs) j i h = go (first_cases b q a xs j i h) (key_from_first b q xs j)
  where
    go : IsHere b q a j i ⊎ IsThere b q a xs j i
        → ((i : ℕ) → first_at b q xs ≡ Some (j, i) → key_here xs i ≡ (q, j)) → key_here (a ∷ xs) i ≡ (q, j)
    go (inl here) ih =
        rw here.place (ap (λ v. (v, a.kind)) (principal_eq_same (principal_of a) q here.same)
        ∙ ap (λ v. (q, v)) here.kind)
    go (inr there) ih = rw there.place (ih there.before there.first)
