-- The first ACE of a principal with a bit.
use Rattle.acl_normal.proofs.Common.{Ace, Bool, IsOnce, Kind, List, None, Option, Principal, Some, [], all_rights, and_parts, ap, arith, column, counts, false, first_at, first_kind, has_bit, inl, inr, is_either, is_user, kind_eq, principal_eq, principal_of, refl, same_class, subst, suc, sym, true, waits, ℕ, ⊎_elim, ◌&&◌, ◌∙◌, ◌∷◌, ◌≡◌, ◌⊎◌}
use Rattle.acl_normal.proofs.unique.Names.{principal_eq_same}
use Rattle.acl_normal.proofs.unique.Columns.{column_first}
use Rattle.acl_normal.proofs.rows.PairParts.{some_pair}

-- the first ACE of the list is the principal's first with the bit
pub record IsHere (b : ℕ) (p : Principal) (a : Ace) (j : Kind) (i : ℕ) : Type 0 where
  pub counts : counts b a ≡ true
  pub same : principal_eq (principal_of a) p ≡ true
  pub kind : a.kind ≡ j
  pub place : i ≡ 0

-- the principal's first ACE with the bit is after the first of the list
pub record IsThere (b : ℕ) (p : Principal) (a : Ace) (xs : List Ace) (j : Kind) (i : ℕ) : Type 0 where
  pub before : ℕ
  pub place : i ≡ suc before
  pub first : first_at b p xs ≡ Some (j, before)
  pub other : (counts b a && principal_eq (principal_of a) p) ≡ false

-- the principal's first ACE with the bit is the first of the list or after it
pub first_cases : (b : ℕ) (p : Principal) (a : Ace) (xs : List Ace) (j : Kind) (i : ℕ)
    → first_at b p (a ∷ xs) ≡ Some (j, i) → IsHere b p a j i ⊎ IsThere b p a xs j i
first_cases b p a xs j i h = go (counts b a && principal_eq (principal_of a) p) refl (first_at b p xs) refl
  where
    go : (t : Bool) → (counts b a && principal_eq (principal_of a) p) ≡ t → (o : Option (Kind × ℕ))
        → first_at b p xs ≡ o → IsHere b p a j i ⊎ IsThere b p a xs j i
    go true e o g =
        let both = and_parts (counts b a) (principal_eq (principal_of a) p) e in
        let is = some_pair a.kind j 0 i (rw e at h) in
        inl (record { counts = both.0; same = both.1; kind = is.0; place = sym is.1 })
    go false e None g = cc (rw (e, g) at h)
    go false e (Some (l, k)) g =
        let is = some_pair l j (suc k) i (rw (e, g) at h) in
        let kind : l ≡ j = is.0 in
        inr (record { before = k; place = sym is.1; first = g ∙ ap (λ v. Some (v, k)) kind; other = e })

-- if a list has no ACE of a principal with the bit, neither its first nor the rest has one
pub none_cases : (b : ℕ) (p : Principal) (a : Ace) (xs : List Ace) → first_at b p (a ∷ xs) ≡ None
    → ((counts b a && principal_eq (principal_of a) p) ≡ false) × (first_at b p xs ≡ None)
none_cases b p a xs h = (grind arith, grind arith)

-- a principal that the column lacks has no first ACE with the bit
pub absent_first : (b : ℕ) (p : Principal) (xs : List Ace) → first_kind (is_either p p) (column xs b) ≡ None
    → first_at b p xs ≡ None
absent_first b p [] h = refl
absent_first b p (a ∷ xs) h = grind (arith, absent_first b p xs, column_first b a xs)

-- the column of the rest of a list has no repetition, if that of the list has none
pub once_rest : (b : ℕ) (a : Ace) (xs : List Ace) → IsOnce (column (a ∷ xs) b) → IsOnce (column xs b)
once_rest b a xs h = grind (arith, column_first b a xs)

-- after the first ACE of a principal, the column has no other key of the principal
pub none_column : (b : ℕ) (p : Principal) (a : Ace) (xs : List Ace) (j : Kind) (i : ℕ) → IsOnce (column (a ∷ xs) b)
    → IsHere b p a j i → first_kind (is_either p p) (column xs b) ≡ None
none_column b p a xs j i once here =
    let all : IsOnce ((principal_of a, a.kind) ∷ column xs b) = rw here.counts at once in
    subst (λ v. first_kind (is_either v v) (column xs b) ≡ None) (principal_eq_same (principal_of a) p here.same) all.0

-- after the first ACE of a principal there is none of the principal with the bit
pub none_behind : (b : ℕ) (p : Principal) (a : Ace) (xs : List Ace) (j : Kind) (i : ℕ) → IsOnce (column (a ∷ xs) b)
    → IsHere b p a j i → first_at b p xs ≡ None
none_behind b p a xs j i once here = absent_first b p xs (none_column b p a xs j i once here)

-- the first ACE of a principal waits just in its kind and its class
pub waits_first : (k : Kind) (u : Bool) (b : ℕ) (p : Principal) (xs : List Ace) (j : Kind) (i : ℕ)
    → first_at b p xs ≡ Some (j, i) → waits k u b xs i ≡ (kind_eq j k && same_class (is_user p) u)
waits_first k u b p [] j i f = cc
waits_first k u b p (a ∷ xs) j i f = ⊎_elim
    (λ (here : IsHere b p a j i).
    rw (here.place, here.counts, here.kind, principal_eq_same (principal_of a) p here.same) refl)
    (λ (there : IsThere b p a xs j i). rw there.place (waits_first k u b p xs j there.before there.first))
    (first_cases b p a xs j i f)

-- the kind of the first ACE, if there is one
abbrev pub kind_in : Option (Kind × ℕ) → Option Kind
kind_in None = None
kind_in (Some e) = Some e.0

-- the first key of a principal has the kind that the column gives
pub kind_first : (b : ℕ) (p : Principal) (xs : List Ace)
    → first_kind (is_either p p) (column xs b) ≡ kind_in (first_at b p xs)
kind_first b p [] = refl
kind_first b p (a ∷ xs) = grind (arith, kind_first b p xs, column_first b a xs)

-- a bit that an ACE has is a right, where the columns of other bits are empty
pub right_there : (b : ℕ) (p : Principal) (xs : List Ace) (e : Kind × ℕ) → first_at b p xs ≡ Some e
    → (has_bit all_rights b ≡ false → column xs b ≡ []) → has_bit all_rights b ≡ true
right_there b p xs e there rights = grind (arith, kind_first b p xs)
