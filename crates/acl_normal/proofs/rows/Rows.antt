-- Rows of principals: they are in the order of the principals.
use Rattle.acl_normal.proofs.Common.{Ace, Bool, Equal, Greater, Less, List, None, Ordering, Principal, [], ap, arith, false, first_at, is_lt, is_principal_of, key_here, length, or_cases, ordering_reverse, principal_cmp, principal_eq, principal_exact, principal_of, principal_order, refl, row_of, suc, take_out, true, zero, ℕ, ⊎_elim, ◌<◌, ◌∙◌, ◌∷◌, ◌≡◌, ◌≤◌}
use Rattle.acl_normal.proofs.unique.Names.{principal_eq_itself, principal_eq_same}
use Rattle.acl_perm.proofs.Orders.{is_less}

-- ---- who is named

-- whom the ACE at a place names is named
pub named_here : (xs : List Ace) (i : ℕ) → i < length xs → is_principal_of (key_here xs i).0 xs ≡ true
named_here [] i l = absurd (omega (arith, l))
named_here (a ∷ xs) zero l = grind (arith, principal_eq_itself (principal_of a))
named_here (a ∷ xs) (suc i) l = grind (arith, named_here xs i (omega (arith, l)))

-- a place at which a principal is named
pub record IsNamedAt (p : Principal) (xs : List Ace) : Type 0 where
  pub place : ℕ
  pub within : place < length xs
  pub is : (key_here xs place).0 ≡ p

-- who is named is named at a place
pub place_of_named : (p : Principal) (xs : List Ace) → is_principal_of p xs ≡ true → IsNamedAt p xs
place_of_named p [] h = cc
place_of_named p (a ∷ xs) h =
    ⊎_elim (λ e. record { place = 0; within = omega arith; is = principal_eq_same (principal_of a) p e })
    (λ e. behind (place_of_named p xs e)) (or_cases (principal_eq (principal_of a) p) (is_principal_of p xs) h)
  where
    behind : IsNamedAt p xs → IsNamedAt p (a ∷ xs)
    behind n = record { place = suc n.place; within = omega (arith, n.within); is = n.is }

-- a principal that is not named has no first ACE
pub unnamed_first : (b : ℕ) (p : Principal) (xs : List Ace) → is_principal_of p xs ≡ false → first_at b p xs ≡ None
unnamed_first b p [] h = refl
unnamed_first b p (a ∷ xs) h = grind (arith, unnamed_first b p xs)

-- no bits are taken out of a principal that is not named
pub unnamed_taken : (p : Principal) (m : ℕ) (xs : List Ace) → is_principal_of p xs ≡ false → take_out p m xs ≡ xs
unnamed_taken p m [] h = refl
unnamed_taken p m (a ∷ xs) h = grind (arith, unnamed_taken p m xs)

-- ---- the order of rows

-- one ACE more in front does not lower the row of a principal
row_step : (p : Principal) (a : Ace) (xs : List Ace) → row_of p xs ≤ row_of p (a ∷ xs)
row_step p a xs = grind arith

-- the row of a principal is at most the number of ACEs
pub row_within : (p : Principal) (xs : List Ace) → row_of p xs ≤ length xs
row_within p [] = omega arith
row_within p (a ∷ xs) = grind (arith, row_within p xs)

-- a principal is not below itself
pub not_below : (p : Principal) → is_lt (principal_cmp p p) ≡ false
not_below p = ap is_lt ((principal_order.equal p p).1 refl)

-- the row of who is named is below the number of ACEs
pub row_below : (p : Principal) (xs : List Ace) → is_principal_of p xs ≡ true → row_of p xs < length xs
row_below p [] h = cc
row_below p (a ∷ xs) h =
    grind (arith, row_below p xs, row_within p xs, principal_eq_same (principal_of a) p, not_below p)

-- a principal below the lower of two is below the higher
below_both : (s p q : Principal) → principal_cmp p q ≡ Less → is_lt (principal_cmp s p) ≡ true
    → is_lt (principal_cmp s q) ≡ true
below_both s p q l h = ap is_lt (principal_order.transitive s p q (is_less (principal_cmp s p) h) l)

-- the row of a lower principal is at most that of a higher one
pub row_rises : (p q : Principal) (xs : List Ace) → principal_cmp p q ≡ Less → row_of p xs ≤ row_of q xs
row_rises p q [] l = omega arith
row_rises p q (a ∷ xs) l = grind (arith, row_rises p q xs l, below_both (principal_of a) p q l)

-- the row of a lower principal that is named is below that of a higher one
pub row_less : (p q : Principal) (xs : List Ace) → is_principal_of p xs ≡ true → principal_cmp p q ≡ Less
    → row_of p xs < row_of q xs
row_less p q [] h l = cc
row_less p q (a ∷ xs) h l =
    ⊎_elim (λ e. here (principal_eq_same (principal_of a) p e)) (λ e. there (row_less p q xs e l))
    (or_cases (principal_eq (principal_of a) p) (is_principal_of p xs) h)
  where
    here : principal_of a ≡ p → row_of p (a ∷ xs) < row_of q (a ∷ xs)
    here e =
        let none : is_lt (principal_cmp (principal_of a) p) ≡ false =
        ap (λ v. is_lt (principal_cmp v p)) e ∙ not_below p in
        let one : is_lt (principal_cmp (principal_of a) q) ≡ true =
        ap (λ v. is_lt (principal_cmp v q)) e ∙ ap is_lt l in
        rw (none, one) (omega (arith, row_rises p q xs l))

    there : row_of p xs < row_of q xs → row_of p (a ∷ xs) < row_of q (a ∷ xs)
    there less = go (is_lt (principal_cmp (principal_of a) p)) refl
      where
        go : (t : Bool) → is_lt (principal_cmp (principal_of a) p) ≡ t → row_of p (a ∷ xs) < row_of q (a ∷ xs)
        go true e = rw (e, below_both (principal_of a) p q l e) (omega (arith, less))
        go false e =
            let more = row_step q a xs in
            rw e (omega (arith, less, more))

-- two principals that are named have different rows, unless they are equal
pub row_same : (p q : Principal) (xs : List Ace) → is_principal_of p xs ≡ true → is_principal_of q xs ≡ true
    → row_of p xs ≡ row_of q xs → p ≡ q
row_same p q xs h i same = go (principal_cmp p q) refl
  where
    go : (o : Ordering) → principal_cmp p q ≡ o → p ≡ q
    go Equal e = principal_exact p q e
    go Less e = absurd (omega (arith, row_less p q xs h e, same))
    go Greater e =
        absurd (omega (arith, row_less q p xs i (principal_order.reversed p q ∙ ap ordering_reverse e), same))

-- ---- masks
