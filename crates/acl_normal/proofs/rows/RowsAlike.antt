-- Lists of one outline name the same principals and have the same rows.
use Rattle.acl_normal.proofs.Common.{Ace, AreRowNumbers, ColumnKey, IfNone, IfSome, IsByPrincipal, IsRowOf, List, None, Option, Principal, Some, [], ap, arith, cond, false, is_le, is_lt, is_principal_of, key_here, length, nothing_left, principal_cmp, principal_eq, principal_of, refl, row_of, slice_index_or, subst, suc, sym, take_out, true, ℕ, ◌||◌, ◌∙◌, ◌∷◌, ◌≡◌}
use Rattle.acl_normal.proofs.unique.Outline.{key_alike, length_alike}

-- a list names a principal if and only if its outline does
pub named_outline : (p : Principal) (xs : List Ace) → is_principal_of p (nothing_left xs) ≡ is_principal_of p xs
named_outline p [] = refl
named_outline p (a ∷ xs) = ap (λ t. principal_eq (principal_of a) p || t) (named_outline p xs)

-- the row of a principal is the same in the outline of a list
pub row_outline : (p : Principal) (xs : List Ace) → row_of p (nothing_left xs) ≡ row_of p xs
row_outline p [] = refl
row_outline p (a ∷ xs) =
    ap (λ n. cond (is_lt (principal_cmp (principal_of a) p)) (suc n) n) (row_outline p xs)

-- lists of one outline name the same principals
pub named_alike : (p : Principal) (xs ys : List Ace) → nothing_left xs ≡ nothing_left ys
    → is_principal_of p xs ≡ is_principal_of p ys
named_alike p xs ys e = sym (named_outline p xs) ∙ ap (is_principal_of p) e ∙ named_outline p ys

-- lists of one outline give a principal the same row
pub row_alike : (p : Principal) (xs ys : List Ace) → nothing_left xs ≡ nothing_left ys → row_of p xs ≡ row_of p ys
row_alike p xs ys e = sym (row_outline p xs) ∙ ap (row_of p) e ∙ row_outline p ys

-- bits taken out keep the outline
pub outline_taken : (p : Principal) (m : ℕ) (xs : List Ace) → nothing_left (take_out p m xs) ≡ nothing_left xs
outline_taken p m [] = refl
outline_taken p m (a ∷ xs) = grind (arith, outline_taken p m xs)

-- lists of one outline have the same rows by place
pub rows_alike : (xs ys : List Ace) (rows : List ℕ) → nothing_left xs ≡ nothing_left ys → AreRowNumbers xs rows
    → AreRowNumbers ys rows
rows_alike xs ys rows e r = record {
  count = r.count ∙ length_alike xs ys e;
  at =
      λ i l. r.at i (omega (arith, l, length_alike xs ys e))
      ∙ ap (λ k. row_of k.0 xs) (key_alike xs ys i e)
      ∙ row_alike (key_here ys i).0 xs ys e;
}

-- lists of one outline have the same order of places
pub order_alike : (xs ys : List Ace) (order : List ℕ) → nothing_left xs ≡ nothing_left ys → IsByPrincipal xs order
    → IsByPrincipal ys order
order_alike xs ys order e o = record {
  count = o.count ∙ same;
  within = λ i l. omega (arith, o.within i (omega (arith, l, same)), same);
  rising =
      λ i j l below. subst (λ k. is_le (principal_cmp k (key_here ys (slice_index_or order j 0)).0) ≡ true) (at i)
      (subst (λ k. is_le (principal_cmp (key_here xs (slice_index_or order i 0)).0 k) ≡ true) (at j)
      (o.rising i j l (omega (arith, below, same))));
  first = λ p h. first p (sym (named_alike p ys xs (sym e)) ∙ h) (row_alike p xs ys e);
  whole = λ i l.
      let w = o.whole i (omega (arith, l, same)) in
      let row : row_of (key_here xs i).0 xs ≡ row_of (key_here ys i).0 ys =
      ap (λ k. row_of k.0 xs) (key_alike xs ys i e) ∙ row_alike (key_here ys i).0 xs ys e in
      (w.0, omega (arith, w.1, row), omega (arith, w.2, same), w.3);
}
  where
    same : length xs ≡ length ys
    same = length_alike xs ys e

    at : (i : ℕ) → (key_here xs (slice_index_or order i 0)).0 ≡ (key_here ys (slice_index_or order i 0)).0
    at i = ap (λ (k : ColumnKey). k.0) (key_alike xs ys (slice_index_or order i 0) e)

    first : (p : Principal) → is_principal_of p xs ≡ true → row_of p xs ≡ row_of p ys
        → (key_here ys (slice_index_or order (row_of p ys) 0)).0 ≡ p
    first p h r =
        ap (λ n. (key_here ys (slice_index_or order n 0)).0) (sym r) ∙ sym (at (row_of p xs)) ∙ o.first p h

-- the row of a named principal is its row in each list of the same outline
pub is_row_alike : (row : ℕ) (p : Principal) (xs ys : List Ace) → nothing_left xs ≡ nothing_left ys → IsRowOf row p xs
    → IsRowOf row p ys
is_row_alike row p xs ys e r = record {
  named = sym (named_alike p xs ys e) ∙ r.named;
  is = r.is ∙ row_alike p xs ys e;
}

-- a row that was found is that of the principal in each list of the same outline
pub found_row : (p : Principal) (xs ys : List Ace) (o : Option ℕ) → nothing_left xs ≡ nothing_left ys
    → IfSome o (λ row. IsRowOf row p xs) → IfSome o (λ row. IsRowOf row p ys)
found_row p xs ys None e h = h
found_row p xs ys (Some row) e h = is_row_alike row p xs ys e h

-- a principal that was not found is not named in a list of the same outline
pub missed_row : (p : Principal) (xs ys : List Ace) (o : Option ℕ) → nothing_left xs ≡ nothing_left ys
    → IfNone o (is_principal_of p xs ≡ false) → IfNone o (is_principal_of p ys ≡ false)
missed_row p xs ys None e h = sym (named_alike p xs ys e) ∙ h
missed_row p xs ys (Some row) e h = h
