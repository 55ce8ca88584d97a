-- Where each right of a principal is: the place of its first ACE with the right.
use Rattle.acl_normal.proofs.Common.{Ace, AreRowNumbers, ColumnKey, IsByPrincipal, IsOnce, IsQuiet, IsRowOf, Kind, List, None, Option, Principal, Some, [], and_from, and_parts, ap, arith, cases_lt, column, counts, false, first_at, first_place_of, has_bit, is_le, is_user, key_here, kind_eq, length, mask_here, option_map, principal_cmp, principal_exact, principal_here, principal_of, principal_order, refl, row_of, same_Some, same_class, slice_index_or, subst, suc, sym, true, waits, zero, ℕ, ⊎_elim, ◌&&◌, ◌<◌, ◌∙◌, ◌∷◌, ◌≡◌, ◌≤◌}
use Rattle.acl_normal.proofs.rows.Rows.{named_here, row_same}
use Rattle.acl_normal.proofs.unique.Normal.{counts_mask}
use Rattle.acl_normal.proofs.unique.Bits.{no_bits_of_zero}
use Rattle.acl_normal.proofs.unique.Names.{kind_eq_itself}
use Rattle.acl_normal.proofs.rows.Slots.{same_class_itself}
use Rattle.acl_normal.proofs.rows.WaitingKeys.{key_at, key_from_first}
use Rattle.acl_normal.proofs.rows.FirstAces.{IsHere, IsThere, first_cases}

-- the first ACE of a principal with the bit has the kind of the ACE at its place
pub first_by_place : (b : ℕ) (p : Principal) (xs : List Ace) (i : ℕ) → first_place_of b p xs ≡ Some i
    → first_at b p xs ≡ Some ((key_here xs i).1, i)
first_by_place b p xs i h = go (first_at b p xs) refl
  where
    go : (o : Option (Kind × ℕ)) → first_at b p xs ≡ o → first_at b p xs ≡ Some ((key_here xs i).1, i)
    go None e = cc (rw e at h)
    go (Some (j, l)) e =
        let same : l ≡ i = same_Some l i (rw e at h) in
        let kind : (key_here xs l).1 ≡ j = ap (λ (k : ColumnKey). k.1) (key_from_first b p xs j l e) in
        e ∙ ap (λ v. Some (v, l)) (sym kind) ∙ ap (λ v. Some ((key_here xs v).1, v)) same

-- the place of a principal's first ACE is one of the list
pub first_in : (b : ℕ) (p : Principal) (xs : List Ace) (e : Kind × ℕ) → first_at b p xs ≡ Some e → e.1 < length xs
first_in b p [] e h = cc
first_in b p (a ∷ xs) (j, i) h = ⊎_elim
    (λ (here : IsHere b p a j i). omega (arith, here.place))
    (λ (there : IsThere b p a xs j i). omega (arith, there.place, first_in b p xs (j, there.before) there.first))
    (first_cases b p a xs j i h)

-- if there is no first place, there is no first ACE
pub first_by_none : (b : ℕ) (p : Principal) (xs : List Ace) → first_place_of b p xs ≡ None → first_at b p xs ≡ None
first_by_none b p xs h = grind arith

-- an ACE of a quiet list that has the bit waits in its kind and class
pub waits_here : (b : ℕ) (xs : List Ace) (i : ℕ) → IsQuiet xs → has_bit (mask_here xs i) b ≡ true
    → waits ((key_here xs i).1) (is_user ((key_here xs i).0)) b xs i ≡ true
waits_here b [] i quiet h = absurd (clash (sym h ∙ no_bits_of_zero b))
  where
    clash : true ≡ false → ⊥
    clash e = cc
waits_here b (a ∷ xs) zero quiet h =
    and_from (counts b a) (kind_eq a.kind a.kind && same_class (is_user (principal_of a)) (is_user (principal_of a)))
    (counts_mask b a quiet.0 ∙ h)
    (and_from (kind_eq a.kind a.kind) (same_class (is_user (principal_of a)) (is_user (principal_of a)))
    (kind_eq_itself a.kind) (same_class_itself (is_user (principal_of a))))
waits_here b (a ∷ xs) (suc i) quiet h = waits_here b xs i quiet.1 h

-- an ACE that has the bit is the first of its principal, in a column with each principal once
pub first_here : (b : ℕ) (xs : List Ace) (i : ℕ) → IsOnce (column xs b) → IsQuiet xs → has_bit (mask_here xs i) b ≡ true
    → i < length xs → first_place_of b (principal_here xs i) xs ≡ Some i
first_here b xs i once quiet has l =
    ap (option_map (λ (e : Kind × ℕ). e.1)) (key_at (key_here xs i).1 (is_user (key_here xs i).0) b xs i once
    (waits_here b xs i quiet has)).first

-- the first ACE of a principal with the bit has it
pub has_first : (b : ℕ) (p : Principal) (xs : List Ace) (j : Kind) (i : ℕ) → first_at b p xs ≡ Some (j, i)
    → has_bit (mask_here xs i) b ≡ true
has_first b p [] j i h = cc
has_first b p (a ∷ xs) j i h = ⊎_elim
    (λ (here : IsHere b p a j i). rw here.place ((and_parts (has_bit a.mask b) _ here.counts).0))
    (λ (there : IsThere b p a xs j i). rw there.place (has_first b p xs j there.before there.first))
    (first_cases b p a xs j i h)

-- the ACE at the first place of a principal names it
pub named_there : (b : ℕ) (p : Principal) (xs : List Ace) (i : ℕ) → first_place_of b p xs ≡ Some i
    → principal_here xs i ≡ p
named_there b p xs i h = ap (λ (k : ColumnKey). k.0) (key_from_first b p xs _ i (first_by_place b p xs i h))

-- ---- the places of a row, in the order of the principals

-- of two different principals not each is at most the other
both_le : (a b : Principal) → is_le (principal_cmp a b) ≡ true → is_le (principal_cmp b a) ≡ true → a ≡ b
both_le a b h l = grind (arith, principal_order.reversed a b, principal_exact a b)

-- each place between two of one principal, in the order, is of that principal
principal_between : (p : Principal) (xs : List Ace) (order : List ℕ) (i j k : ℕ) → IsByPrincipal xs order → i ≤ j
    → j ≤ k
    → k < length xs → principal_here xs (slice_index_or order i 0) ≡ p
    → principal_here xs (slice_index_or order k 0) ≡ p → principal_here xs (slice_index_or order j 0) ≡ p
principal_between p xs order i j k by from to l first last =
    both_le (principal_here xs (slice_index_or order j 0)) p
    (subst (λ v. is_le (principal_cmp (principal_here xs (slice_index_or order j 0)) v) ≡ true) last
    (by.rising j k to l))
    (subst (λ v. is_le (principal_cmp v (principal_here xs (slice_index_or order j 0))) ≡ true) first
    (by.rising i j from (omega (arith, to, l))))

-- none of the places from one to another has the bit
abbrev pub ArePassed : ℕ → List Ace → List ℕ → ℕ → ℕ → Type 0
ArePassed b xs order from to =
    (j : ℕ) → from ≤ j → j < to → has_bit (mask_here xs (slice_index_or order j 0)) b ≡ false

-- if no place of a row has the bit, the principal of the row has no ACE with it
pub row_passed : (b : ℕ) (xs : List Ace) (rows order : List ℕ) (row to : ℕ) (p : Principal) → AreRowNumbers xs rows
    → IsByPrincipal xs order → IsRowOf row p xs → row ≤ to → ArePassed b xs order row to
    → (to < length xs → slice_index_or rows (slice_index_or order to 0) 0 ≡ row → ⊥) → first_place_of b p xs ≡ None
row_passed b xs rows order row to p numbers by at from passed other = go (first_place_of b p xs) refl
  where
    go : (o : Option ℕ) → first_place_of b p xs ≡ o → first_place_of b p xs ≡ None
    go None e = e
    go (Some i) e =
        let first = first_by_place b p xs i e in
        let within : i < length xs = first_in b p xs _ first in
        let whose : principal_here xs i ≡ p = named_there b p xs i e in
        let w = by.whole i within in
        let begins : row ≤ w.0 = omega (arith, at.is, ap (λ v. row_of v xs) whose, w.1) in
        absurd (⊎_elim
        (λ l. clash (sym (has_first b p xs _ i first) ∙ ap (λ v. has_bit (mask_here xs v) b) (sym w.3)
        ∙ passed w.0 begins l))
        (λ l. let inside : to < length xs = omega (arith, l, w.2) in
        other inside (numbers.at (slice_index_or order to 0) (by.within to inside)
        ∙ ap (λ v. row_of v xs) (principal_between p xs order row to w.0 by from l w.2
        (ap (λ v. principal_here xs (slice_index_or order v 0)) at.is ∙ by.first p at.named)
        (ap (principal_here xs) w.3 ∙ whose))
        ∙ sym at.is)) (cases_lt w.0 to))
      where
        clash : true ≡ false → ⊥
        clash t = cc

-- a place of a row that has the bit is the first place of the row's principal with it
pub row_has : (b : ℕ) (xs : List Ace) (rows : List ℕ) (row i : ℕ) (p : Principal) → AreRowNumbers xs rows
    → IsRowOf row p xs → IsOnce (column xs b) → IsQuiet xs → i < length xs → slice_index_or rows i 0 ≡ row
    → has_bit (mask_here xs i) b ≡ true → first_place_of b p xs ≡ Some i
row_has b xs rows row i p numbers at once quiet l is has =
    let whose : principal_here xs i ≡ p =
    row_same (principal_here xs i) p xs (named_here xs i l) at.named (sym (numbers.at i l) ∙ is ∙ at.is) in
    subst (λ v. first_place_of b v xs ≡ Some i) whose (first_here b xs i once quiet has l)
