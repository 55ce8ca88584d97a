-- What one ACE more after a list adds to a column, to its unshadowed keys, and to the first ACEs of principals.
use Rattle.acl_normal.proofs.Common.{Ace, Bool, Column, ColumnKey, Kind, List, None, Option, Principal, Some, [], ace_key, add-one, ap, append-nil, append_assoc, arith, column, cond, counts, everyone, first_at, first_kind, is_either, is_none, is_some, length, not, principal_eq, principal_of, refl, slice_index_or, subst, suc, sym, take, take_more, true, unshadowed, zero, ℕ, ◌&&◌, ◌++◌, ◌<◌, ◌||◌, ◌∙◌, ◌∷◌, ◌≡◌}
use Rattle.acl_normal.proofs.unique.Names.{either_second}
use Rattle.acl_normal.proofs.unique.Columns.{column-append, column_first}
use Rattle.acl_normal.proofs.reduce.Unshadowed.{same_unshadowed}
use Rattle.acl_normal.proofs.rows.FirstAces.{none_cases}

-- ---- shadows

-- a column has one of two principals if and only if it has the first or the second
pub some_either : (p q : Principal) (c : Column)
    → is_some (first_kind (is_either p q) c)
    ≡ (is_some (first_kind (is_either p p) c) || is_some (first_kind (is_either q q) c))
some_either p q [] = refl
some_either p q ((s, j) ∷ c) = grind (arith, some_either p q c)

-- the test for none is the opposite of the test for some
pub none_is : (o : Option Kind) → is_none o ≡ not (is_some o)
none_is None = refl
none_is (Some k) = refl

-- an option that passes the test for none is none
pub none_from : (o : Option Kind) → is_none o ≡ true → o ≡ None
none_from None h = refl
none_from (Some k) h = cc

-- the column, and a key after it where none of the same principal or of everyone is in it
abbrev pub first_then : ColumnKey → Column → Column
first_then k c = cond (is_none (first_kind (is_either k.0 everyone) c)) (c ++ k ∷ []) c

-- one key more at the end is unshadowed if neither its principal nor everyone has a key before it
pub unshadowed_append : (before c : Column) (k : ColumnKey)
    → unshadowed before (c ++ k ∷ []) ≡ unshadowed before c
    ++ cond (is_none (first_kind (is_either k.0 everyone) (before ++ c))) (k ∷ []) []
unshadowed_append before [] (p, k) =
    ap (λ v. cond (is_none (first_kind (is_either p everyone) v)) ((p, k) ∷ []) []) (sym (append-nil before))
unshadowed_append before ((q, j) ∷ c) k =
    grind (arith, unshadowed_append (before ++ (q, j) ∷ []) c k, append_assoc before ((q, j) ∷ []) c)

-- the unshadowed keys with one key more at the end are those before, and that key if none of them shadows it
pub unshadowed_push : (c : Column) (k : ColumnKey) → unshadowed [] (c ++ k ∷ []) ≡ first_then k (unshadowed [] c)
unshadowed_push c k =
    unshadowed_append [] c k ∙ ap (λ o. unshadowed [] c ++ cond (is_none o) (k ∷ []) [])
    (sym (same_unshadowed (is_either k.0 everyone) [] c (either_second k.0 everyone) refl))
    ∙ grind (arith, append-nil (unshadowed [] c))

-- ---- one place more

-- an ACE that counts is the first of its principal if none before its place is
pub first_there : (b : ℕ) (p : Principal) (i : ℕ) (xs : List Ace) (a : Ace) → i < length xs → slice_index_or xs i a ≡ a
    → counts b a ≡ true → principal_eq (principal_of a) p ≡ true → first_at b p (take i xs) ≡ None
    → first_at b p xs ≡ Some (a.kind, i)
first_there b p i [] a l is has same none = absurd (omega (arith, l))
first_there b p zero (x ∷ xs) a l is has same none =
    subst (λ v. first_at b p (v ∷ xs) ≡ Some (a.kind, 0)) (sym is) (rw (has, same) refl)
first_there b p (suc i) (x ∷ xs) a l is has same none =
    let both = none_cases b p x (take i xs) none in
    let rest = first_there b p i xs a (omega (arith, l)) is has same both.1 in
    rw (both.0, rest) refl

-- the column up to a place is that before it, with the key of the ACE there if the ACE counts
pub column_more : (b i : ℕ) (xs : List Ace) (a : Ace) → i < length xs → slice_index_or xs i a ≡ a
    → column (take (suc i) xs) b ≡ column (take i xs) b ++ cond (counts b a) (ace_key a ∷ []) []
column_more b i xs a h is =
    ap (λ n. column (take n xs) b) (sym (add-one i)) ∙ ap (λ v. column v b) (take_more xs i a h)
    ∙ column-append b (take i xs) (slice_index_or xs i a ∷ []) ∙ ap (λ v. column (take i xs) b ++ column (v ∷ []) b)
    is ∙ ap (λ v. column (take i xs) b ++ v) (column_first b a [])

-- ---- keys that borrow their names

-- ---- one ACE after a list

-- the column of a list with one ACE more has its key at the end, if the ACE counts
pub column_push : (b : ℕ) (xs : List Ace) (a : Ace)
    → column (xs ++ a ∷ []) b ≡ column xs b ++ cond (counts b a) (ace_key a ∷ []) []
column_push b xs a = column-append b xs (a ∷ []) ∙ ap (λ v. column xs b ++ v) (column_first b a [])

-- the first ACE of a principal is the first with more ACEs after the list
pub first_front : (b : ℕ) (p : Principal) (xs ys : List Ace) (e : Kind × ℕ) → first_at b p xs ≡ Some e
    → first_at b p (xs ++ ys) ≡ Some e
first_front b p [] ys e h = cc
first_front b p (x ∷ xs) ys e h = grind (arith, first_front b p xs ys)

-- if a list has no ACE of a principal with the bit, one ACE more is the first if it is such an ACE
pub first_behind : (b : ℕ) (p : Principal) (xs : List Ace) (a : Ace) → first_at b p xs ≡ None
    → first_at b p (xs ++ a ∷ [])
    ≡ cond (counts b a && principal_eq (principal_of a) p) (Some (a.kind, length xs)) None
first_behind b p [] a h = refl
first_behind b p (x ∷ xs) a h =
    let both = none_cases b p x xs h in
    grind (arith, both.0, first_behind b p xs a both.1)

-- a test finds a key with one more at the end if it finds one before, or if it passes that one
pub some_push : (m : Principal → Bool) (c : Column) (k : ColumnKey) (t : Bool)
    → is_some (first_kind m (c ++ cond t (k ∷ []) [])) ≡ (is_some (first_kind m c) || (t && m k.0))
some_push m [] k t = grind arith
some_push m ((q, j) ∷ c) k t = grind (arith, some_push m c k t)
