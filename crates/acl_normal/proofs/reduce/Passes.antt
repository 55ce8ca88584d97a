-- Lists of the ACEs of the code, place by place, and where a key is free in two columns together.
use Rattle.std.proofs.Common.{Bool, List, [], length, refl, take, ℕ, ◌++◌, ◌+◌, ◌<◌, ◌∷◌, ◌≡◌}
use Rattle.acl_normal.proofs.Common.{AceRef, Column, ColumnKey, ace, aces_in, ap, arith, conflicts, conflicts_before, is_free, kind_eq, not, principal_eq, slice_index_or, sym, take_more, ◌&&◌, ◌||◌, ◌∙◌}
use Rattle.acl_perm.proofs.Bools.{and_true_right}

-- two lists of the code's ACEs together show both lists together
pub list_of-append : (xs ys : List AceRef) → aces_in (xs ++ ys) ≡ aces_in xs ++ aces_in ys
list_of-append [] ys = refl
list_of-append (x ∷ xs) ys = ap (λ v. ace x ∷ v) (list_of-append xs ys)

-- the ACEs up to a place are those before it and the one there
pub list_of-more : (xs : List AceRef) (x : AceRef) (i : ℕ) → i < length xs → x ≡ slice_index_or xs i x
    → aces_in (take (i + 1) xs) ≡ aces_in (take i xs) ++ ace x ∷ []
list_of-more xs x i lt is =
    ap aces_in (take_more xs i x lt)
    ∙ list_of-append (take i xs) (slice_index_or xs i x ∷ [])
    ∙ ap (λ y. aces_in (take i xs) ++ ace y ∷ []) (sym is)

-- ---- where a key is free

-- what `free-append` says of two columns, it says of them with one key more in front
free_parts : (s k f b g : Bool) → (s || (not k && (f || (g && not b))))
    ≡ ((s || (not k && f)) || (g && not (k || b)))
free_parts s k f b g = grind arith

-- a key is free in two columns if it is in the first, or in the second and nothing in the first conflicts
pub free-append : (e : ColumnKey) (l r : Column)
    → is_free (l ++ r) e ≡ (is_free l e || (is_free r e && not (conflicts_before l e)))
free-append e [] r = sym (and_true_right (is_free r e))
free-append e (f ∷ l) r =
    ap (λ b. (principal_eq f.0 e.0 && kind_eq f.1 e.1) || (not (conflicts f e) && b)) (free-append e l r)
    ∙ free_parts (principal_eq f.0 e.0 && kind_eq f.1 e.1) (conflicts f e) (is_free l e) (conflicts_before l e)
    (is_free r e)
