-- Rows of principals by counting.
use Rattle.acl_normal.proofs.Common.{Ace, AreRowNumbers, Bool, List, Principal, [], ap, arith, cond, everyone, false, get_or-map, is_lt, length, length-map, map, map-append, principal, principal_cmp, principal_of, refl, row_of, slice_index_or, suc, sym, take, take_more, true, ℕ, ◌++◌, ◌+◌, ◌<◌, ◌∙◌, ◌∷◌, ◌≡◌, no_ace, subst}
use Rattle.acl_normal.specs.declared.rows.heads.HeadedPrincipal.{HeadedPrincipal}
use Rattle.acl_normal.specs.internal.rows.LowerCounts.{count_below, headed_names}
use Rattle.acl_normal.proofs.rows.ByPlace.{key_at_index}

-- the principals up to a place are those before it and the one there
pub names_more : (hs : List HeadedPrincipal) (i : ℕ) (h : HeadedPrincipal) → i < length hs → h ≡ slice_index_or hs i h
    → headed_names (take (i + 1) hs) ≡ headed_names (take i hs) ++ principal h.principal ∷ []
names_more hs i h l is =
    ap headed_names (take_more hs i h l)
    ∙ map-append (λ (h : HeadedPrincipal). principal h.principal) (take i hs) (slice_index_or hs i h ∷ [])
    ∙ ap (λ (v : HeadedPrincipal). headed_names (take i hs) ++ principal v.principal ∷ []) (sym is)

-- one principal more is counted if it is below
pub count_push : (p : Principal) (qs : List Principal) (q : Principal)
    → count_below p (qs ++ q ∷ []) ≡ cond (is_lt (principal_cmp q p)) (count_below p qs + 1) (count_below p qs)
count_push p [] q = go (is_lt (principal_cmp q p))
  where
    go : (t : Bool) → cond t (suc 0) 0 ≡ cond t (0 + 1) 0
    go true = refl
    go false = refl
count_push p (r ∷ qs) q =
    ap (λ n. cond (is_lt (principal_cmp r p)) (suc n) n) (count_push p qs q)
    ∙ go (is_lt (principal_cmp r p)) (is_lt (principal_cmp q p)) (count_below p qs)
  where
    go : (s t : Bool) (n : ℕ) → cond s (suc (cond t (n + 1) n)) (cond t (n + 1) n)
        ≡ cond t (cond s (suc n) n + 1) (cond s (suc n) n)
    go true true n = grind arith
    go true false n = refl
    go false true n = refl
    go false false n = refl

-- the row of a principal is how many principals of the ACEs are below it
count_is_row : (p : Principal) (xs : List Ace) → count_below p (map principal_of xs) ≡ row_of p xs
count_is_row p [] = refl
count_is_row p (a ∷ xs) = ap (λ n. cond (is_lt (principal_cmp (principal_of a) p)) (suc n) n) (count_is_row p xs)

-- what is counted for each principal of a list are the rows by place
pub counted_numbers : (xs : List Ace) (names : List Principal) (rows : List ℕ) → names ≡ map principal_of xs
    → rows ≡ map (λ p. count_below p names) names → AreRowNumbers xs rows
counted_numbers xs names rows is counted = subst (AreRowNumbers xs) (sym whole) (record {
  count = length-map (map principal_of xs) count ∙ length-map xs principal_of;
  at = λ i l. get_or-map count (map principal_of xs) i everyone 0 (omega (arith, l, length-map xs principal_of))
      ∙ ap count (get_or-map principal_of xs i no_ace everyone l)
      ∙ count_is_row (principal_of (slice_index_or xs i no_ace)) xs
      ∙ sym (ap (λ k. row_of k.0 xs) (key_at_index xs i no_ace l));
})
  where
    count : Principal → ℕ
    count p = count_below p (map principal_of xs)

    whole : rows ≡ map count (map principal_of xs)
    whole = counted ∙ ap (λ v. map (λ p. count_below p v) v) is

-- with the next principal, those up to it are counted
pub counted_more : (hs : List HeadedPrincipal) (i : ℕ) (h : HeadedPrincipal) (p : Principal) (count new : ℕ) (t : Bool)
    → i < length hs → h ≡ slice_index_or hs i h → count ≡ count_below p (headed_names (take i hs))
    → is_lt (principal_cmp (principal h.principal) p) ≡ t → new ≡ cond t (count + 1) count
    → new ≡ count_below p (headed_names (take (i + 1) hs))
counted_more hs i h p count new t l is so less more =
    more
    ∙ ap (λ n. cond t (n + 1) n) so
    ∙ ap (λ u. cond u (count_below p (headed_names (take i hs)) + 1) (count_below p (headed_names (take i hs))))
    (sym less)
    ∙ sym (count_push p (headed_names (take i hs)) (principal h.principal))
    ∙ sym (ap (count_below p) (names_more hs i h l is))
