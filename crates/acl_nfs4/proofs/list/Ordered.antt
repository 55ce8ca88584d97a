-- The order of lists: by their numbers of ACEs, and then by the bytes of their ACEs.
use Rattle.acl_nfs4.proofs.Common.{[], aces_of, ap, arith, flat_map, IsOwned, length, List, list_cmp, piece, refl, spelling, sym, word, ℕ, ◌++◌, ◌∙◌, ◌∷◌, ◌≡◌}
use Rattle.std.specs.Cmp.Lexicographic.{slice_cmp}
use Rattle.std.specs.Ordering.{nat_cmp, ordering_then}
use Rattle.std.specs.declared.cmp.Ordering.{Ordering}
use Rattle.std.specs.declared.cmp.Ordering.TheVariants.{Less, Equal, Greater}

-- comparisons one after the other may be grouped in either way
then_then : (o p q : Ordering) → ordering_then o (ordering_then p q) ≡ ordering_then (ordering_then o p) q
then_then Less p q = refl
then_then Equal p q = refl
then_then Greater p q = refl

-- if two texts begin with fronts of one length, the fronts are compared first, and then what is after them
fronts_first : (a b x y : List ℕ) → length a ≡ length b
    → slice_cmp nat_cmp (a ++ x) (b ++ y) ≡ ordering_then (slice_cmp nat_cmp a b) (slice_cmp nat_cmp x y)
fronts_first [] [] x y e = refl
fronts_first [] (d ∷ b) x y e = absurd (omega (arith, e))
fronts_first (c ∷ a) [] x y e = absurd (omega (arith, e))
fronts_first (c ∷ a) (d ∷ b) x y e = ap (ordering_then (nat_cmp c d)) (fronts_first a b x y (omega (arith, e)))
    ∙ then_then (nat_cmp c d) (slice_cmp nat_cmp a b) (slice_cmp nat_cmp x y)

-- an owned list is spelled by the word of its number of ACEs and its body
spelling-aces_of : (count total : ℕ) (body : List ℕ) → IsOwned count total body
    → spelling (aces_of count body) ≡ word count ++ body
spelling-aces_of count total body is = ap (λ (n : ℕ). word n ++ flat_map piece (aces_of count body)) is.spells.whole
    ∙ ap (λ (b : List ℕ). word count ++ b) (sym is.spells.spells.spelled)

-- owned lists are ordered by their fields
pub list_cmp_of_owned : (m n v w : ℕ) (x y : List ℕ) → IsOwned m v x → IsOwned n w y
    → ordering_then (slice_cmp nat_cmp (word m) (word n)) (slice_cmp nat_cmp x y) ≡ list_cmp (aces_of m x) (aces_of n y)
list_cmp_of_owned m n v w x y is too = sym (fronts_first (word m) (word n) x y refl)
    ∙ λ i. slice_cmp nat_cmp (sym (spelling-aces_of m v x is) i) (sym (spelling-aces_of n w y too) i)
