-- How many elements of a list pass a test, and that those that pass end there if they come first.
use Rattle.acl_normal.proofs.Common.{Bool, List, [], ap, arith, cond, false, false_from_ne_true, length, refl, slice_index_or, suc, sym, true, zero, ℕ, ◌+◌, ◌<◌, ◌∙◌, ◌∷◌, ◌≡◌, ◌≤◌}
use Rattle.std.specs.List.Sorted.{IsPartitionPoint, IsPartitionedBy, IsPermutation}
use Rattle.std.proofs.lemmas.List.Recursion.{is_count_by}
use Rattle.std.proofs.lemmas.List.Sorted.{sum_by-IsPermutation}

-- for a test of elements
module _ {X : Type 0} (t : X → Bool) where
  -- how many elements pass
  abbrev pub count : List X → ℕ
  count [] = 0
  count (x ∷ xs) = cond (t x) (suc (count xs)) (count xs)

  -- a list in another order has as many elements that pass
  pub count_permuted : (xs ys : List X) → IsPermutation xs ys → count ys ≡ count xs
  count_permuted xs ys p =
      is_count_by count t refl step ys ∙ sum_by-IsPermutation (λ x. cond (t x) 1 0) xs ys p
      ∙ sym (is_count_by count t refl step xs)
    where
      step : (x : X) (xs : List X) → count (x ∷ xs) ≡ cond (t x) (1 + count xs) (count xs)
      step x xs = ap (λ n. cond (t x) n (count xs)) (omega arith)

  -- if no element passes, the number is zero
  count_none : (xs : List X) → ((k : ℕ) (d : X) → k < length xs → t (slice_index_or xs k d) ≡ false) → count xs ≡ 0
  count_none [] h = refl
  count_none (x ∷ xs) h = rw (h 0 x (omega arith)) (count_none xs (λ k d l. h (suc k) d (omega (arith, l))))

  -- if the elements that pass come first, their number is where the others begin
  pub count_parts : (xs : List X) → IsPartitionedBy t xs
      → IsPartitionPoint (λ x. t x ≡ true) (λ x. t x ≡ false) xs (count xs)
  count_parts [] h = (λ k d l u. absurd (omega (arith, l, u)), λ k d l u. absurd (omega (arith, l, u)))
  count_parts (x ∷ xs) h = go (t x) refl (count_parts xs rest)
    where
      rest : IsPartitionedBy t xs
      rest i j d le l e = h (suc i) (suc j) d (omega (arith, le)) (omega (arith, l)) e

      Parts : ℕ → Type 0
      Parts = IsPartitionPoint (λ x. t x ≡ true) (λ x. t x ≡ false) (x ∷ xs)

      go : (b : Bool) → t x ≡ b → IsPartitionPoint (λ x. t x ≡ true) (λ x. t x ≡ false) xs (count xs)
          → Parts (cond b (suc (count xs)) (count xs))
      go true e point = (low, high)
        where
          low : (k : ℕ) (d : X) → 0 ≤ k → k < suc (count xs) → t (slice_index_or (x ∷ xs) k d) ≡ true
          low zero d l u = e
          low (suc k) d l u = point.0 k d (omega arith) (omega (arith, u))

          high : (k : ℕ) (d : X) → suc (count xs) ≤ k → k < length (x ∷ xs)
              → t (slice_index_or (x ∷ xs) k d) ≡ false
          high zero d l u = absurd (omega (arith, l))
          high (suc k) d l u = point.1 k d (omega (arith, l)) (omega (arith, u))
      go false e point = (λ k d l u. absurd (omega (arith, u, none)), λ k d l u. fails k d u)
        where
          fails : (k : ℕ) (d : X) → k < length (x ∷ xs) → t (slice_index_or (x ∷ xs) k d) ≡ false
          fails k d l =
              false_from_ne_true (t (slice_index_or (x ∷ xs) k d))
              (λ u. let first : t x ≡ true = h 0 k d (omega arith) l u in cc)

          none : count xs ≡ 0
          none = count_none xs (λ k d l. fails (suc k) d (omega (arith, l)))
