-- The rights of a mask, one after the other.
use Rattle.std.proofs.Common.{◌≡◌, ℕ, zero, suc, ◌+◌, ◌<◌, ◌≤◌, Bool, true, false, cond, List, [], ◌∷◌, refl, sym, ap, subst, ◌∙◌, arith, inl, inr}
use Rattle.std.proofs.lemmas.Bool.{cases_lt, true≢false}
use Rattle.std.specs.Prelude.{filter}
use Rattle.std.specs.List.{AllByRecursion, range_with_len}
use Rattle.acl_perm.proofs.Sets.{bits_from_mask, right_below}
use Rattle.acl_perm.specs.Bits.{IsMask, has_bit, rights_of}

-- what is left by a test passes it
filter_passes : (p : ℕ → Bool) (xs : List ℕ) → AllByRecursion (λ x. p x ≡ true) (filter p xs)
filter_passes p [] = tt
filter_passes p (x ∷ xs) = by (p x) refl (filter_passes p xs)
  where
    by : (b : Bool) → p x ≡ b → AllByRecursion (λ y. p y ≡ true) (filter p xs)
        → AllByRecursion (λ y. p y ≡ true) (cond b (x ∷ filter p xs) (filter p xs))
    by true passes rest = (passes, rest)
    by false passes rest = rest

-- what holds of all numbers of a range that pass a test holds of each
filter_has : (p : ℕ → Bool) (Q : ℕ → Type 0) (low n k : ℕ) → AllByRecursion Q (filter p (range_with_len low n))
    → low ≤ k → k < low + n → p k ≡ true → Q k
filter_has p Q low zero k each above below is = absurd (omega (arith, above, below))
filter_has p Q low (suc n) k each above below is = by (p low) refl each
    (λ all later. filter_has p Q (low + 1) n k all later (omega (arith, below)) is)
  where
    more : List ℕ
    more = filter p (range_with_len (low + 1) n)

    by : (b : Bool) → p low ≡ b → AllByRecursion Q (cond b (low ∷ more) more)
        → (AllByRecursion Q more → low + 1 ≤ k → Q k) → Q k
    by true passes all rest = elim (cases_lt low k) [
      | inl later ↦ rest all.1 (omega (arith, later))
      | inr first ↦ let same : low ≡ k = omega (arith, above, first) in subst Q same all.0
    ]
    by false passes all rest = elim (cases_lt low k) [
      | inl later ↦ rest all (omega (arith, later))
      | inr first ↦
          let same : k ≡ low = omega (arith, above, first) in
          absurd (true≢false (sym is ∙ ap p same ∙ passes))
    ]

-- a mask has each of its rights
pub rights_are : (mask : ℕ) → AllByRecursion (λ bit. has_bit mask bit ≡ true) (rights_of mask)
rights_are mask = filter_passes (has_bit mask) (range_with_len 0 21)

-- what holds of all rights of a mask holds of each that it has
pub rights_have : (mask : ℕ) (Q : ℕ → Type 0) → IsMask mask → AllByRecursion Q (rights_of mask) → (bit : ℕ)
    → has_bit mask bit ≡ true → Q bit
rights_have mask Q within each bit has =
    filter_has (has_bit mask) Q 0 21 bit each (omega arith) (right_below bit (bits_from_mask mask bit within has)) has
