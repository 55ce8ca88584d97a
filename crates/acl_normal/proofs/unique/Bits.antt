-- Single bits of a mask.
use Rattle.acl_normal.proofs.Common.{ap, arith, bit_and, bit_at, bit_at-lt, bit_at-zero, cases_eq, cases_lt, eqb-false, false, has_bit, has_bit-without, inl, inr, IsDifference, ne_eqb, refl, suc, sym, true, without, zero, ℕ, ⊎_elim, ◌<◌, ◌==◌, ◌^◌, ◌∙◌, ◌≡◌, ◌≢◌, ◌≤◌, ◌⊎◌, all_rights, false_from_ne_true, Bool, eq-eqb, only_bit, one_bit}
use Rattle.std.proofs.lemmas.Nat.Bits.{bit_at_xor, bit_at_and, bit_at-pow_same, bit_at-pow_other, same_from_bits}
-- sets with the same bits are equal, 0 has no bit, and a right is one of the first 21 bits
pub use Rattle.acl_perm.proofs.Sets.{same_set as masks_same, no_bit as no_bits_of_zero, right_below as below}

-- without a bit, a set does not have it
pub bit_cleared : (m b : ℕ) → has_bit (without m (2 ^ b)) b ≡ false
bit_cleared m b =
    let small = bit_at-lt m b in
    ne_eqb _ _ (λ e. absurd (omega (
      arith,
      e,
      bit_at_xor m (bit_and m (2 ^ b)) b,
      bit_at_and m (2 ^ b) b,
      bit_at-pow_same b,
    )))

-- without a bit, a set has each other bit that it had
pub bit_kept : (m b i : ℕ) → i ≢ b → has_bit (without m (2 ^ b)) i ≡ has_bit m i
bit_kept m b i n =
    let small = bit_at-lt m i in
    let same : bit_at (without m (2 ^ b)) i ≡ bit_at m i =
    omega (arith, bit_at_xor m (bit_and m (2 ^ b)) i, bit_at_and m (2 ^ b) i, bit_at-pow_other b i n) in
    ap (λ x. x == 1) same

-- a bit that a number lacks is zero
pub no_bit : (m b : ℕ) → has_bit m b ≡ false → bit_at m b ≡ 0
no_bit m b h =
    let not_one = eqb-false (bit_at m b) 1 h in
    omega (arith, bit_at-lt m b)

-- a set without bits is zero
pub no_bits : (m : ℕ) → ((b : ℕ) → has_bit m b ≡ false) → m ≡ 0
no_bits m h = same_from_bits m 0 (λ b. no_bit m b (h b) ∙ sym (bit_at-zero b))

-- ---- differences, and which bits there are

-- what one set has and the other has not is the one without the other
pub difference_is : (m n : ℕ) {set : ℕ} → IsDifference m n set → set ≡ without m n
difference_is m n {set} is = masks_same set (without m n) (λ b. is b ∙ sym (has_bit-without m n b))

-- no bit from 21 on is a right
pub no_right : (b : ℕ) → 21 ≤ b → has_bit all_rights b ≡ false
no_right b h = false_from_ne_true _ (λ e. omega (arith, h, below b e))

-- a mask has some bit, or none below a number
pub some_below : (m n : ℕ) → ((b : ℕ) × (has_bit m b ≡ true)) ⊎ ((b : ℕ) → b < n → has_bit m b ≡ false)
some_below m zero = inr (λ b l. absurd (omega (arith, l)))
some_below m (suc n) = go (some_below m n) (has_bit m n) refl
  where
    go : ((b : ℕ) × (has_bit m b ≡ true)) ⊎ ((b : ℕ) → b < n → has_bit m b ≡ false) → (t : Bool) → has_bit m n ≡ t
        → ((b : ℕ) × (has_bit m b ≡ true)) ⊎ ((b : ℕ) → b < suc n → has_bit m b ≡ false)
    go (inl f) t e = inl f
    go (inr f) true e = inl (n, e)
    go (inr f) false e =
        inr (λ b l. ⊎_elim (λ d. ap (has_bit m) d ∙ e)
        (λ d. f b (⊎_elim (λ g. g) (λ g. absurd (d (omega (arith, g, l)))) (cases_lt b n))) (cases_eq b n))

-- a power of two has a bit if and only if it is the one of the exponent
pub power_is : (b i : ℕ) → has_bit (2 ^ b) i ≡ (i == b)
power_is b i = ⊎_elim (λ e. here e) (λ n. there n) (cases_eq i b)
  where
    here : i ≡ b → has_bit (2 ^ b) i ≡ (i == b)
    here e = ap (has_bit (2 ^ b)) e ∙ one_bit b ∙ sym (eq-eqb i b e)

    there : (i ≡ b → ⊥) → has_bit (2 ^ b) i ≡ (i == b)
    there n = false_from_ne_true _ (λ t. n (only_bit b i t)) ∙ sym (ne_eqb i b n)
