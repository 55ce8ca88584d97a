-- Whether a set has one bit, or two bits, by the result of `contains`.
use Rattle.std.proofs.Common.{◌≡◌, ℕ, ◌*◌, ◌/◌, ◌%◌, ◌^◌, ◌<◌, eqb, refl, sym, ap, ◌∙◌, arith}
use Rattle.std.specs.Prelude.{bit_and, ◌&&◌}
use Rattle.std.specs.Int.{bit_at}
use Rattle.std.proofs.lemmas.Nat.Bits.{and_high, and_pow, bit_at-lt}
use Rattle.acl_perm.specs.Bits.{has_bit}

-- a binary digit times a positive number is that number if and only if the digit is 1
by_digit : (d p : ℕ) → d < 2 → 0 < p → eqb (d * p) p ≡ eqb d 1
by_digit d p lt pos = grind arith

-- a set contains a power of two if and only if it has that bit
pub contains_power : (n k p : ℕ) → p ≡ 2 ^ k → 0 < p → eqb (bit_and n p) p ≡ has_bit n k
contains_power n k p e pos =
    ap (λ (m : ℕ). eqb m p) (ap (bit_and n) e ∙ and_pow n k ∙ ap (λ (q : ℕ). bit_at n k * q) (sym e))
    ∙ by_digit (bit_at n k) p (bit_at-lt n k) pos

-- a set contains 1 if and only if it has bit 0
pub contains_0 : (n : ℕ) → eqb (bit_and n 1) 1 ≡ has_bit n 0
contains_0 n = contains_power n 0 1 refl (omega arith)

-- a set contains 2 if and only if it has bit 1
pub contains_1 : (n : ℕ) → eqb (bit_and n 2) 2 ≡ has_bit n 1
contains_1 n = contains_power n 1 2 refl (omega arith)

-- a set contains 4 if and only if it has bit 2
pub contains_2 : (n : ℕ) → eqb (bit_and n 4) 4 ≡ has_bit n 2
contains_2 n = contains_power n 2 4 refl (omega arith)

-- a set contains 32 if and only if it has bit 5
pub contains_5 : (n : ℕ) → eqb (bit_and n 32) 32 ≡ has_bit n 5
contains_5 n = contains_power n 5 32 refl (omega arith)

pub ruleset single_bits = (contains_0, contains_1, contains_2, contains_5)

-- the two lowest bits of a number, doubled, are 6 if and only if the number has both
both_digits : (m : ℕ) → eqb ((m % 4) * 2) 6 ≡ (eqb (m % 2) 1 && eqb (m / 2 % 2) 1)
both_digits m = grind arith

-- a set contains 6 if and only if it has the bits 1 and 2
pub both_1_2 : (n : ℕ) → eqb (bit_and n 6) 6 ≡ (has_bit n 1 && has_bit n 2)
both_1_2 n =
    ap (λ (m : ℕ). eqb m 6) (and_high n 2 1) ∙ both_digits (n / 2)
    ∙ ap (λ (m : ℕ). has_bit n 1 && eqb (m % 2) 1) (omega arith)
