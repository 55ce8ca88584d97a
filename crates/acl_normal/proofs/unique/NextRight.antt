-- The next right of a mask, from a bit on.
use Rattle.std.specs.Prelude.{IsSome}
use Rattle.std.specs.Int.Count.{trailing_of_zero}
use Rattle.acl_normal.proofs.Common.{IfNone, None, Option, Some, ap, arith, bit_at, bit_at-zero, cases_eq, cases_lt, false, has_bit, inl, inr, subst, suc, sym, trailing_zeros, w32, zero, ℕ, ⊎_elim, ◌%◌, ◌+◌, ◌-◌, ◌/◌, ◌<◌, ◌==◌, ◌^◌, ◌∙◌, ◌≡◌, ◌≤◌, ◌⊎◌}
use Rattle.std.proofs.lemmas.Nat.Bits.{bit_at-trailing_zeros}
use Rattle.std.proofs.Math.Nat.{div-le_self}
use Rattle.std.proofs.lemmas.Nat.{shr-shr}
use Rattle.acl_perm.proofs.Sets.{right_below as below}
use Rattle.acl_perm.specs.declared.bit.Bit.{Bit}
use Rattle.acl_normal.specs.internal.NextRight.{IsNextRight, LacksFrom}

-- the bits of a number that is shifted
pub shifted_bit : (m n i : ℕ) → bit_at (m / 2 ^ n) i ≡ bit_at m (n + i)
shifted_bit m n i = ap (λ v. v % 2) (shr-shr m n i)

-- from a bit on, the lowest bit of the rest is the first right
pub first_right : (m n b : ℕ) → m < 2 ^ 32 → b ≡ n + trailing_zeros w32 (m / 2 ^ n) → b < 21 → IsNextRight m n b
first_right m n b fits is low = go (cases_eq rest 0)
  where
    rest : ℕ
    rest = m / 2 ^ n

    go : (rest ≡ 0) ⊎ (rest ≡ 0 → ⊥) → IsNextRight m n b
    go (inl none) = absurd (omega (arith, is, low, ap (trailing_zeros w32) none ∙ trailing_of_zero 32))
    go (inr some) =
        let t = bit_at-trailing_zeros w32 rest (omega (arith, some)) (omega (arith, fits, div-le_self m (2 ^ n))) in
        record {
          has = ap (λ v. has_bit m v) is ∙ ap (λ v. v == 1) (sym (shifted_bit m n (trailing_zeros w32 rest)) ∙ t.1);
          above = omega (arith, is);
          lacks =
              λ i from below. ap (λ v. has_bit m v) (split i from) ∙ ap (λ v. v == 1)
              (sym (shifted_bit m n (i - n)) ∙ t.2 (i - n) (omega (arith, is, from, below)));
        }
      where
        split : (i : ℕ) → n ≤ i → i ≡ n + (i - n)
        split i from = omega (arith, from)

-- where the lowest bit of the rest is no right, none is left
pub no_right_left : (m n : ℕ) (next : Option Bit) → m < 2 ^ 32
    → (n + trailing_zeros w32 (m / 2 ^ n) < 21 → IsSome next) → IfNone next (LacksFrom m n 21)
no_right_left m n (Some right) fits some = tt
no_right_left m n None fits some = λ i from below. ap (λ v. has_bit m v) (split i from)
    ∙ ap (λ v. v == 1) (sym (shifted_bit m n (i - n)) ∙ none i from below (cases_eq rest 0))
  where
    rest : ℕ
    rest = m / 2 ^ n

    split : (i : ℕ) → n ≤ i → i ≡ n + (i - n)
    split i from = omega (arith, from)

    none : (i : ℕ) → n ≤ i → i < 21 → (rest ≡ 0) ⊎ (rest ≡ 0 → ⊥) → bit_at rest (i - n) ≡ 0
    none i from below (inl e) = ap (λ v. bit_at v (i - n)) e ∙ bit_at-zero (i - n)
    none i from below (inr d) =
        let t = bit_at-trailing_zeros w32 rest (omega (arith, d)) (omega (arith, fits, div-le_self m (2 ^ n))) in
        ⊎_elim (λ l. absurd (clash (some l))) (λ l. t.2 (i - n) (omega (arith, l, from, below)))
        (cases_lt (n + trailing_zeros w32 rest) 21)
      where
        clash : IsSome {T = Bit} None → ⊥
        clash h = cc

-- what continues past each bit that a mask lacks continues up to the next right of the mask
pub past_absent : (P : ℕ → Type 0) (m n b : ℕ) → ((i : ℕ) → P i → has_bit m i ≡ false → P (i + 1)) → n ≤ b
    → LacksFrom m n b → P n → P b
past_absent P m n b step from lacks start = subst P (omega (arith, from)) (go (b - n) (omega (arith, from)))
  where
    go : (k : ℕ) → n + k ≤ b → P (n + k)
    go zero l = subst P (omega arith) start
    go (suc k) l =
        subst P (omega arith)
        (step (n + k) (go k (omega (arith, l))) (lacks (n + k) (omega arith) (omega (arith, l))))
