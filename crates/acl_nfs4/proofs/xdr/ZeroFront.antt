-- The first bytes of a word are zero if its lowest bits are zero.
use Rattle.acl_nfs4.proofs.Common.{[], and_mask, ap, arith, bit_and, eqb, get_or, length, List, list_all, refl, suc, sym, take, true, zero, ℕ, ◌%◌, ◌*◌, ◌+◌, ◌-◌, ◌<◌, ◌^◌, ◌∙◌, ◌∷◌, ◌≡◌, ◌≤◌}
use Rattle.byteorder.specs.Endian.{little_number}

-- the number that four bytes spell, the lowest first
abbrev number : ℕ → ℕ → ℕ → ℕ → ℕ
number a b c d = a + 256 * (b + 256 * (c + 256 * (d + 256 * 0)))

-- if this many of the lowest bits are zero, the first bytes are zero
first_bytes_zero : (a b c d n : ℕ) (rest : List ℕ) → a < 256 → b < 256 → c < 256 → d < 256 → n < 4
    → number a b c d % 2 ^ (8 * n) ≡ 0 → list_all (λ x. eqb x 0) (take n (a ∷ b ∷ c ∷ d ∷ rest)) ≡ true
first_bytes_zero a b c d zero rest p q r s few e = refl
first_bytes_zero a b c d (suc zero) rest p q r s few e = let x : a ≡ 0 = omega (arith, e, p) in rw x refl
first_bytes_zero a b c d (suc (suc zero)) rest p q r s few e =
    let x : a ≡ 0 = omega (arith, e, p, q) in
    let y : b ≡ 0 = omega (arith, e, p, q) in
    rw (x, y) refl
first_bytes_zero a b c d (suc (suc (suc zero))) rest p q r s few e =
    let x : a ≡ 0 = omega (arith, e, p, q, r) in
    let y : b ≡ 0 = omega (arith, e, p, q, r) in
    let z : c ≡ 0 = omega (arith, e, p, q, r) in
    rw (x, y, z) refl
first_bytes_zero a b c d (suc (suc (suc (suc n)))) rest p q r s few e = absurd (omega (arith, few))

-- if the lowest bits of a word are zero, its first bytes are zero
pub zero_front : (bytes : List ℕ) (n word mask : ℕ) → ((i : ℕ) → get_or bytes i 0 < 256) → 4 ≤ length bytes → n < 4
    → word ≡ little_number 4 bytes → mask ≡ 2 ^ (8 * n) - 1 → bit_and word mask ≡ 0
    → list_all (λ x. eqb x 0) (take n bytes) ≡ true
zero_front [] n word mask fits long few is all e = absurd (omega (arith, long))
zero_front (a ∷ []) n word mask fits long few is all e = absurd (omega (arith, long))
zero_front (a ∷ b ∷ []) n word mask fits long few is all e = absurd (omega (arith, long))
zero_front (a ∷ b ∷ c ∷ []) n word mask fits long few is all e = absurd (omega (arith, long))
zero_front (a ∷ b ∷ c ∷ d ∷ rest) n word mask fits long few is all e =
    first_bytes_zero a b c d n rest (fits 0) (fits 1) (fits 2) (fits 3) few
    (sym (ap (λ w. w % 2 ^ (8 * n)) is) ∙ sym (and_mask word (8 * n)) ∙ sym (ap (bit_and word) all) ∙ e)
