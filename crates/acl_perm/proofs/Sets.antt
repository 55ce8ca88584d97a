-- The operations on sets of bits, each once for every width.
use Rattle.std.proofs.Common.{◌≡◌, ◌≢◌, ℕ, ◌-◌, ◌*◌, ◌%◌, ◌^◌, ◌<◌, ◌≤◌, Bool, true, false, eqb, refl, sym, ap, ◌∙◌, arith, inl, inr}
use Rattle.std.specs.Prelude.{IsTrue, bit_and, bit_or, min, max, ◌&&◌, ◌||◌, not, ◌↔◌}
use mir.Val.{bits}
use Rattle.std.specs.Int.{Width, w8, w16, w32, bit_at, bit_not, trailing_zeros}
use Rattle.std.proofs.lemmas.Bool.{cases_eq, cases_lt, false≢true, eqb-true, eq-eqb}
use Rattle.std.proofs.lemmas.Nat.{and_le_r, and_le_l, or_lt, pow_below}
use Rattle.std.proofs.lemmas.Nat.Bits.{and_pow, bit_at-lt, bit_at-pow_other, bit_at_and, bit_at_or, bit_at_not, bit_at_above, bit_at-zero, bit_at-trailing_zeros, same_from_bits}
use Rattle.acl_perm.proofs.Bools.{and_true, or_true}
use Rattle.acl_perm.specs.Bits.{has_bit, all_mode_bits, all_rights, IsMask, IsPerm, IsSubset, IsUnion, IsIntersection, IsDifference}

-- a set of rights is a number of 32 bits
pub IsMask-lt : (n : ℕ) → IsMask n → n < 2 ^ 32
IsMask-lt n is = let le : n ≤ 0x001f07ff = rw (← is) (and_le_r n 0x001f07ff) in omega arith

-- ---- the bits of what the operations give

-- the lesser of two binary digits is 1 if and only if both are 1
min_is_one : (d e : ℕ) → d < 2 → e < 2 → eqb (min d e) 1 ≡ (eqb d 1 && eqb e 1)
min_is_one d e dl el = grind arith

-- the greater of two binary digits is 1 if and only if one of them is 1
max_is_one : (d e : ℕ) → d < 2 → e < 2 → eqb (max d e) 1 ≡ (eqb d 1 || eqb e 1)
max_is_one d e dl el = grind arith

-- 1 less a binary digit is 1 if and only if the digit is not 1
complement_is_one : (e : ℕ) → e < 2 → eqb (1 - e) 1 ≡ not (eqb e 1)
complement_is_one e el = grind arith

-- the intersection of two numbers has a bit if and only if both have it
pub has_bit-and : (m n k : ℕ) → has_bit (bit_and m n) k ≡ (has_bit m k && has_bit n k)
has_bit-and m n k =
    ap (λ (d : ℕ). eqb d 1) (bit_at_and m n k) ∙ min_is_one (bit_at m k) (bit_at n k) (bit_at-lt m k) (bit_at-lt n k)

-- the union of two numbers has a bit if and only if one of them has it
pub has_bit-or : (m n k : ℕ) → has_bit (bit_or m n) k ≡ (has_bit m k || has_bit n k)
has_bit-or m n k =
    ap (λ (d : ℕ). eqb d 1) (bit_at_or m n k) ∙ max_is_one (bit_at m k) (bit_at n k) (bit_at-lt m k) (bit_at-lt n k)

-- a number has no bit past its width
pub has_bit-above : (w : Width) (n k : ℕ) → n < 2 ^ bits w → bits w ≤ k → has_bit n k ≡ false
has_bit-above w n k lt le = ap (λ (d : ℕ). eqb d 1) (bit_at_above n (bits w) k lt le)

-- the difference of two numbers has a bit if and only if the first has it and the second does not
pub has_bit-clear : (w : Width) (m n k : ℕ) → m < 2 ^ bits w → n < 2 ^ bits w
    → has_bit (bit_and m (bit_not w n)) k ≡ (has_bit m k && not (has_bit n k))
has_bit-clear w m n k ml nl =
    elim (cases_lt k (bits w)) [
      | inl lt ↦
          has_bit-and m (bit_not w n) k
          ∙ ap (λ (b : Bool). has_bit m k && b)
          (ap (λ (d : ℕ). eqb d 1) (bit_at_not w n k nl lt) ∙ complement_is_one (bit_at n k) (bit_at-lt n k))
      | inr le ↦ has_bit-and m (bit_not w n) k ∙ rw (has_bit-above w m k ml le) refl
    ]

-- ---- sets of rights

-- if one binary digit is 1 only where another one is, it is the lesser of the two
min_is_left : (d e : ℕ) → d < 2 → e < 2 → (eqb d 1 ≡ true → eqb e 1 ≡ true) → min d e ≡ d
min_is_left d e dl el h = grind arith

-- a number whose bits are all rights is a set of rights
pub mask_from_bits : (n : ℕ) → ((k : ℕ) → has_bit n k ≡ true → has_bit all_rights k ≡ true) → IsMask n
mask_from_bits n h = same_from_bits (bit_and n all_rights) n (λ k.
    bit_at_and n all_rights k
    ∙ min_is_left (bit_at n k) (bit_at all_rights k) (bit_at-lt n k) (bit_at-lt all_rights k) (h k))

-- a set of rights has no other bit
pub bits_from_mask : (n k : ℕ) → IsMask n → has_bit n k ≡ true → has_bit all_rights k ≡ true
bits_from_mask n k is h =
    let same = sym (has_bit-and n all_rights k) ∙ ap (λ (m : ℕ). has_bit m k) is in
    (and_true (has_bit n k) (has_bit all_rights k) (same ∙ h)).1

-- the union of two sets of rights is a set of rights
pub IsMask-union : (m n : ℕ) → IsMask m → IsMask n → IsMask (bit_or m n)
IsMask-union m n p q = mask_from_bits (bit_or m n) (λ k h.
    elim (or_true (has_bit m k) (has_bit n k) (sym (has_bit-or m n k) ∙ h)) [
      | inl of_m ↦ bits_from_mask m k p of_m
      | inr of_n ↦ bits_from_mask n k q of_n
    ])

-- the intersection of a number with a set of rights is a set of rights
pub IsMask-and : (m n : ℕ) → IsMask m → IsMask (bit_and m n)
IsMask-and m n p = mask_from_bits (bit_and m n) (λ k h.
    bits_from_mask m k p (and_true (has_bit m k) (has_bit n k) (sym (has_bit-and m n k) ∙ h)).0)

-- ---- one right

-- a right is a bit below 21
pub right_below : (b : ℕ) → IsTrue (has_bit all_rights b) → b < 21
right_below b h =
    elim (cases_lt b 21) [
      | inl lt ↦ lt
      | inr le ↦ absurd (false≢true (sym (ap (λ (d : ℕ). eqb d 1) (bit_at_above all_rights 21 b (omega arith) le)) ∙ h))
    ]

-- the number of one right fits into 32 bits
pub right_small : (b : ℕ) → IsTrue (has_bit all_rights b) → 1 * 2 ^ b % 4294967296 ≡ 2 ^ b
right_small b h = let small : 2 ^ b < 2 ^ 32 = pow_below b 32 (omega (arith, right_below b h)) in omega (arith, small)

-- the number of one right is a set of rights
pub right_alone : (b : ℕ) → IsTrue (has_bit all_rights b) → IsMask (2 ^ b)
right_alone b h = mask_from_bits (2 ^ b) (λ k e.
    elim (cases_eq k b) [
      | inl same ↦ ap (has_bit all_rights) same ∙ h
      | inr other ↦ absurd (false≢true (sym (ap (λ (d : ℕ). eqb d 1) (bit_at-pow_other b k other)) ∙ e))
    ])

-- ---- one set by its bits

-- binary digits are equal if both are 1 or neither is
same_digit : (d e : ℕ) → d < 2 → e < 2 → eqb d 1 ≡ eqb e 1 → d ≡ e
same_digit d e dl el h = grind arith

-- two numbers that both have a bit, or both lack it, have the same digit there
same_bit : (m n k : ℕ) → has_bit m k ≡ has_bit n k → bit_at m k ≡ bit_at n k
same_bit m n k e = same_digit (bit_at m k) (bit_at n k) (bit_at-lt m k) (bit_at-lt n k) e

-- two sets with the same bits are equal
pub same_set : (m n : ℕ) → ((k : ℕ) → has_bit m k ≡ has_bit n k) → m ≡ n
same_set m n h = same_from_bits m n (λ k. same_bit m n k (h k))

-- the empty set has no bit
pub no_bit : (k : ℕ) → has_bit 0 k ≡ false
no_bit k = ap (λ (d : ℕ). eqb d 1) (bit_at-zero k)

-- a set that is not empty has a bit
pub some_bit : (n : ℕ) → n < 2 ^ 32 → n ≢ 0 → (k : ℕ) × (has_bit n k ≡ true)
some_bit n lt ne =
    let t = bit_at-trailing_zeros w32 n (omega arith) lt in
    (trailing_zeros w32 n, ap (λ (d : ℕ). eqb d 1) t.1)

-- ---- the test of a subset

-- two tests together are the second one if the second implies the first
and_is_right : (x y : Bool) → (y ≡ true → x ≡ true) → (x && y) ≡ y
and_is_right true y h = refl
and_is_right false true h = absurd (false≢true (h refl))
and_is_right false false h = refl

-- the intersection of two sets is the second set if and only if that is a part of the first
pub subset : (m n : ℕ) → (bit_and m n ≡ n) ↔ IsSubset n m
subset m n = (
  λ e k h.
      (and_true (has_bit m k) (has_bit n k) (sym (has_bit-and m n k) ∙ ap (λ (x : ℕ). has_bit x k) e ∙ h)).0,
  λ h. same_set (bit_and m n) n (λ k. has_bit-and m n k ∙ and_is_right (has_bit m k) (has_bit n k) (h k)),
)

-- the test of the intersection holds if and only if the second set is a part of the first
pub subset_test : (m n : ℕ) → (eqb (bit_and m n) n ≡ true) ↔ IsSubset n m
subset_test m n = let s = subset m n in (λ t. s.0 (eqb-true _ _ t), λ h. eq-eqb _ _ (s.1 h))

-- ---- tests of one bit

-- a binary digit times a positive number is not 0 if and only if the digit is 1
by_digit : (d p : ℕ) → d < 2 → 0 < p → not (eqb (d * p) 0) ≡ eqb d 1
by_digit d p lt pos = grind arith

-- a number has a bit in common with a power of two if and only if it has that bit
pub bit_test : (n k p : ℕ) → p ≡ 2 ^ k → 0 < p → not (eqb (bit_and n p) 0) ≡ has_bit n k
bit_test n k p e pos =
    ap (λ (m : ℕ). not (eqb m 0)) (ap (bit_and n) e ∙ and_pow n k)
    ∙ by_digit (bit_at n k) (2 ^ k) (bit_at-lt n k) (omega (arith, e))

-- a number has a bit in common with 8 if and only if it has bit 3
pub inherit_only_test : (n : ℕ) → not (eqb (bit_and n 8) 0) ≡ has_bit n 3
inherit_only_test n = bit_test n 3 8 refl (omega arith)

-- a number has a bit in common with 64 if and only if it has bit 6
pub identifier_group_test : (n : ℕ) → not (eqb (bit_and n 64) 0) ≡ has_bit n 6
identifier_group_test n = bit_test n 6 64 refl (omega arith)

pub ruleset flag_tests = (inherit_only_test, identifier_group_test)

-- ---- what each type's operations need

-- the number of a union has the bits of either set
pub union_is : (m n : ℕ) → IsUnion m n (bit_or m n)
union_is m n = has_bit-or m n

-- the number of an intersection has the bits of both sets
pub intersection_is : (m n : ℕ) → IsIntersection m n (bit_and m n)
intersection_is m n = has_bit-and m n

-- the number of a difference, in 8 bits, has the bits of the first set that the second does not have
pub w8_difference : (m n : ℕ) → m < 2 ^ 8 → n < 2 ^ 8 → IsDifference m n (bit_and m (bit_not w8 n))
w8_difference m n ml nl k = has_bit-clear w8 m n k ml nl

-- the number of a difference, in 16 bits, has the bits of the first set that the second does not have
pub w16_difference : (m n : ℕ) → m < 2 ^ 16 → n < 2 ^ 16 → IsDifference m n (bit_and m (bit_not w16 n))
w16_difference m n ml nl k = has_bit-clear w16 m n k ml nl

-- the number of a difference of two sets of rights has the bits of the first that the second does not have
pub mask_difference : (m n : ℕ) → IsMask m → IsMask n → IsDifference m n (bit_and m (bit_not w32 n))
mask_difference m n p q k = has_bit-clear w32 m n k (IsMask-lt m p) (IsMask-lt n q)

-- the union of two sets of permissions is a set of permissions
pub perm_union : (m n : ℕ) → IsPerm m → IsPerm n → IsPerm (bit_or m n)
perm_union m n p q = or_lt 3 m n p q

-- the union of two modes is a mode
pub mode_union : (m n : ℕ) → m ≤ all_mode_bits → n ≤ all_mode_bits → bit_or m n ≤ all_mode_bits
mode_union m n p q = omega (arith, or_lt 9 m n (omega arith) (omega arith))

pub ruleset sets = (
  union_is,
  intersection_is,
  w8_difference,
  w16_difference,
  mask_difference,
  subset_test,
  IsMask-union,
  IsMask-and,
  perm_union,
  mode_union,
  and_le_l,
)
