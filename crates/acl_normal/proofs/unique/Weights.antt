-- The weight of a list, bit by bit.
use Rattle.std.specs.Prelude.{count_ones}
use Rattle.acl_normal.proofs.Common.{[], Ace, ap, arith, bit_at-lt, Bool, cases_eq, column, cond, count_left, false, false_from_ne_true, false≢true, has_bit, HasMasks, HasNoEmptyMask, inl, inr, is_inherit_only, IsQuiet, length, List, not, refl, subst, suc, sym, true, weight, zero, ℕ, ◌%◌, ◌&&◌, ◌+◌, ◌/◌, ◌<◌, ◌==◌, ◌∙◌, ◌∷◌, ◌≡◌, ◌≢◌, ◌≤◌}
use Rattle.std.specs.Int.Count.{ones_step}
use Rattle.std.proofs.lemmas.Nat.{ones_le_self, zero_from_ones}
use Rattle.std.proofs.lemmas.Nat.Bits.{bit_at-suc, bit_at_lowest}
use Rattle.acl_normal.proofs.unique.Columns.{counts, column_lacks}
use Rattle.acl_nfs4.proofs.Exports.{weight-cons}
use Rattle.acl_normal.proofs.unique.Bits.{no_bits, no_right}
use Rattle.acl_normal.proofs.unique.Normal.{counts_mask}

-- ---- the bits of a mask, one by one

-- one if it is true, and else zero
abbrev one_if : Bool → ℕ
one_if t = cond t 1 0

-- how many of its first bits a mask has
abbrev bits_below : ℕ → ℕ → ℕ
bits_below zero m = 0
bits_below (suc b) m = bits_below b m + one_if (has_bit m b)

-- bit b + 1 of a mask is bit b of its half
bit_behind : (m b : ℕ) → has_bit m (suc b) ≡ has_bit (m / 2) b
bit_behind m b = ap (λ v. v == 1) (bit_at-suc m b)

-- whether a number has bit 0 is its remainder by two
lowest_bit : (m : ℕ) → one_if (has_bit m 0) ≡ m % 2
lowest_bit m = grind (arith, bit_at_lowest m, bit_at-lt m 0)

-- the number of bits of a mask is one for bit 0, and that of its half
from_lowest : (k m : ℕ) → bits_below (suc k) m ≡ one_if (has_bit m 0) + bits_below k (m / 2)
from_lowest zero m = omega arith
from_lowest (suc k) m = omega (arith, from_lowest k m, ap one_if (bit_behind m k))

-- a mask has no more bits below a number than in all
bits_within : (k m : ℕ) → bits_below k m ≤ count_ones m
bits_within zero m = omega arith
bits_within (suc k) m = omega (arith, from_lowest k m, lowest_bit m, bits_within k (m / 2), ones_step m)

-- a mask without bits from a number on has no more bits in all than below the number
bits_all : (k m : ℕ) → ((b : ℕ) → k ≤ b → has_bit m b ≡ false) → count_ones m ≤ bits_below k m
bits_all zero m h =
    let none : m ≡ 0 = no_bits m (λ b. h b (omega arith)) in
    omega (arith, ones_le_self m, none)
bits_all (suc k) m h =
    omega (
      arith,
      from_lowest k m,
      lowest_bit m,
      bits_all k (m / 2) (λ b l. sym (bit_behind m b)
          ∙ h (suc b) (omega (arith, l))),
      ones_step m,
    )

-- ---- the columns of a list, one by one

-- at how many of the first bits the ACE counts
abbrev counted : ℕ → Ace → ℕ
counted zero a = 0
counted (suc b) a = counted b a + one_if (counts b a)

-- the empty list has no key
count_nothing : (n : ℕ) → count_left n [] ≡ 0
count_nothing zero = refl
count_nothing (suc n) = omega (arith, count_nothing n)

-- an ACE adds one key to a column at which it counts
length_more : (b : ℕ) (a : Ace) (xs : List Ace)
    → length (column (a ∷ xs) b) ≡ one_if (counts b a) + length (column xs b)
length_more b a xs = grind arith

-- an ACE adds a key at each of the first bits at which it counts
count_more : (n : ℕ) (a : Ace) (xs : List Ace) → count_left n (a ∷ xs) ≡ counted n a + count_left n xs
count_more zero a xs = refl
count_more (suc n) a xs = omega (arith, count_more n a xs, length_more n a xs)

-- an ACE counts at no more bits than it has
counted_within : (n : ℕ) (a : Ace) → counted n a ≤ bits_below n a.mask
counted_within zero a = omega arith
counted_within (suc n) a = omega (arith, counted_within n a, fewer (has_bit a.mask n) (not (is_inherit_only a)))
  where
    fewer : (t s : Bool) → one_if (t && s) ≤ one_if t
    fewer t s = grind arith

-- an ACE that takes part or has no bit counts at each bit that it has
counted_quiet : (n : ℕ) (a : Ace) → (is_inherit_only a ≡ true → a.mask ≡ 0) → counted n a ≡ bits_below n a.mask
counted_quiet zero a q = refl
counted_quiet (suc n) a q = omega (arith, counted_quiet n a q, ap one_if (counts_mask n a q))

-- a list has no more keys at the first bits than its weight
pub count_within : (n : ℕ) (xs : List Ace) → count_left n xs ≤ weight xs
count_within n [] = omega (arith, count_nothing n)
count_within n (a ∷ xs) =
    omega (arith, weight-cons a xs, count_more n a xs, counted_within n a, bits_within n a.mask, count_within n xs)

-- if a column is empty, it is without the first ACE
behind_empty : (b : ℕ) (a : Ace) (xs : List Ace) → column (a ∷ xs) b ≡ [] → column xs b ≡ []
behind_empty b a xs h = grind arith

-- if a column is empty, the first ACE lacks its bit, where it would count at it
head_empty : (b : ℕ) (a : Ace) (xs : List Ace) → counts b a ≡ has_bit a.mask b → column (a ∷ xs) b ≡ []
    → has_bit a.mask b ≡ false
head_empty b a xs quiet h = grind arith

-- a quiet list without keys from bit n on has as many keys at the bits below n as its weight
pub count_all : (n : ℕ) (xs : List Ace) → IsQuiet xs → ((b : ℕ) → n ≤ b → column xs b ≡ [])
    → weight xs ≤ count_left n xs
count_all n [] q h = omega arith
count_all n (a ∷ xs) q h =
    omega (
      arith,
      weight-cons a xs,
      count_more n a xs,
      counted_quiet n a q.0,
      bits_all n a.mask none,
      count_all n xs
          q.1 (λ b l. behind_empty b a xs (h b l)),
    )
  where
    none : (b : ℕ) → n ≤ b → has_bit a.mask b ≡ false
    none b l = head_empty b a xs (counts_mask b a q.0) (h b l)

-- ---- lists with as few keys at each bit

-- a list with no more keys at each bit than another has no more in all
pub count_falls : (n : ℕ) (xs ys : List Ace) → ((b : ℕ) → length (column ys b) ≤ length (column xs b))
    → count_left n ys ≤ count_left n xs
count_falls zero xs ys h = omega arith
count_falls (suc n) xs ys h = omega (arith, count_falls n xs ys h, h n)

-- a list with only rights has no key from bit 32 on
pub column_above : (ys : List Ace) (b : ℕ) → HasMasks ys → 32 ≤ b → column ys b ≡ []
column_above [] b h l = refl
column_above (a ∷ ys) b h l =
    let none : has_bit a.mask b ≡ false =
    false_from_ne_true _ (λ has. false≢true (sym (no_right b (omega (arith, l))) ∙ h.0 b has)) in
    column_lacks b a ys (rw none refl) ∙ column_above ys b h.1 l

-- a quiet list with only rights weighs no more than a list that has as many keys at each bit has keys
pub weight_under : (xs ys : List Ace) → IsQuiet ys → HasMasks ys
    → ((b : ℕ) → length (column ys b) ≤ length (column xs b)) → weight ys ≤ count_left 32 xs
weight_under xs ys quiet masks fewer =
    omega (arith, count_all 32 ys quiet (λ b l. column_above ys b masks l), count_falls 32 xs ys fewer)

-- a quiet list with only rights weighs no more than a list that has as many keys at each bit
pub weight_falls : (xs ys : List Ace) → IsQuiet ys → HasMasks ys
    → ((b : ℕ) → length (column ys b) ≤ length (column xs b)) → weight ys ≤ weight xs
weight_falls xs ys quiet masks fewer = omega (arith, weight_under xs ys quiet masks fewer, count_within 32 xs)

-- a list with no more keys at each bit than another, and fewer at one, has fewer in all
pub count_less : (n k : ℕ) (xs ys : List Ace) → k < n → ((b : ℕ) → length (column ys b) ≤ length (column xs b))
    → length (column ys k) < length (column xs k) → count_left n ys < count_left n xs
count_less zero k xs ys lt h less = absurd (omega (arith, lt))
count_less (suc n) k xs ys lt h less = elim (cases_eq k n) [
  | inl e ↦
      let here = subst (λ b. length (column ys b) < length (column xs b)) e less in
      omega (arith, count_falls n xs ys h, here)
  | inr other ↦ omega (arith, count_less n k xs ys (omega (arith, lt, other)) h less, h n)
]

-- a list without empty masks has no more ACEs than bits
pub length_under : (xs : List Ace) → HasNoEmptyMask xs → length xs ≤ weight xs
length_under [] h = omega arith
length_under (a ∷ xs) h = omega (arith, weight-cons a xs, length_under xs h.1, some a.mask h.0)
  where
    some : (m : ℕ) → m ≢ 0 → 1 ≤ count_ones m
    some m n = elim (cases_eq (count_ones m) 0) [
      | inl none ↦ absurd (n (zero_from_ones m none))
      | inr e ↦ omega (arith, e)
    ]
