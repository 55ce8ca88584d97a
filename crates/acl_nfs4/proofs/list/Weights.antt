-- The weight of a list counts its pairs of a place and a bit.
use Rattle.acl_nfs4.proofs.Common.{[], Ace, AllByRecursion, ap, arith, bit_at, bit_at-lt, bit_at-suc, bit_at_lowest, bits_of, cond, count_by, count_ones, enumerate_from, eqb, flat_map, has_bit, length, length-append, length-filter, length-map, List, ones-le, ones_step, pairs_at, pairs_of, range_with_len, refl, suc, sum_by-cons, sym, weight, zero, ℕ, ◌%◌, ◌+◌, ◌/◌, ◌<◌, ◌^◌, ◌∙◌, ◌∷◌, ◌≡◌}
use Rattle.acl_nfs4.proofs.xdr.Lists.{weight-cons}

-- a binary digit is 1 if it is equal to 1, and otherwise 0
digit_is : (d : ℕ) → d < 2 → cond (eqb d 1) 1 0 ≡ d
digit_is d lt = grind arith

-- a number has as many bits from one place higher on as its half has from that place on
count_shifted : (k a n : ℕ) → count_by (has_bit n) (range_with_len (a + 1) k)
    ≡ count_by (has_bit (n / 2)) (range_with_len a k)
count_shifted zero a n = refl
count_shifted (suc k) a n =
    sum_by-cons (λ i. cond (has_bit n i) 1 0) (a + 1) (range_with_len (a + 1 + 1) k)
    ∙ ap (λ (s : ℕ). cond (has_bit n (a + 1)) 1 0 + s) (count_shifted k (a + 1) n)
    ∙ ap (λ (d : ℕ). cond (eqb d 1) 1 0 + count_by (has_bit (n / 2)) (range_with_len (a + 1) k)) (one_higher n a)
    ∙ sym (sum_by-cons (λ i. cond (has_bit (n / 2) i) 1 0) a (range_with_len (a + 1) k))
  where
    one_higher : (n a : ℕ) → bit_at n (a + 1) ≡ bit_at (n / 2) a
    one_higher n a = let e : a + 1 ≡ suc a = omega arith in ap (bit_at n) e ∙ bit_at-suc n a

-- a number below 2 ^ k has as many ones as it has bits among the first k
pub ones_are_bits : (k n : ℕ) → n < 2 ^ k → count_ones n ≡ count_by (has_bit n) (range_with_len 0 k)
ones_are_bits zero n lt = omega (arith, ones-le 0 n lt)
ones_are_bits (suc k) n lt =
    let low : cond (has_bit n 0) 1 0 ≡ n % 2 = digit_is (bit_at n 0) (bit_at-lt n 0) ∙ bit_at_lowest n in
    ones_step n ∙ ap (λ (s : ℕ). n % 2 + s) (ones_are_bits k (n / 2) (halved n k lt) ∙ sym (count_shifted k 0 n))
    ∙ ap (λ (d : ℕ). d + count_by (has_bit n) (range_with_len 1 k)) (sym low)
    ∙ sym (sum_by-cons (λ i. cond (has_bit n i) 1 0) 0 (range_with_len 1 k))
  where
    halved : (n k : ℕ) → n < 2 ^ suc k → n / 2 < 2 ^ k
    halved n k lt = omega (arith, lt)

-- a word has as many ones as the list of its bits has members
pub bits_counted : (mask : ℕ) → mask < 2 ^ 32 → count_ones mask ≡ length (bits_of mask)
bits_counted mask lt = ones_are_bits 32 mask lt ∙ sym (length-filter (has_bit mask) (range_with_len 0 32))

-- if places count from the given one, the weight of a list is the number of its pairs of a place and a bit
weight_from : (list : List Ace) (place : ℕ) → AllByRecursion (λ a. a.mask < 2 ^ 32) list
    → weight list ≡ length (flat_map pairs_at (enumerate_from place list))
weight_from [] place each = refl
weight_from (a ∷ list) place each =
    let here : List (ℕ × ℕ) = pairs_at (place, a) in
    let others : List (ℕ × ℕ) = flat_map pairs_at (enumerate_from (place + 1) list) in
    let count : count_ones a.mask ≡ length here = bits_counted a.mask each.0 ∙ sym (length-map (bits_of a.mask) _) in
    weight-cons a list ∙ ap (λ (n : ℕ). n + weight list) count
    ∙ ap (λ (n : ℕ). length here + n) (weight_from list (place + 1) each.1) ∙ sym (length-append here others)

-- the weight of a list is the number of its pairs of a place and a bit
pub weight_counts : (list : List Ace) → AllByRecursion (λ a. a.mask < 2 ^ 32) list
    → weight list ≡ length (pairs_of list)
weight_counts list each = weight_from list 0 each
