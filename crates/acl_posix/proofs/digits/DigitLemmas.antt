-- The number that digits spell.
use Rattle.acl_posix.proofs.Common.{[], All-get_or, AllDigits, AllPass-from_list_all, and_true, ap, arith, cases_lt, cond, decimal, digit_value, digits_value, eqb, false, get_or, greatest_id, id_of, inl, inr, is_ascii_digit, is_number, IsId, length, length-decimal-le, length-take, List, list_all, most_digits, nat_le, nat_tests, None, Some, take, true, ℕ, ◌*◌, ◌+◌, ◌-◌, ◌<◌, ◌∙◌, ◌∷◌, ◌≡◌, ◌≤◌, decimal_is_IsNumeral, subst, refl}
use Rattle.std.proofs.Math.Nat.{pow-le-pow_right}
use Rattle.std.proofs.lemmas.Int.Digits.{digits_value_more, digits_value-lt}
use Rattle.std.proofs.lemmas.Fmt.{decimal-digits_value}
use Rattle.std.proofs.lemmas.Str.Parse.{digit_from_value, numerals_by_value, tells_digits}
use Rattle.std.proofs.lemmas.Slice.Eq.{bytes_eq-Decides}
use Rattle.std.specs.Str.{bytes_eq}

-- the value of a digit is its distance from the byte `0`
pub digit_is : (b : ℕ) → is_ascii_digit b ≡ true → digit_value b ≡ b - 48
digit_is b h = grind (arith, nat_tests)

-- the value of a digit is below 10
digit_small : (b : ℕ) → is_ascii_digit b ≡ true → digit_value b < 10
digit_small b h = omega (arith, digit_is b h, (let most : b ≤ 57 = grind (arith, nat_tests) in most))

-- bytes that are all digits are digits in the radix 10
all_small : (bs : List ℕ) → list_all is_ascii_digit bs ≡ true → AllDigits 10 bs
all_small [] h = tt
all_small (b ∷ bs) h = let both = and_true _ _ h in (digit_small b both.0, all_small bs both.1)

-- the number of at most ten digits is below 10^10
pub ten_digits : (bs : List ℕ) (i : ℕ) → i ≤ 10 → list_all is_ascii_digit (take i bs) ≡ true
    → digits_value 10 (take i bs) < 10000000000
ten_digits bs i few h =
    let most : length (take i bs) ≤ 10 = omega (arith, length-take i bs, few) in
    let least : 1 ≤ 10 = omega arith in
    omega (arith, digits_value-lt 10 (take i bs) (all_small (take i bs) h), pow-le-pow_right {n = 10} least most)

-- the length of a list with an element is not 0
pub not_empty : (xs : List ℕ) → 0 < length xs → eqb (length xs) 0 ≡ false
not_empty xs h = grind (arith, nat_tests)

-- a number has a digit
pub some_digit : (bs : List ℕ) → is_number bs ≡ true → 0 < length bs
some_digit [] h = absurd cc
some_digit (b ∷ bs) h = omega arith

-- each byte of a number is a digit
pub digits_all : (bs : List ℕ) → is_number bs ≡ true → list_all is_ascii_digit bs ≡ true
digits_all bs h = (and_true _ _ h).1

-- if all bytes are digits, so is the byte at a place
pub digit_at : (bs : List ℕ) (i : ℕ) → i < length bs → list_all is_ascii_digit bs ≡ true
    → is_ascii_digit (get_or bs i 0) ≡ true
digit_at bs i lt all = All-get_or (λ b. is_ascii_digit b ≡ true) bs i 0 lt (AllPass-from_list_all is_ascii_digit bs all)

-- the value of digits with one more after them: ten times their value, and that digit
pub digit_more : (bs : List ℕ) (i : ℕ) → i < length bs → is_ascii_digit (get_or bs i 0) ≡ true
    → digits_value 10 (take (i + 1) bs) ≡ digits_value 10 (take i bs) * 10 + (get_or bs i 0 - 48)
digit_more bs i lt h = digits_value_more 10 bs i lt
    ∙ ap (λ (d : ℕ). digits_value 10 (take i bs) * 10 + d) (digit_is _ h)

-- an id has ten digits at most
pub id_short : (id : ℕ) → IsId id → length (decimal id) ≤ most_digits
id_short id within = length-decimal-le 10 id (omega arith) (omega (arith, within)) (omega (arith, within))

-- more than ten digits, if the first is not `0`, have a number above the greatest id
above_every_id : (bs : List ℕ) → list_all is_ascii_digit bs ≡ true → (get_or bs 0 0 ≡ 48 → ⊥) → most_digits < length bs
    → greatest_id < digits_value 10 bs
above_every_id bs all first long = elim (cases_lt greatest_id (digits_value 10 bs)) [
  | inl above ↦ above
  | inr within ↦
      let shown : decimal (digits_value 10 bs) ≡ bs =
      decimal-digits_value (numerals_by_value (AllDigits 10) tells_digits) bs (all_small bs all) (omega arith)
      (λ zero_first. absurd (first zero_first)) (omega (arith, within)) in
      absurd (omega (arith, id_short (digits_value 10 bs) within, ap length shown))
]

-- more than ten digits, if the first is not `0`, spell no id
pub too_long : (bs : List ℕ) → list_all is_ascii_digit bs ≡ true → (get_or bs 0 0 ≡ 48 → ⊥) → most_digits < length bs
    → None ≡ id_of bs
unfolding id_of
too_long bs all first long = let above = above_every_id bs all first long in grind (arith, nat_tests)

-- digits with the same number spell the same id
pub same_id : (bs cs : List ℕ) → digits_value 10 bs ≡ digits_value 10 cs → id_of bs ≡ id_of cs
unfolding id_of
same_id bs cs e = ap (λ (n : ℕ). cond (nat_le n greatest_id) (Some n) None) e

-- ---- names

-- a number does not begin with a byte that is not a digit
pub not_decimal : (n c : ℕ) (cs : List ℕ) → IsId n → 57 < c → decimal n ≡ c ∷ cs → ⊥
not_decimal n c cs h big e =
    omega (arith, digit_from_value c (subst (AllDigits 10) e (decimal_is_IsNumeral n (omega arith)).0.1).0)

-- names that differ do not pass the test of equality
pub bytes_eq-unequal : (xs ys : List ℕ) → (xs ≡ ys → ⊥) → bytes_eq xs ys ≡ false
bytes_eq-unequal xs ys differ = elim (bytes_eq xs ys) as (λ b. bytes_eq xs ys ≡ b → b ≡ false) [
  | true ↦ λ h. absurd (differ ((bytes_eq-Decides xs ys).0 h))
  | false ↦ λ h. refl
] refl
