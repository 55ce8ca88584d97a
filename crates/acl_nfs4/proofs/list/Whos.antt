-- Names that are valid as a who: decimal digits, and the three special identifiers.
use Rattle.std.proofs.Common.{◌≡◌, ◌-◌, ◌<◌, ◌≤◌, ◌^◌, ℕ, zero, suc, Bool, true, false, eqb, leb, List, [], ◌∷◌, length, get_or, refl, ap, arith}
use Rattle.std.specs.Prelude.{◌&&◌, not, nat_lt, slice_index}
use Rattle.std.specs.Fmt.{decimal}
use Rattle.std.specs.List.{list_all}
use Rattle.std.specs.Str.{is_utf8, IsAscii}
use Rattle.std.specs.Str.Parse.{AllDigits}
use Rattle.std.proofs.lemmas.Bool.{ltb-true}
use Rattle.std.proofs.lemmas.Fmt.{decimal_is_IsNumeral, decimal_nonempty, length-decimal-le, IsAscii-decimal}
use Rattle.std.proofs.lemmas.Str.{is_utf8-from_IsUtf8, IsUtf8-from_ascii}
use Rattle.std.proofs.lemmas.Str.Parse.{digit_from_value}
use Rattle.acl_perm.proofs.Bools.{and_true}
use Rattle.acl_nfs4.specs.Limits.{longest_who}
use Rattle.acl_nfs4.specs.Who.{IsWho, ends_in_at, everyone_name, group_name, is_no_who_len, is_plain, is_special, is_unknown_special, owner_name}

-- decimal digits are plain bytes
digits_plain : (ds : List ℕ) → AllDigits 10 ds → list_all is_plain ds ≡ true
digits_plain [] d = refl
digits_plain (c ∷ cs) d = let r = digit_from_value c d.0 in plain c (omega (arith, r)) (omega (arith, r))
    (digits_plain cs d.1)
  where
    plain : (c : ℕ) → 48 ≤ c → c ≤ 57 → list_all is_plain cs ≡ true → (is_plain c && list_all is_plain cs) ≡ true
    plain c low high rest = let a : leb 32 c ≡ true = grind arith in let b : eqb c 127 ≡ false = grind arith in
        rw (a, b) rest

-- each byte of decimal digits is below 58
digits_below : (ds : List ℕ) (i : ℕ) → AllDigits 10 ds → get_or ds i 0 < 58
digits_below [] i d = omega arith
digits_below (c ∷ cs) zero d = omega (arith, digit_from_value c d.0)
digits_below (c ∷ cs) (suc i) d = digits_below cs i d.1

-- a byte below 58 is not `@`
no_at : (b : ℕ) → b < 58 → eqb b 64 ≡ false
no_at b lt = grind arith

-- a name in which each of the four checks of a who finds nothing is valid as a who
no_fault : (who : List ℕ) → is_no_who_len (length who) ≡ false → is_utf8 who ≡ true → list_all is_plain who ≡ true
    → is_unknown_special who ≡ false → IsWho who
no_fault who some utf8 plain known = rw (some, utf8, plain, known) refl

-- a length within the bounds is one that a who may have
some_len : (n : ℕ) → 0 < n → n ≤ longest_who → is_no_who_len n ≡ false
some_len n some short = grind arith

-- the decimal digits of a number of 32 bits are valid as a who
pub is_who-decimal : (n : ℕ) → n < 2 ^ 32 → IsWho (decimal n)
is_who-decimal n lt =
    let digits : AllDigits 10 (decimal n) = (decimal_is_IsNumeral n (omega arith)).0.1 in
    let at : ends_in_at (decimal n) ≡ false =
    no_at (slice_index (decimal n) (length (decimal n) - 1)) (digits_below (decimal n) (length (decimal n) - 1) digits)
    in
    let len : length (decimal n) ≤ 10 = length-decimal-le 10 n (omega arith) (omega arith) (omega arith) in
    no_fault (decimal n) (some_len (length (decimal n)) (decimal_nonempty n (omega arith)) (omega (arith, len)))
    (is_utf8-from_IsUtf8 (decimal n) (IsUtf8-from_ascii (decimal n) (IsAscii-decimal n (omega arith))))
    (digits_plain (decimal n) digits)
    (ap (λ (b : Bool). b && not (is_special (decimal n))) at)

-- bytes that are all below 128 are ASCII
IsAscii-below_128 : (bs : List ℕ) → list_all (λ b. nat_lt b 128) bs ≡ true → IsAscii bs
IsAscii-below_128 [] h i = omega arith
IsAscii-below_128 (b ∷ bs) h zero = ltb-true b 128 (and_true (nat_lt b 128) (list_all (λ c. nat_lt c 128) bs) h).0
IsAscii-below_128 (b ∷ bs) h (suc i) =
    IsAscii-below_128 bs (and_true (nat_lt b 128) (list_all (λ c. nat_lt c 128) bs) h).1 i

-- bytes that are all below 128 are UTF-8
is_utf8-below_128 : (bs : List ℕ) → list_all (λ b. nat_lt b 128) bs ≡ true → is_utf8 bs ≡ true
is_utf8-below_128 bs h = is_utf8-from_IsUtf8 bs (IsUtf8-from_ascii bs (IsAscii-below_128 bs h))

-- `OWNER@` is valid as a who
pub is_who-owner : IsWho owner_name
is_who-owner = no_fault owner_name refl (is_utf8-below_128 owner_name refl) refl refl

-- `GROUP@` is valid as a who
pub is_who-group : IsWho group_name
is_who-group = no_fault group_name refl (is_utf8-below_128 group_name refl) refl refl

-- `EVERYONE@` is valid as a who
pub is_who-everyone : IsWho everyone_name
is_who-everyone = no_fault everyone_name refl (is_utf8-below_128 everyone_name refl) refl refl
