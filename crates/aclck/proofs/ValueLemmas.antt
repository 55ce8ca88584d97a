-- What `parse` reads of digits, and letters as permissions.
use Rattle.std.proofs.Common.{◌≡◌, ◌∙◌, ◌≤◌, ◌<◌, ◌^◌, ℕ, true, List, [], ◌∷◌, ap, arith, get_or, length, refl, sym, subst}
use Rattle.std.specs.Prelude.{◌==◌, ◌&&◌, ◌||◌, ◌≢◌, Bool, MatchResult, Result, Ok, Err, false, not}
use Rattle.std.specs.Char.{digit_value, is_digit}
use Rattle.std.specs.List.{list_all}
use Rattle.std.specs.Str.Parse.{AllDigits, IsNumeral, ParsesUnsigned, digits_value, without_leading_plus}
use Rattle.std.proofs.lemmas.Bool.{ltb-true}
use Rattle.std.proofs.lemmas.Str.Parse.{without_leading_plus_none}
use Rattle.acl_perm.proofs.Bools.{and_true}
use Rattle.acl_perm.specs.Ascii.{hyphen, letter_r, letter_w, letter_x}
use Rattle.acl_posix.specs.Fields.{is_permission}
use Rattle.aclck.specs.Values.{is_letter, is_numeral}

-- bytes that pass the test for digits are digits
all_digits : (radix : ℕ) (bs : List ℕ) → list_all (λ b. is_digit b radix) bs ≡ true → AllDigits radix bs
all_digits radix [] h = tt
all_digits radix (b ∷ bs) h =
    let both = and_true (is_digit b radix) (list_all (λ d. is_digit d radix) bs) h in
    (ltb-true (digit_value b) radix both.0, all_digits radix bs both.1)

-- if a plus sign is a digit, the radix is above 36
plus_is_none : (radix b : ℕ) → b ≡ 43 → digit_value b < radix → 36 < radix
plus_is_none radix b e below = subst (λ n. digit_value n < radix) e below

-- digits of a radix up to ten do not begin with a plus sign
no_plus : (radix : ℕ) (bs : List ℕ) → radix ≤ 10 → 0 < length bs → AllDigits radix bs → get_or bs 0 0 ≢ 43
no_plus radix [] low some h = absurd (omega (arith, some))
no_plus radix (b ∷ bs) low some h = λ e. omega (arith, low, plus_is_none radix b e h.0)

-- a text that is not empty has at least one byte
some_byte : (bs : List ℕ) → not (length bs == 0) ≡ true → 0 < length bs
some_byte [] h = absurd cc
some_byte (b ∷ bs) h = omega arith

-- a text of at least one digit, and of digits alone, is a numeral
is_numeral_is : (radix : ℕ) (bs : List ℕ) → is_numeral radix bs ≡ true → IsNumeral radix bs
is_numeral_is radix bs h =
    let both = and_true (not (length bs == 0)) (list_all (λ b. is_digit b radix) bs) h in
    (some_byte bs both.0, all_digits radix bs both.1)

-- a text of digits has no plus sign that is removed
no_leading_plus : (radix : ℕ) (bs : List ℕ) → radix ≤ 10 → is_numeral radix bs ≡ true → without_leading_plus bs ≡ bs
no_leading_plus radix bs low h =
    let (some, digits) = is_numeral_is radix bs h in
    without_leading_plus_none bs (no_plus radix bs low some digits)

-- digits are read as their value, or the value does not fit
pub parsed_digits : {E : Type 0} (k radix : ℕ) (bs : List ℕ) (r : Result ℕ E) → radix ≤ 10 → is_numeral radix bs ≡ true
    → ParsesUnsigned k radix bs r → MatchResult r (λ v. v ≡ digits_value radix bs) (λ _. 2 ^ k ≤ digits_value radix bs)
parsed_digits k radix bs (Ok v) low h read = read.1 ∙ ap (digits_value radix) (no_leading_plus radix bs low h)
parsed_digits k radix bs (Err e) low h read =
    let same = no_leading_plus radix bs low h in
    let large : ¬ (digits_value radix bs < 2 ^ k) = λ small.
    read (
      subst (IsNumeral radix) (sym same) (is_numeral_is radix bs h),
      subst (λ ds. digits_value radix ds < 2 ^ k) (sym same) small,
    ) in
    omega (arith, large)

-- if one of three tests holds, one of four holds
or_wider : (r w x h : Bool) → (r || w || x) ≡ true → (r || w || x || h) ≡ true
or_wider true w x h e = refl
or_wider false true x h e = refl
or_wider false false true h e = refl
or_wider false false false h e = absurd cc

-- the letters r, w and x are permissions
pub are_permissions : (bs : List ℕ) → list_all is_letter bs ≡ true → list_all is_permission bs ≡ true
are_permissions [] h = refl
are_permissions (b ∷ bs) h =
    let both = and_true (is_letter b) (list_all is_letter bs) h in
    let one = or_wider (b == letter_r) (b == letter_w) (b == letter_x) (b == hyphen) both.0 in
    subst (λ t. (t && list_all is_permission bs) ≡ true) (sym one) (are_permissions bs both.1)
