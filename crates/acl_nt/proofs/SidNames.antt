-- Two SIDs with one name are equal.
use Rattle.std.proofs.Common.{◌≡◌, ◌∙◌, ◌+◌, ◌%◌, ◌/◌, ◌<◌, ◌^◌, ◌++◌, ℕ, zero, suc, Bool, true, false, List, [], ◌∷◌, Result, Ok, length, drop, get_or, refl, ap, sym, arith, append-nil, inl, inr}
use Rattle.std.specs.Prelude.{◌==◌, ◌⊎◌, codes, decimal, map, nat_lt, slice_index, unwrap_or, if◌then◌else◌}
use Rattle.std.specs.List.{All, AllByRecursion, flat_map, slice_split}
use Rattle.std.specs.Int.{byte_at, bytes_high_first}
use Rattle.std.specs.Result.{result_ok}
use Rattle.std.proofs.Math.Nat.{mod-lt}
use Rattle.std.proofs.lemmas.Bool.{eqb-true, false_from_ne_true}
use Rattle.std.proofs.lemmas.Fmt.{decimal_by_steps, decimal_injective}
use Rattle.std.proofs.lemmas.List.Concat.{flat_map-cons}
use Rattle.std.proofs.lemmas.List.Elements.{All-append, All-from_recursion}
use Rattle.std.proofs.lemmas.List.Splits.{slice_split_at, slice_split_none}
use Rattle.byteorder.specs.Endian.{big_bytes, big_from}
use Rattle.byteorder.specs.Numbers.{big_number-reads_back}
use Rattle.hex.specs.Hex.{IsBytes, decode_of, encode_lower, hex_digit_value, lower_digits}
unfoldable use Rattle.hex.specs.Hex.{encode_with}
use Rattle.hex.specs.declared.error.FromHexError.{FromHexError}
use Rattle.hex.proofs.HexLemmas.{IsDigits-lower_digits, decode_of-encode_lower}
use Rattle.acl_nt.specs.Sid.{IsSid, Sid}
use Rattle.acl_perm.specs.Ascii.{hyphen}
use Rattle.acl_nt.specs.SidName.{authority_name, sid_name, word_name}

-- a byte is another one
abbrev IsOther : ℕ → ℕ → Type 0
IsOther byte b = (b == byte) ≡ false

-- a byte is not in a list
abbrev Lacks : ℕ → List ℕ → Type 0
Lacks byte bytes = All (IsOther byte) bytes

digit_is_not : (byte n : ℕ) → n < 10 → (byte < 48) ⊎ (57 < byte) → ((48 + n) == byte) ≡ false
digit_is_not byte n small out = grind arith

one_digit : (byte n : ℕ) → (byte < 48) ⊎ (57 < byte) → n < 10 → Lacks byte ((48 + n) ∷ [])
one_digit byte n out small = All-from_recursion (IsOther byte) ((48 + n) ∷ []) (digit_is_not byte n small out, tt)

-- decimal digits have no other byte
decimal_lacks : (byte n : ℕ) → (byte < 48) ⊎ (57 < byte) → n < 2 ^ 64 → Lacks byte (decimal n)
decimal_lacks byte n out fits = decimal_by_steps (λ m ds. Lacks byte ds) (λ m small. one_digit byte m out small)
    (λ m ds big lacks. All-append (IsOther byte) ds ((48 + m % 10) ∷ []) lacks
    (one_digit byte (m % 10) out (omega arith))) n fits

-- ---- the parts of a name between its hyphens

abbrev is_hyphen : ℕ → Bool
is_hyphen b = b == hyphen

split_name : (part : List ℕ) (words : List ℕ) → Lacks hyphen part → AllByRecursion (λ w. w < 2 ^ 32) words
    → slice_split is_hyphen (part ++ flat_map word_name words) ≡ part ∷ map decimal words
split_name part [] lacks small = ap (slice_split is_hyphen) (append-nil part) ∙ slice_split_none is_hyphen part lacks
split_name part (w ∷ words) lacks small =
    ap (λ t. slice_split is_hyphen (part ++ t)) (flat_map-cons word_name w words)
    ∙ slice_split_at is_hyphen part hyphen (decimal w ++ flat_map word_name words) lacks refl
    ∙ ap (λ t. part ∷ t)
    (split_name (decimal w) words (decimal_lacks hyphen w (inl (omega arith)) (let s = small.0 in omega arith)) small.1)

-- sub-authorities with the same digits are equal
same_words : (xs ys : List ℕ) → AllByRecursion (λ w. w < 2 ^ 32) xs → AllByRecursion (λ w. w < 2 ^ 32) ys
    → map decimal xs ≡ map decimal ys → xs ≡ ys
same_words [] [] small fits e = refl
same_words [] (y ∷ ys) small fits e = let h = ap length e in absurd (omega (arith, h))
same_words (x ∷ xs) [] small fits e = let h = ap length e in absurd (omega (arith, h))
same_words (x ∷ xs) (y ∷ ys) small fits e =
    let head = decimal_injective x y (let s = small.0 in omega arith) (let s = fits.0 in omega arith)
    (ap (λ l. get_or l 0 []) e) in
    let tail = same_words xs ys small.1 fits.1 (ap (drop 1) e) in
    ap (λ z. z ∷ xs) head ∙ ap (λ t. y ∷ t) tail

-- ---- authorities in hexadecimal digits

a_byte : (k n : ℕ) → byte_at k n < 256
a_byte zero n = omega arith
a_byte (suc k) n = mod-lt (n / 256 ^ suc k) (omega arith)

bytes_are : (k n : ℕ) → IsBytes (bytes_high_first k n)
bytes_are zero n i = omega arith
bytes_are (suc k) n zero = a_byte k n
bytes_are (suc k) n (suc i) = bytes_are k n i

digit_no_hyphen : (d : ℕ) → d < 16 → (slice_index lower_digits d == hyphen) ≡ false
digit_no_hyphen d small = false_from_ne_true (slice_index lower_digits d == hyphen) (λ e.
    let is = eqb-true (slice_index lower_digits d) hyphen e in
    let value = sym (ap hex_digit_value is) ∙ IsDigits-lower_digits d small in grind arith)

hex_no_hyphen : (bytes : List ℕ) → IsBytes bytes
    → AllByRecursion (λ c. (c == hyphen) ≡ false) (encode_with lower_digits bytes)
unfolding encode_with
hex_no_hyphen [] are = tt
hex_no_hyphen (b ∷ bytes) are =
    let small = are 0 in (
      digit_no_hyphen (b / 16) (omega (arith, small)),
      (
        digit_no_hyphen (b % 16) (omega arith),
        hex_no_hyphen bytes (λ i. are (suc i)),
      ),
    )

-- the name of an authority that is not below 2 ^ 32
abbrev hex_name : ℕ → List ℕ
hex_name a = codes "0x" ++ encode_lower (big_bytes 6 a)

hex_lacks : (a : ℕ) → Lacks hyphen (hex_name a)
hex_lacks a = All-from_recursion (IsOther hyphen) (hex_name a)
    (refl, (refl, hex_no_hyphen (bytes_high_first 6 a) (bytes_are 6 a)))

same_hex : (a b : ℕ) → a < 2 ^ 48 → b < 2 ^ 48 → hex_name a ≡ hex_name b → a ≡ b
same_hex a b small fits e =
    let digits : encode_lower (big_bytes 6 a) ≡ encode_lower (big_bytes 6 b) = ap (drop 2) e in
    let read : Ok (big_bytes 6 a) ≡ Ok (big_bytes 6 b) =
    sym (decode_of-encode_lower (big_bytes 6 a) (bytes_are 6 a)) ∙ ap decode_of digits
    ∙ decode_of-encode_lower (big_bytes 6 b) (bytes_are 6 b) in
    let same : big_bytes 6 a ≡ big_bytes 6 b =
    ap (λ (r : Result (List ℕ) FromHexError). unwrap_or (result_ok r) []) read in
    sym (big_number-reads_back 6 a [] small) ∙ ap (λ t. big_from 0 6 (t ++ [])) same
    ∙ big_number-reads_back 6 b [] fits

-- decimal digits are not the name of an authority in hexadecimal digits
not_hex : (a : ℕ) (rest : List ℕ) → a < 2 ^ 64 → decimal a ≡ 48 ∷ 120 ∷ rest → ⊥
not_hex a rest fits e =
    let lacks = decimal_lacks 120 a (inr (omega arith)) fits in
    let parts : decimal a ∷ [] ≡ (48 ∷ []) ∷ slice_split (λ b. b == 120) rest =
    sym (slice_split_none (λ b. b == 120) (decimal a) lacks) ∙ ap (slice_split (λ b. b == 120)) e
    ∙ slice_split_at (λ b. b == 120) (48 ∷ []) 120 rest (All-from_recursion (IsOther 120) (48 ∷ []) (refl, tt)) refl in
    let one : decimal a ≡ 48 ∷ [] = ap (λ l. get_or l 0 []) parts in
    let h = ap length (sym one ∙ e) in omega (arith, h)

named_lacks : (h : Bool) (a : ℕ) → a < 2 ^ 48 → Lacks hyphen (if h then decimal a else hex_name a)
named_lacks true a small = decimal_lacks hyphen a (inl (omega arith)) (omega (arith, small))
named_lacks false a small = hex_lacks a

same_named : (h k : Bool) (a b : ℕ) → a < 2 ^ 48 → b < 2 ^ 48
    → (if h then decimal a else hex_name a) ≡ (if k then decimal b else hex_name b) → a ≡ b
same_named true true a b small fits e = decimal_injective a b (omega (arith, small)) (omega (arith, fits)) e
same_named true false a b small fits e =
    absurd (not_hex a (encode_lower (big_bytes 6 b)) (omega (arith, small)) e)
same_named false true a b small fits e =
    absurd (not_hex b (encode_lower (big_bytes 6 a)) (omega (arith, fits)) (sym e))
same_named false false a b small fits e = same_hex a b small fits e

-- ---- whole names

-- SIDs with one name are equal
pub one_name : (a b : Sid) → IsSid a → IsSid b → sid_name a ≡ sid_name b → a ≡ b
one_name a b is it e =
    let names : authority_name a.authority ++ flat_map word_name a.words
    ≡ authority_name b.authority ++ flat_map word_name b.words = ap (drop 4) e in
    let parts : authority_name a.authority ∷ map decimal a.words ≡ authority_name b.authority ∷ map decimal b.words =
    sym (split_name (authority_name a.authority) a.words
    (named_lacks (nat_lt a.authority (2 ^ 32)) a.authority is.authority) is.words)
    ∙ ap (slice_split is_hyphen) names
    ∙ split_name (authority_name b.authority) b.words
    (named_lacks (nat_lt b.authority (2 ^ 32)) b.authority it.authority) it.words in
    let authority = same_named (nat_lt a.authority (2 ^ 32)) (nat_lt b.authority (2 ^ 32)) a.authority b.authority
    is.authority it.authority (ap (λ l. get_or l 0 []) parts) in
    let words = same_words a.words b.words is.words it.words (ap (drop 1) parts) in
    ap (λ n. record { authority = n; words = a.words }) authority
    ∙ ap (λ l. record { authority = b.authority; words = l }) words
