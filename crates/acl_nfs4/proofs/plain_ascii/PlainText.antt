-- The test for UTF-8, from the contract of `from_utf8`; and plain ASCII.
use Rattle.acl_nfs4.proofs.Common.{All-weaker, AllPass-from_list_all, arith, Bool, false, false_from_ne_true, is_no_who_len, is_plain, is_plain_ascii, is_unknown_special, is_utf8, is_utf8-from_IsUtf8, IsAscii-from_all, IsUtf8, IsUtf8-from_ascii, IsUtf8-from_is_utf8, length, length-take-le, List, list_all, list_all-from_AllPass, nat_tests, None, not, not-true, refl, sym, take, true, who_fault, ℕ, ◌<◌, ◌∙◌, ◌≡◌, ◌≤◌}

-- if bytes are UTF-8, the test says true
pub true_if_utf8 : (bytes : List ℕ) → IsUtf8 bytes → true ≡ is_utf8 bytes
true_if_utf8 bytes h = sym (is_utf8-from_IsUtf8 bytes h)

-- if bytes are not UTF-8, the test says false
pub false_if_not_utf8 : (bytes : List ℕ) → ¬ (IsUtf8 bytes) → false ≡ is_utf8 bytes
false_if_not_utf8 bytes h = sym (false_from_ne_true (is_utf8 bytes) (λ e. h (IsUtf8-from_is_utf8 bytes e)))

-- what the two tests for UTF-8 need
pub ruleset text_tests = (true_if_utf8, false_if_not_utf8)

-- ---- plain ASCII

-- bytes that pass a test pass a weaker test
pub all_weaker : (p q : ℕ → Bool) (bytes : List ℕ) → ((b : ℕ) → p b ≡ true → q b ≡ true) → list_all p bytes ≡ true
    → list_all q bytes ≡ true
all_weaker p q bytes each h = list_all-from_AllPass q bytes
    (All-weaker (λ b. p b ≡ true) (λ b. q b ≡ true) each bytes (AllPass-from_list_all p bytes h))

-- plain ASCII is UTF-8
pub plain_ascii_is_utf8 : (bytes : List ℕ) → list_all is_plain_ascii bytes ≡ true → is_utf8 bytes ≡ true
plain_ascii_is_utf8 bytes e = is_utf8-from_IsUtf8 bytes (IsUtf8-from_ascii bytes (IsAscii-from_all bytes
    (All-weaker (λ b. is_plain_ascii b ≡ true) (λ b. b < 128) (λ b h. grind (arith, nat_tests, h)) bytes
    (AllPass-from_list_all is_plain_ascii bytes e))))

-- plain ASCII has no control byte
pub plain_ascii_is_plain : (bytes : List ℕ) → list_all is_plain_ascii bytes ≡ true → list_all is_plain bytes ≡ true
plain_ascii_is_plain bytes e = all_weaker is_plain_ascii is_plain bytes (λ b h. grind (arith, nat_tests, h)) e

-- what the test of a who needs
pub ruleset plain_ascii = (plain_ascii_is_utf8, plain_ascii_is_plain)

-- plain ASCII of an allowed length at the front of bytes is a who, unless it is an unknown special identifier
pub plain_front_is_who : (bytes : List ℕ) (len : ℕ) (special : Bool) → is_no_who_len len ≡ false → len ≤ length bytes
    → list_all is_plain_ascii (take len bytes) ≡ true → special ≡ is_unknown_special (take len bytes)
    → not special ≡ true → who_fault (take len bytes) ≡ None
plain_front_is_who bytes len special some inside plain is other =
    let known : is_unknown_special (take len bytes) ≡ false = sym is ∙ not-true special other in
    rw (
      known,
      length-take-le len bytes inside,
      some,
      plain_ascii_is_utf8 (take len bytes) plain,
      plain_ascii_is_plain (take len bytes) plain,
    )
    refl
