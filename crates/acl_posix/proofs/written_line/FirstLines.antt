-- Lines that are read in one step: the first line of a text spells its entry.
use Rattle.acl_posix.proofs.Common.{[], Access, ap, append_assoc, AreFirstDigits, arith, Bool, Bor, codes, Decides-eqb, Default, digits_value, drop, drop_more, eqb, false, get_or, greatest_id, group, id_of, IfSome, is_all_blank, is_ascii_digit, is_named, is_number, IsEntryBefore, IsFirstLine, IsId, IsIdBefore, IsPerm, IsPermBefore, length, length-append, length-take-le, letter_of, lines_of, List, list_all, long_word, MatchOption, nat_le, nat_tests, None, Option, Part, perm_text, pointwise, qualifier, refl, slice_split_at, Some, Spells, strip_prefix_is, sym, Table, Tag, take, take-append-drop, take_rest, true, user, ℕ, ◌++◌, ◌+◌, ◌-◌, ◌<◌, ◌∙◌, ◌∷◌, ◌≡◌, ◌≤◌}
use Rattle.acl_posix.proofs.writer.WrittenEntries.{absent, access_spelled, all_also, default_spelled, fields_are_text, fields_text, is_field_byte, is_text, IsQualifierOf, long_is, long_mark, perm_alone, IsField, starts_filled, Text, text_append, text_from_plain}
use Rattle.acl_posix.specs.declared.digits.FirstDigits.{FirstDigits}
use Rattle.acl_posix.proofs.digits.DigitLemmas.{digits_all, not_empty, some_digit}
use Rattle.acl_posix.proofs.writer.EntryLines.{text_piece}

-- ---- digits

-- a digit is a plain byte
digit_is_plain : (b : ℕ) → is_ascii_digit b ≡ true → is_field_byte b ≡ true
digit_is_plain b h = grind (arith, nat_tests)

-- digits are plain bytes
digits_plain : (bs : List ℕ) → list_all is_ascii_digit bs ≡ true → IsField bs
digits_plain bs h = all_also is_ascii_digit is_field_byte digit_is_plain bs h

-- one digit or more, and digits alone, are a number
number_from_digits : (bs : List ℕ) → 0 < length bs → list_all is_ascii_digit bs ≡ true → is_number bs ≡ true
number_from_digits bs some h = rw (not_empty bs some) h

-- the digits before a colon are the id
pub id_found : {bs rest : List ℕ} {first : FirstDigits} {id : ℕ} → AreFirstDigits bs first → 0 < first.count
    → first.count < length bs → get_or bs first.count 0 ≡ 58 → id ≡ first.value → IsId id
    → rest ≡ drop (first.count + 1) bs → IsIdBefore bs id rest
unfolding id_of
id_found {bs} {rest} {first} digits some inside colon is within behind =
    let long : length (take first.count bs) ≡ first.count = length-take-le first.count bs (omega arith) in
    let fits : nat_le (digits_value 10 (take first.count bs)) greatest_id ≡ true =
    (let same = is ∙ digits.value in grind (arith, nat_tests)) in
    record {
      digits = take first.count bs;
      parts = sym (take-append-drop first.count bs) ∙ ap (λ (xs : List ℕ). take first.count bs ++ xs)
          (drop_more bs first.count 0 inside ∙ ap (λ (b : ℕ). b ∷ drop (first.count + 1) bs) colon
          ∙ ap (λ (xs : List ℕ). 58 ∷ xs) (sym behind));
      number = number_from_digits (take first.count bs) (omega (arith, long)) digits.digits;
      value = rw fits (ap (λ (n : ℕ). Some n) (sym (is ∙ digits.value)));
    }

-- bytes with a beginning are that beginning and the bytes after it
pub behind_is : (bs beginning : List ℕ) (r : Option (Bor (List ℕ)))
    → MatchOption r (pointwise eqb (take (length beginning) bs) beginning ≡ false)
    (λ x. (pointwise eqb (take (length beginning) bs) beginning ≡ true) × (x.now ≡ drop (length beginning) bs)
    × (length x.now + length beginning ≡ length bs)) → IfSome r (λ rest. bs ≡ beginning ++ rest.now)
behind_is bs beginning None h = tt
behind_is bs beginning (Some x) h = strip_prefix_is Decides-eqb bs beginning (Some x) h

-- ---- permissions

-- a list of four bytes or more is its first four bytes and the rest
four_apart : (bs : List ℕ) → 4 ≤ length bs
    → bs ≡ get_or bs 0 0 ∷ get_or bs 1 0 ∷ get_or bs 2 0 ∷ get_or bs 3 0 ∷ drop 4 bs
four_apart (a ∷ b ∷ c ∷ d ∷ bs) h = refl
four_apart bs h = absurd (omega arith)

-- two lists are equal if their first four bytes and the rest are equal
same_four : {a b c d e f g h : ℕ} {xs ys : List ℕ} → a ≡ e → b ≡ f → c ≡ g → d ≡ h → xs ≡ ys
    → a ∷ b ∷ c ∷ d ∷ xs ≡ e ∷ f ∷ g ∷ h ∷ ys
same_four p q r s t = cc

-- three letters and a line feed are permissions
pub perm_found : (bs : List ℕ) (r w x : Bool) (perm : ℕ) → 4 ≤ length bs → get_or bs 0 0 ≡ letter_of r 114
    → get_or bs 1 0 ≡ letter_of w 119 → get_or bs 2 0 ≡ letter_of x 120 → get_or bs 3 0 ≡ 10
    → perm_text perm ≡ letter_of r 114 ∷ letter_of w 119 ∷ letter_of x 120 ∷ [] → IsPerm perm
    → IsPermBefore bs perm (take (length bs - 4) (drop 4 bs))
perm_found bs r w x perm four read write execute feed is lt = record {
  parts = four_apart bs four ∙ same_four read write execute feed (sym (take_rest bs 4))
      ∙ ap (λ (t : List ℕ). t ++ 10 ∷ take (length bs - 4) (drop 4 bs)) (sym is);
  within = lt;
}

-- ---- a line

-- digits that spell the id of a USER or GROUP tag are a qualifier of that tag
qualifies : (t : Tag) (q : List ℕ) → is_named t ≡ true → is_number q ≡ true → id_of q ≡ Some (qualifier t)
    → IsQualifierOf t q
qualifies (user n) q named number id = record {
  plain = digits_plain q (digits_all q number);
  spells = λ names w means. record { is_word = means; filled = some_digit q number; is_id = rw number id };
}
qualifies (group n) q named number id = record {
  plain = digits_plain q (digits_all q number);
  spells = λ names w means. record { is_word = means; filled = some_digit q number; is_id = rw number id };
}
qualifies t q named number id = absurd cc

-- three written fields and a line feed are before the rest
pub record IsLineBefore (bytes : List ℕ) (t : Tag) (perm : ℕ) (rest : List ℕ) : Type 0 where
  pub digits : List ℕ
  pub parts : bytes ≡ fields_text (long_word t) digits (perm_text perm) ++ 10 ∷ rest
  pub is : IsQualifierOf t digits
  pub within : IsPerm perm

-- the line of an entry with an id is its three written fields, and the rest is after the line feed
line_before : (bytes : List ℕ) (entry : Tag × ℕ) (rest : List ℕ) → IsEntryBefore bytes entry rest
    → IsLineBefore bytes entry.0 entry.1 rest
line_before bytes entry rest h = record {
  digits = h.are.is_id.digits;
  parts = h.word ∙ ap (λ (xs : List ℕ). long_word entry.0 ++ 58 ∷ xs)
      (h.are.is_id.parts ∙ ap (λ (xs : List ℕ). h.are.is_id.digits ++ 58 ∷ xs) h.are.is_perm.parts
      ∙ sym (append_assoc h.are.is_id.digits (58 ∷ perm_text entry.1) (10 ∷ rest)))
      ∙ sym (append_assoc (long_word entry.0) (58 ∷ (h.are.is_id.digits ++ 58 ∷ perm_text entry.1)) (10 ∷ rest));
  is = qualifies entry.0 h.are.is_id.digits h.named h.are.is_id.number h.are.is_id.value;
  within = h.are.is_perm.within;
}

-- plain bytes, colons and a line feed are a first line
first_line : (text bytes rest : List ℕ) (part : Part) (entry : Tag × ℕ) → text ≡ bytes ++ 10 ∷ rest → Text bytes
    → is_all_blank bytes ≡ false → ((names : Table) → Spells names (record { column = 1; bytes = bytes }) (part, entry))
    → IsFirstLine text part entry rest
first_line text bytes rest part entry is plain some spells =
    let long = length-append bytes (10 ∷ rest) in
    record {
      bytes = bytes;
      lines = ap lines_of is ∙ slice_split_at (λ b. eqb b 10) bytes 10 rest (absent is_text 10 bytes refl plain) refl;
      shorter = omega (arith, long, ap length is);
      one = text_piece bytes plain some;
      spells = spells;
    }

-- the line of an entry with an id is a first line of the access part
pub access_first : (text : List ℕ) (entry : Tag × ℕ) (rest : List ℕ) → IsEntryBefore text entry rest
    → IsFirstLine text Access entry rest
access_first text entry rest h =
    let l = line_before text entry rest h in
    let word = long_is entry.0 in
    let w = long_word entry.0 in
    let p = perm_text entry.1 in
    first_line text (fields_text w l.digits p) rest Access entry l.parts
    (fields_are_text w l.digits entry.1 word.plain l.is.plain l.within)
    (starts_filled w (58 ∷ (l.digits ++ 58 ∷ p)) word.plain word.some_byte)
    (λ names. access_spelled names 1 w entry.0 l.digits entry.1 p l.is l.within word (perm_alone entry.1 l.within))

-- the line of an entry with an id after `default:` is a first line of the default part
pub default_first : (text bytes : List ℕ) (entry : Tag × ℕ) (rest : List ℕ) → text ≡ codes "default:" ++ bytes
    → IsEntryBefore bytes entry rest → IsFirstLine text Default entry rest
default_first text bytes entry rest is h =
    let l = line_before bytes entry rest h in
    let word = long_is entry.0 in
    let w = long_word entry.0 in
    let p = perm_text entry.1 in
    let fields = fields_text w l.digits p in
    first_line text (codes "default" ++ 58 ∷ fields) rest Default entry
    (is ∙ ap (λ (xs : List ℕ). codes "default:" ++ xs) l.parts)
    (text_append (codes "default") (58 ∷ fields) (text_from_plain (codes "default") long_mark.plain)
    (fields_are_text w l.digits entry.1 word.plain l.is.plain l.within))
    (starts_filled (codes "default") (58 ∷ fields) long_mark.plain long_mark.some_byte)
    (λ names. default_spelled names 1 (codes "default") w entry.0 l.digits entry.1 p long_mark l.is l.within word
    (perm_alone entry.1 l.within))
