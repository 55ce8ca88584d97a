-- An entry as it is written spells that entry, with every table of names and at any column.
use Rattle.acl_posix.proofs.Common.{[], Access, All, All-push, All-weaker, AllPass-from_list_all, and_true, ap, append_assoc, arith, Bool, codes, cut_at, decimal, decimal_by_steps, decimal_is_IsNumeral, Default, end_trimmed, end_trimmed-push_blank, EntryFields, eqb, false, fields_of, greatest_id, group, HasEntryFields, id_in, id_of, Ids, IfSome, is_all_blank, is_ascii_digit, is_blank, is_default, IsEntry, IsId, IsPerm, IsTag, length, List, list_all, list_all-append, list_all-from_AllPass, long_word, nat_le, nat_tests, None, Option, option_map, Part, PartEntry, perm_text, permissions_of, qualifier_text, refl, short_word, slice_split, slice_split_at, slice_split_none, Some, Span, Spells, SpellsTag, subst, suc, Table, Tag, tag_row, TagWord, take, trimmed, true, unwrap_or, User, user, word_of, word_text, zero, ℕ, ◌%◌, ◌&&◌, ◌++◌, ◌+◌, ◌<◌, ◌==◌, ◌^◌, ◌||◌, ◌∙◌, ◌∷◌, ◌≡◌}

-- ---- bytes of fields

-- a lowercase letter, a digit or -
abbrev pub is_field_byte : ℕ → Bool
is_field_byte b = (b == 45) || (nat_le 48 b && nat_le b 57) || (nat_le 97 b && nat_le b 122)

-- bytes that are all lowercase letters, digits or -
abbrev pub IsField : List ℕ → Type 0
IsField bs = list_all is_field_byte bs ≡ true

-- a byte that passes a test differs from one that does not
other_byte : (p : ℕ → Bool) (b c : ℕ) → p c ≡ false → p b ≡ true → eqb b c ≡ false
other_byte p b c fails is = grind (arith, nat_tests)

-- bytes that pass a test are without a byte that does not pass it
pub absent : (p : ℕ → Bool) (c : ℕ) (bs : List ℕ) → p c ≡ false → list_all p bs ≡ true → All (λ b. eqb b c ≡ false) bs
absent p c bs fails h = All-weaker (λ b. p b ≡ true) (λ b. eqb b c ≡ false) (λ b is. other_byte p b c fails is) bs
    (AllPass-from_list_all p bs h)

-- a plain byte is not a blank
not_blank : (b : ℕ) → is_field_byte b ≡ true → is_blank b ≡ false
not_blank b h = grind (arith, nat_tests)

-- plain bytes have no blanks at their end
end_plain : (bs : List ℕ) → IsField bs → end_trimmed bs ≡ bs
end_plain [] h = refl
end_plain (b ∷ bs) h = let both = and_true _ _ h in
    rw (not_blank b both.0) (ap (λ (xs : List ℕ). b ∷ xs) (end_plain bs both.1))

-- plain bytes have no blanks to be trimmed
pub trimmed_plain : (bs : List ℕ) → IsField bs → trimmed bs ≡ bs
unfolding trimmed
trimmed_plain [] h = refl
trimmed_plain (b ∷ bs) h = let both = and_true _ _ h in
    rw (not_blank b both.0, not_blank b both.0) (ap (λ (xs : List ℕ). b ∷ xs) (end_plain bs both.1))

-- a tab after plain bytes is trimmed
trimmed_tab : (bs : List ℕ) → IsField bs → trimmed (bs ++ 9 ∷ []) ≡ bs
unfolding trimmed
trimmed_tab [] h = refl
trimmed_tab (b ∷ bs) h = let both = and_true _ _ h in
    rw (not_blank b both.0, not_blank b both.0)
    (ap (λ (xs : List ℕ). b ∷ xs) (end_trimmed-push_blank bs 9 refl ∙ end_plain bs both.1))

-- ---- fields

-- the decimal digits of a number pass a test that each digit passes
decimal_pass : (p : ℕ → Bool) → ((b : ℕ) → b < 10 → p (48 + b) ≡ true) → (n : ℕ) → n < 2 ^ 64
    → list_all p (decimal n) ≡ true
decimal_pass p each n lt =
    decimal_by_steps (λ _ ds. list_all p ds ≡ true) (λ d small. ap (λ t. t && true) (each d small))
    (λ m ds large so_far. list_all-append p ds ((48 + m % 10) ∷ []) ∙ ap (λ t. t && (p (48 + m % 10) && true)) so_far
    ∙ ap (λ t. t && true) (each (m % 10) (omega arith))) n lt

-- an id in decimal, or nothing, is plain bytes
decimal_plain : (number : Option ℕ) → IfSome number IsId → IsField (unwrap_or (option_map decimal number) [])
decimal_plain None h = refl
decimal_plain (Some id) h = decimal_pass is_field_byte (λ b lt. grind (arith, nat_tests)) id (omega (arith, h))

-- a qualifier is written in plain bytes
pub qualifier_plain : (t : Tag) → IsTag t → IsField (qualifier_text t)
qualifier_plain t h = decimal_plain (tag_row t).qualifier h

-- permissions pass a test that their letters and - pass
pub perm_pass : (p : ℕ → Bool) → p 45 ≡ true → p 114 ≡ true → p 119 ≡ true → p 120 ≡ true → (perm : ℕ)
    → list_all p (perm_text perm) ≡ true
perm_pass p none read write execute perm = grind arith

-- permissions are written in plain bytes
pub perm_plain : (p : ℕ) → IsPerm p → IsField (perm_text p)
perm_plain p lt = perm_pass is_field_byte refl refl refl refl p

-- permissions that are written read back
pub perm_again : (p : ℕ) → IsPerm p → permissions_of (perm_text p) ≡ Some p
unfolding permissions_of
perm_again zero lt = refl
perm_again (suc zero) lt = refl
perm_again (suc (suc zero)) lt = refl
perm_again (suc (suc (suc zero))) lt = refl
perm_again (suc (suc (suc (suc zero)))) lt = refl
perm_again (suc (suc (suc (suc (suc zero))))) lt = refl
perm_again (suc (suc (suc (suc (suc (suc zero)))))) lt = refl
perm_again (suc (suc (suc (suc (suc (suc (suc zero))))))) lt = refl
perm_again (suc (suc (suc (suc (suc (suc (suc (suc p)))))))) lt = absurd (omega arith)

-- a number in decimal spells itself as an id, whatever the names are
id_again : (ids : Ids) (n : ℕ) → IsId n → (0 < length (decimal n)) × (id_in ids (decimal n) ≡ Some n)
unfolding id_of
id_again ids n lt =
    let is = decimal_is_IsNumeral n (omega (arith, lt)) in
    let positive : 0 < length (decimal n) = is.0.0 in
    let some : eqb (length (decimal n)) 0 ≡ false = grind (arith, nat_tests) in
    let digits : list_all is_ascii_digit (decimal n) ≡ true =
    decimal_pass is_ascii_digit (λ b small. grind (arith, nat_tests)) n (omega arith) in
    let small : nat_le n greatest_id ≡ true = grind (arith, nat_tests) in
    (positive, rw (some, digits, is.1, small) refl)

-- bytes that spell a tag word
pub record IsWordOf (word : TagWord) (w : List ℕ) : Type 0 where
  pub plain : IsField w
  pub some_byte : 0 < length w
  pub means : word_of w ≡ Some word
  pub no_default : is_default w ≡ false

-- the word of a tag in full and its first letter spell that word
both_words : (word : TagWord) → IsWordOf word (word_text word) × IsWordOf word (take 1 (word_text word))
unfolding word_of
both_words User = (
  record { plain = refl; some_byte = omega arith; means = refl; no_default = refl },
  record { plain = refl; some_byte = omega arith; means = refl; no_default = refl },
)
both_words word = (
  record { plain = refl; some_byte = omega arith; means = refl; no_default = refl },
  record { plain = refl; some_byte = omega arith; means = refl; no_default = refl },
)

-- the long word of a tag is one of its words
pub long_is : (t : Tag) → IsWordOf (tag_row t).word (long_word t)
long_is t = (both_words (tag_row t).word).0

-- the short word of a tag is one of its words
pub short_is : (t : Tag) → IsWordOf (tag_row t).word (short_word t)
short_is t = (both_words (tag_row t).word).1

-- a word that marks an entry of a default ACL
pub record IsMark (d : List ℕ) : Type 0 where
  pub plain : IsField d
  pub some_byte : 0 < length d
  pub means : is_default d ≡ true

-- `default` marks an entry of the default ACL
pub long_mark : IsMark (codes "default")
long_mark = record { plain = refl; some_byte = omega arith; means = refl }

-- `d` marks an entry of the default ACL
pub short_mark : IsMark (codes "d")
short_mark = record { plain = refl; some_byte = omega arith; means = refl }

-- a word of a tag and the qualifier as it is written spell the tag
tag_spelled : (names : Table) (w : List ℕ) (t : Tag) → IsTag t → word_of w ≡ Some (tag_row t).word
    → SpellsTag names w (qualifier_text t) t
tag_spelled names w (user id) h e =
    let again = id_again names.users id h in record { is_word = e; filled = again.0; is_id = again.1 }
tag_spelled names w (group id) h e =
    let again = id_again names.groups id h in record { is_word = e; filled = again.0; is_id = again.1 }
tag_spelled names w t h e = (e, refl)

-- the bytes of a last field that spell permissions
pub record IsPermText (p : ℕ) (ps : List ℕ) : Type 0 where
  pub trims : trimmed ps ≡ perm_text p
  pub no_colon : All (λ b. eqb b 58 ≡ false) ps

-- permissions without a blank are a field
pub perm_alone : (p : ℕ) → IsPerm p → IsPermText p (perm_text p)
perm_alone p lt = record {
  trims = trimmed_plain (perm_text p) (perm_plain p lt);
  no_colon = absent is_field_byte 58 (perm_text p) refl (perm_plain p lt);
}

-- permissions with a tab after them are a field
pub perm_tab : (p : ℕ) → IsPerm p → IsPermText p (perm_text p ++ 9 ∷ [])
perm_tab p lt = record {
  trims = trimmed_tab (perm_text p) (perm_plain p lt);
  no_colon = All-push (λ b. eqb b 58 ≡ false) (perm_text p) 9 (perm_alone p lt).no_colon refl;
}

-- ---- pieces

-- plain bytes with a colon after them are cut off at that colon
colon_next : (bs rest : List ℕ) → IsField bs → slice_split (λ b. eqb b 58) (bs ++ 58 ∷ rest)
    ≡ bs ∷ slice_split (λ b. eqb b 58) rest
colon_next bs rest h = slice_split_at (λ b. eqb b 58) bs 58 rest (absent is_field_byte 58 bs refl h) refl

-- a qualifier that spells a tag after the word of the tag
pub record IsQualifierOf (t : Tag) (q : List ℕ) : Type 0 where
  pub plain : IsField q
  pub spells : (names : Table) (w : List ℕ) → word_of w ≡ Some (tag_row t).word → SpellsTag names w q t

-- a qualifier as it is written spells its tag after the word of the tag
pub written_qualifier : (t : Tag) → IsTag t → IsQualifierOf t (qualifier_text t)
written_qualifier t h =
    record { plain = qualifier_plain t h; spells = λ names w means. tag_spelled names w t h means }

-- a word, a qualifier and permissions with colons between them
abbrev pub fields_text : List ℕ → List ℕ → List ℕ → List ℕ
fields_text w q ps = w ++ 58 ∷ (q ++ 58 ∷ ps)

-- three written fields are cut at the colons into these fields
three_split : (w : List ℕ) (t : Tag) (q : List ℕ) (p : ℕ) (ps : List ℕ) → IsQualifierOf t q
    → IsWordOf (tag_row t).word w → IsPermText p ps → slice_split (λ b. eqb b 58) (fields_text w q ps) ≡ w ∷ q ∷ ps ∷ []
three_split w t q p ps hq hw hp = rw (
  colon_next w (q ++ 58 ∷ ps) hw.plain,
  colon_next q ps hq.plain,
  slice_split_none (λ b. eqb b 58) ps hp.no_colon,
) refl

-- a text that begins with a plain byte is not blank
pub starts_filled : (w rest : List ℕ) → IsField w → 0 < length w → is_all_blank (w ++ rest) ≡ false
starts_filled [] rest h some = absurd (omega (arith, some))
starts_filled (b ∷ bs) rest h some = ap (λ t. t && is_all_blank (bs ++ rest)) (not_blank b (and_true _ _ h).0)

-- the fields of a written entry, with their columns
abbrev fields_at : ℕ → Part → List ℕ → List ℕ → List ℕ → EntryFields
fields_at column part w q ps = record {
  part = part;
  tag = record { column = column; bytes = w };
  qualifier = record { column = column + length w + 1; bytes = q };
  permissions = record { column = column + length w + 1 + length q + 1; bytes = ps };
}

-- a piece with three written fields spells their entry
fields_spell_entry : (names : Table) (piece : Span) (column : ℕ) (part : Part) (w : List ℕ) (t : Tag) (q : List ℕ)
    (p : ℕ) (ps : List ℕ) → HasEntryFields piece (fields_at column part w q ps) → IsQualifierOf t q → IsPerm p
    → IsWordOf (tag_row t).word w → IsPermText p ps → Spells names piece (part, (t, p))
fields_spell_entry names piece column part w t q p ps has hq lt hw hp = record {
  fields = fields_at column part w q ps;
  has = has;
  is_part = refl;
  has_tag = rw (trimmed_plain w hw.plain, trimmed_plain q hq.plain) (hq.spells names w hw.means);
  is_perm = ap permissions_of hp.trims ∙ perm_again p lt;
}

-- three written fields spell their entry of the access part
pub access_spelled : (names : Table) (column : ℕ) (w : List ℕ) (t : Tag) (q : List ℕ) (p : ℕ) (ps : List ℕ)
    → IsQualifierOf t q → IsPerm p → IsWordOf (tag_row t).word w → IsPermText p ps
    → Spells names (record { column = column; bytes = fields_text w q ps }) (Access, (t, p))
unfolding cut_at fields_of
access_spelled names column w t q p ps hq lt hw hp =
    fields_spell_entry names (record { column = column; bytes = fields_text w q ps }) column Access w t q p ps (record {
      filled = starts_filled w (58 ∷ (q ++ 58 ∷ ps)) hw.plain hw.some_byte;
      cut = rw (three_split w t q p ps hq hw hp, trimmed_plain w hw.plain, hw.no_default) refl;
    }) hq lt hw hp

-- three written fields after a mark spell their entry of the default part
pub default_spelled : (names : Table) (column : ℕ) (d w : List ℕ) (t : Tag) (q : List ℕ) (p : ℕ) (ps : List ℕ)
    → IsMark d → IsQualifierOf t q → IsPerm p → IsWordOf (tag_row t).word w → IsPermText p ps
    → Spells names (record { column = column; bytes = d ++ 58 ∷ fields_text w q ps }) (Default, (t, p))
unfolding cut_at fields_of
default_spelled names column d w t q p ps hd hq lt hw hp =
    fields_spell_entry names (record { column = column; bytes = d ++ 58 ∷ fields_text w q ps }) (column + length d + 1)
    Default w t q p ps (record {
      filled = starts_filled d (58 ∷ fields_text w q ps) hd.plain hd.some_byte;
      cut = rw (
        colon_next d (fields_text w q ps) hd.plain,
        three_split w t q p ps hq hw hp,
        trimmed_plain d hd.plain,
        hd.means,
      ) refl;
    }) hq lt hw hp

-- ---- bytes of whole entries

-- a plain byte or a colon
abbrev pub is_text : ℕ → Bool
is_text b = is_field_byte b || eqb b 58

-- plain bytes and colons alone
abbrev pub Text : List ℕ → Type 0
Text bs = list_all is_text bs ≡ true

-- bytes that pass a test pass a weaker test
pub all_also : (p q : ℕ → Bool) → ((b : ℕ) → p b ≡ true → q b ≡ true) → (bs : List ℕ) → list_all p bs ≡ true
    → list_all q bs ≡ true
all_also p q each bs h = list_all-from_AllPass q bs
    (All-weaker (λ b. p b ≡ true) (λ b. q b ≡ true) each bs (AllPass-from_list_all p bs h))

-- plain bytes are plain bytes and colons
pub text_from_plain : (bs : List ℕ) → IsField bs → Text bs
text_from_plain bs h = all_also is_field_byte is_text (λ b is. ap (λ t. t || eqb b 58) is) bs h

-- plain bytes and colons with such bytes after them are plain bytes and colons
pub text_append : (xs ys : List ℕ) → Text xs → Text ys → Text (xs ++ ys)
text_append xs ys hx hy = list_all-append is_text xs ys ∙ ap (λ t. t && list_all is_text ys) hx ∙ hy

-- three written fields are plain bytes and colons
pub fields_are_text : (w q : List ℕ) (p : ℕ) → IsField w → IsField q → IsPerm p → Text (fields_text w q (perm_text p))
fields_are_text w q p hw hq hp = text_append w (58 ∷ (q ++ 58 ∷ perm_text p)) (text_from_plain w hw)
    (text_append q (58 ∷ perm_text p) (text_from_plain q hq) (text_from_plain (perm_text p) (perm_plain p hp)))

-- ---- entries in each form and part

-- what the entries of a text are written as
pub record IsWritten (text : PartEntry → List ℕ) : Type 0 where
  pub bytes : (e : PartEntry) → IsEntry e.1 → Text (text e)
  pub spells : (names : Table) (column : ℕ) (e : PartEntry) → IsEntry e.1
      → Spells names (record { column = column; bytes = text e }) e
  pub with_tab : (names : Table) (column : ℕ) (e : PartEntry) → IsEntry e.1
      → Spells names (record { column = column; bytes = text e ++ 9 ∷ [] }) e

-- an entry with the mark of a default entry, words for the tags, and these bytes as the last field
abbrev pub with_last : List ℕ → (Tag → List ℕ) → PartEntry → List ℕ → List ℕ
with_last mark word (Access, (t, p)) ps = fields_text (word t) (qualifier_text t) ps
with_last mark word (Default, (t, p)) ps = mark ++ 58 ∷ fields_text (word t) (qualifier_text t) ps

-- an entry with the mark of a default entry and words for the tags
abbrev pub written : List ℕ → (Tag → List ℕ) → PartEntry → List ℕ
written mark word e = with_last mark word e (perm_text e.1.1)

-- an entry as it is written is plain bytes and colons
bytes_of : (mark : List ℕ) (word : Tag → List ℕ) → IsMark mark → ((t : Tag) → IsWordOf (tag_row t).word (word t))
    → (e : PartEntry) → IsEntry e.1 → Text (written mark word e)
bytes_of mark word marks is (Access, (t, p)) h =
    fields_are_text (word t) (qualifier_text t) p (is t).plain (qualifier_plain t h.0) h.1
bytes_of mark word marks is (Default, (t, p)) h =
    text_append mark (58 ∷ fields_text (word t) (qualifier_text t) (perm_text p)) (text_from_plain mark marks.plain)
    (fields_are_text (word t) (qualifier_text t) p (is t).plain (qualifier_plain t h.0) h.1)

-- an entry with a last field that spells its permissions spells that entry
last_spells : (mark : List ℕ) (word : Tag → List ℕ) → IsMark mark → ((t : Tag) → IsWordOf (tag_row t).word (word t))
    → (names : Table) (column : ℕ) (e : PartEntry) (ps : List ℕ) → IsEntry e.1 → IsPermText e.1.1 ps
    → Spells names (record { column = column; bytes = with_last mark word e ps }) e
last_spells mark word marks is names column (Access, (t, p)) ps h perm =
    access_spelled names column (word t) t (qualifier_text t) p ps (written_qualifier t h.0) h.1 (is t) perm
last_spells mark word marks is names column (Default, (t, p)) ps h perm =
    default_spelled names column mark (word t) t (qualifier_text t) p ps marks (written_qualifier t h.0) h.1 (is t) perm

-- an entry with a tab in its last field is the entry as it is written with a tab after it
tab_behind : (mark : List ℕ) (word : Tag → List ℕ) (e : PartEntry)
    → with_last mark word e (perm_text e.1.1 ++ 9 ∷ []) ≡ written mark word e ++ 9 ∷ []
tab_behind mark word (Access, e) = simp append_assoc
tab_behind mark word (Default, e) = simp append_assoc

-- entries that are written with a mark and with words of their tags read back
is_written : (mark : List ℕ) (word : Tag → List ℕ) → IsMark mark → ((t : Tag) → IsWordOf (tag_row t).word (word t))
    → IsWritten (written mark word)
is_written mark word marks is = record {
  bytes = bytes_of mark word marks is;
  spells = λ names column e h. last_spells mark word marks is names column e (perm_text e.1.1) h (perm_alone e.1.1 h.1);
  with_tab = λ names column e h.
      subst (λ (bs : List ℕ). Spells names (record { column = column; bytes = bs }) e) (tab_behind mark word e)
      (last_spells mark word marks is names column e (perm_text e.1.1 ++ 9 ∷ []) h (perm_tab e.1.1 h.1));
}

-- an entry in the long form
abbrev pub long : PartEntry → List ℕ
long = written (codes "default") long_word

-- an entry in the short form
abbrev pub short : PartEntry → List ℕ
short = written (codes "d") short_word

-- an entry in the long form reads back
pub long_written : IsWritten long
long_written = is_written (codes "default") long_word long_mark long_is

-- an entry in the short form reads back
pub short_written : IsWritten short
short_written = is_written (codes "d") short_word short_mark short_is
