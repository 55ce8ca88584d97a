-- Fields that name sets by a table: they are cut at their bars, and joined again.
use Rattle.acl_nfs4.proofs.Common.{[], All, All-weaker, AllPass-from_list_all, and_true, ap, arith, bit_in, bit_or, BitName, bits_in, Bool, bytes_eq, bytes_eq_same, cond, drop, eqb, false, find, flag_names, has_bit, has_bit-or, IfSome, inl, inr, is_name_of, IsFieldCut, IsSomeAnd, join_with_byte, join_with_byte-slice_split, length, length-drop, length-slice_split, List, list_all, map, Mask, mask_named, no_names, None, not, not-true, Option, option_and_then, option_map, option_map_or, parts_after, refl, rights, same_set, same_Some, set_named, slice_split, slice_split_at, slice_split_first, slice_split_none, Some, SpellsMask, SpellsSet, sym, take, true, ℕ, ◌&&◌, ◌+◌, ◌^◌, ◌∙◌, ◌∷◌, ◌≡◌, ◌≢◌}
use Rattle.std.proofs.Math.Bool.{or_assoc as either_assoc}
use Rattle.acl_perm.proofs.Bools.{or_true}
use Rattle.acl_perm.proofs.Cuts.{Says, split_none}

-- a bar
abbrev pub is_bar : ℕ → Bool
is_bar b = eqb b 0x7c

-- a field without a bar is cut at its end
pub cut_none : (field : List ℕ) → Says is_bar field None → IsFieldCut field field None
cut_none field h = record { parts = split_none is_bar field h; shorter = omega arith }

-- a field with a bar is cut at the bar
pub cut_some : (field rest : List ℕ) (i : ℕ) → Says is_bar field (Some i) → rest ≡ drop (i + 1) field
    → IsFieldCut field (take i field) (Some rest)
cut_some field rest i h e =
    let lt = h.in_range in
    let split : slice_split is_bar field ≡ take i field ∷ slice_split is_bar (drop (i + 1) field) =
    slice_split_first is_bar field 0 (omega (arith, h.first))
    ∙ ap (λ (n : ℕ). take n field ∷ slice_split is_bar (drop (n + 1) field)) h.first in
    record { parts = rw e split; shorter = omega (arith, ap length e, length-drop (i + 1) field) }

-- ---- the union so far, and what is left

-- what the rest of a field names, together with the bits so far
abbrev pub bits_from : List BitName → ℕ → Option (List ℕ) → Option ℕ
bits_from table so_far after = option_map (bit_or so_far) (bits_in table (parts_after after))

-- the union of three sets may be grouped in either way
pub or_assoc : (a b c : ℕ) → bit_or (bit_or a b) c ≡ bit_or a (bit_or b c)
or_assoc a b c = same_set _ _ (λ k. simp has_bit-or (either_assoc (has_bit a k) (has_bit b k) (has_bit c k)))

-- the union of two sets and then of the rest is the union of the first with that of the second and the rest
joined_bits : (so_far bit : ℕ) (r : Option ℕ)
    → option_map (bit_or (bit_or so_far bit)) r ≡ option_map (bit_or so_far) (option_map (bit_or bit) r)
joined_bits so_far bit None = refl
joined_bits so_far bit (Some m) = ap (λ (n : ℕ). Some n) (or_assoc so_far bit m)

-- after one more word, the bits so far and the rest still name the same set
pub next_left : (table : List BitName) (so_far bit : ℕ) {field word : List ℕ} {after : Option (List ℕ)}
    {total : Option ℕ}
    → IsFieldCut field word after → Some bit ≡ bit_in table word → bits_from table so_far (Some field) ≡ total
    → bits_from table (bit_or so_far bit) after ≡ total
next_left table so_far bit {after = after} cut named e =
    joined_bits so_far bit (bits_in table (parts_after after)) ∙ rw (cut.parts, ← named) at e

-- ---- tables whose names can be in a field

-- a word without a bar
abbrev is_whole : List ℕ → Bool
is_whole word = list_all (λ b. not (is_bar b)) word

-- no name of the row has a bar
abbrev pub has_whole_names : BitName → Bool
has_whole_names r = is_whole r.name && option_map_or is_whole r.second true

-- the first name of each row names its bit
abbrev pub NameThemselves : List BitName → List BitName → Type 0
NameThemselves table rows =
    map (λ (row : BitName). bit_in table row.name) rows ≡ map (λ (row : BitName). Some row.bit) rows

-- the bits of rows are the powers of two at these places
abbrev pub AreBits : List BitName → List ℕ → Type 0
AreBits rows places = map (λ (row : BitName). row.bit) rows ≡ map (λ k. 2 ^ k) places

-- no name has a bar or is the field of the empty set, each first name names its bit, and each bit is a power of two
pub record IsTable (table : List BitName) : Type 0 where
  pub whole : list_all has_whole_names table ≡ true
  pub no_dash : bit_in table no_names ≡ None
  pub named : NameThemselves table table
  pub places : List ℕ
  pub bits : AreBits table places

-- the table of the rights is such a table
pub rights_table : IsTable rights
rights_table = record {
  whole = refl;
  no_dash = refl;
  named = refl;
  places = 0 ∷ 1 ∷ 2 ∷ 3 ∷ 4 ∷ 5 ∷ 6 ∷ 7 ∷ 8 ∷ 9 ∷ 10 ∷ 16 ∷ 17 ∷ 18 ∷ 19 ∷ 20 ∷ [];
  bits = refl;
}

-- the table of the flags is such a table
pub flags_table : IsTable flag_names
flags_table = record {
  whole = refl;
  no_dash = refl;
  named = refl;
  places = 0 ∷ 1 ∷ 2 ∷ 3 ∷ 4 ∷ 5 ∷ 6 ∷ 7 ∷ [];
  bits = refl;
}

-- ---- the parts of a field

-- if bytes pass the test for bytes other than c, none of them is c
pub all_apart : (c : ℕ) (word : List ℕ) → list_all (λ b. not (eqb b c)) word ≡ true → All (λ b. eqb b c ≡ false) word
all_apart c word e = All-weaker _ _ (λ b h. not-true (eqb b c) h) word (AllPass-from_list_all _ word e)

-- a row that a word names, which passes a test
pub record IsRowOf (test : BitName → Bool) (word : List ℕ) (bit : ℕ) : Type 0 where
  pub row : BitName
  pub passes : test row ≡ true
  pub named : is_name_of word row ≡ true
  pub same_bit : row.bit ≡ bit

-- the bit that a word names is the bit of a row
pub row_of : (test : BitName → Bool) (rows : List BitName) (word : List ℕ) (bit : ℕ) → list_all test rows ≡ true
    → bit_in rows word ≡ Some bit → IsRowOf test word bit
row_of test [] word bit all e = absurd cc
row_of test (row ∷ rows) word bit all e =
    let both = and_true (test row) (list_all test rows) all in
    elim (is_name_of word row) as (λ t. is_name_of word row ≡ t
    → option_map (λ (r : BitName). r.bit) (cond t (Some row) (find (is_name_of word) rows)) ≡ Some bit
    → IsRowOf test word bit) [
      | true ↦ λ named f. record { row = row; passes = both.0; named = named; same_bit = cc }
      | false ↦ λ other f. row_of test rows word bit both.1 f
    ] refl e

-- a word that names a bit has no bar
word_whole : (table : List BitName) (word : List ℕ) (bit : ℕ) → IsTable table → bit_in table word ≡ Some bit
    → All (λ b. is_bar b ≡ false) word
word_whole table word bit is e =
    let r = row_of has_whole_names table word bit is.whole e in
    let names = and_true (is_whole r.row.name) (option_map_or is_whole r.row.second true) r.passes in
    let named = or_true (bytes_eq word r.row.name) (option_map_or (bytes_eq word) r.row.second false) r.named in
    all_apart 0x7c word (elim named [
      | inl first ↦ ap is_whole (bytes_eq_same word r.row.name first) ∙ names.0
      | inr other ↦ second r.row.second names.1 other
    ]) where
      second : (o : Option (List ℕ)) → option_map_or is_whole o true ≡ true
          → option_map_or (bytes_eq word) o false ≡ true → is_whole word ≡ true
      second None p q = absurd cc
      second (Some name) p q = ap is_whole (bytes_eq_same word name q) ∙ p

-- the first of some words names a bit, and the others name a set
pub record FirstNamed (table : List BitName) (word : List ℕ) (words : List (List ℕ)) (set : ℕ) : Type 0 where
  pub bit : ℕ
  pub others : ℕ
  pub named : bit_in table word ≡ Some bit
  pub rest : bits_in table words ≡ Some others
  pub union : bit_or bit others ≡ set

-- words that name a set are a first word and others
pub first_named : (table : List BitName) (word : List ℕ) (words : List (List ℕ)) (set : ℕ)
    → bits_in table (word ∷ words) ≡ Some set → FirstNamed table word words set
first_named table word words set e = both (bit_in table word) (bits_in table words) refl refl e where
  both : (o r : Option ℕ) → bit_in table word ≡ o → bits_in table words ≡ r
      → option_and_then (λ bit. option_map (bit_or bit) r) o ≡ Some set → FirstNamed table word words set
  both None r named rest h = absurd cc
  both (Some bit) None named rest h = absurd cc
  both (Some bit) (Some others) named rest h =
      record { bit = bit; others = others; named = named; rest = rest; union = cc }

-- names that are joined by bars are cut into the same names
split_joined : (table : List BitName) (word : List ℕ) (words : List (List ℕ)) (set : ℕ) → IsTable table
    → bits_in table (word ∷ words) ≡ Some set → slice_split is_bar (join_with_byte 0x7c (word ∷ words)) ≡ word ∷ words
split_joined table word [] set is e =
    let f = first_named table word [] set e in
    slice_split_none is_bar word (word_whole table word f.bit is f.named)
split_joined table word (next ∷ words) set is e =
    let f = first_named table word (next ∷ words) set e in
    slice_split_at is_bar word 0x7c (join_with_byte 0x7c (next ∷ words)) (word_whole table word f.bit is f.named) refl
    ∙ ap (λ (ws : List (List ℕ)). word ∷ ws) (split_joined table next words f.others is f.rest)

-- ---- the relation and the function

-- a field has at least one part
some_parts : (field : List ℕ) → slice_split is_bar field ≢ []
some_parts field e = omega (arith, length-slice_split is_bar field, ap length e)

-- a field spells the set that it names
pub named_is_spelled : (table : List BitName) (field : List ℕ) (set : ℕ) → set_named table field ≡ Some set
    → SpellsSet table field set
unfolding set_named
named_is_spelled table field set e =
    elim (bytes_eq field no_names) as (λ b. bytes_eq field no_names ≡ b
    → cond b (Some 0) (bits_in table (slice_split is_bar field)) ≡ Some set → SpellsSet table field set) [
      | true ↦ λ same given. inl (bytes_eq_same field no_names same, sym (same_Some _ _ given))
      | false ↦ λ other given. inr (
        slice_split is_bar field,
        some_parts field,
        sym (join_with_byte-slice_split 0x7c field),
        given,
      )
    ] refl e

-- the set that words name is the set of the field that they make
words_again : (table : List BitName) (field : List ℕ) (set : ℕ) (words : List (List ℕ)) → IsTable table
    → words ≢ [] → field ≡ join_with_byte 0x7c words → bits_in table words ≡ Some set → set_named table field ≡ Some set
unfolding set_named
words_again table field set [] is some joined named = absurd (some refl)
words_again table field set (word ∷ words) is some joined named =
    let given : bits_in table (slice_split is_bar field) ≡ Some set =
    rw (joined, split_joined table word words set is named) named in
    elim (bytes_eq field no_names) as (λ b. bytes_eq field no_names ≡ b
    → cond b (Some 0) (bits_in table (slice_split is_bar field)) ≡ Some set) [
      | true ↦ λ same. let wrong = rw (bytes_eq_same field no_names same, is.no_dash) at given in absurd cc
      | false ↦ λ other. given
    ] refl

-- a field that spells a set names it
pub named_again : (table : List BitName) (field : List ℕ) (set : ℕ) → IsTable table → SpellsSet table field set
    → set_named table field ≡ Some set
unfolding set_named
named_again table field set is (inl s) = rw (s.0, s.1) refl
named_again table field set is (inr s) = words_again table field set s.0 is s.1 s.2 s.3

-- ---- what `read_mask` answers, seen as the number of its mask

-- the field spells the mask that is returned
pub answers_spelled : (field : List ℕ) (r : Option Mask) → option_map (λ m. m.bits) r ≡ mask_named field
    → IfSome r (λ m. SpellsMask field m.bits)
answers_spelled field None given = tt
answers_spelled field (Some m) given = named_is_spelled rights field m.bits (sym given)

-- a mask that the field spells is returned
pub answers_only : (field : List ℕ) (r : Option Mask) (mask : ℕ) → option_map (λ m. m.bits) r ≡ mask_named field
    → SpellsMask field mask → IsSomeAnd r (λ m. m.bits ≡ mask)
answers_only field None mask given s = let e = named_again rights field mask rights_table s in cc
answers_only field (Some m) mask given s = let e = named_again rights field mask rights_table s in cc
