-- The fields of an entry of the text of FreeBSD and archives are read as they are written.
use Rattle.std.proofs.Common.{◌≡◌, ◌∙◌, ◌<◌, ◌≤◌, ℕ, Bool, true, false, eqb, List, [], ◌∷◌, ◌++◌, drop, length, None, Some, Ok, refl, sym, ap, arith}
use Rattle.std.specs.Prelude.{◌&&◌, bit_and, bit_or, codes, nat_le, not}
use Rattle.std.specs.Fmt.{decimal}
use Rattle.std.specs.Char.{is_ascii_digit}
use Rattle.std.specs.List.{list_all}
use Rattle.std.specs.Int.Bits.{or_zero_l, or_zero_r}
use Rattle.std.specs.Str.Parse.{AllDigits, digits_value}
use Rattle.std.proofs.lemmas.Bool.{eqb-true, le-leb, not-true}
use Rattle.std.proofs.lemmas.Bool.Decides.{nat_tests}
use Rattle.std.proofs.lemmas.Fmt.{decimal_is_IsNumeral, decimal_nonempty}
use Rattle.std.proofs.lemmas.Str.Parse.{digit_from_value}
use Rattle.acl_perm.proofs.Bools.{and_true}
use Rattle.acl_perm.specs.Lines.{blanks_before, end_trimmed, is_all_blank, is_blank, trimmed, Span}
use Rattle.acl_perm.specs.declared.kind.Kind.{Kind}
use Rattle.acl_perm.specs.declared.kind.Kind.TheVariants.{Deny, Allow}
use Rattle.acl_posix.specs.Id.{greatest_id, IsId}
use Rattle.acl_posix.specs.Names.{is_number}
unfoldable use Rattle.acl_posix.specs.Fields.{id_of}
use Rattle.acl_posix.proofs.Exports.{not_decimal}
use Rattle.acl_nfs4.specs.Who.{everyone_name, group_name, is_special, owner_name}
use Rattle.acl_nfs4.specs.Within.{IsWithin}
use Rattle.acl_nfs4.proofs.Exports.{and_or, bit_missing}
use Rattle.acl_forms.specs.Acl41Ids.{id_of_digits}
use Rattle.acl_forms.specs.Letters.{nfs_flag_letters, nfs_right_letters, no_letter, set_of_letters}
use Rattle.acl_forms.specs.NfsText.{flags_by_tag, id_alone, is_other_number, nfs_kind, nfs_tag_of, tag_special}
use Rattle.acl_forms.specs.NfsWritten.{account_word, kind_word, special_word, styled_letters}
use Rattle.acl_forms.specs.ToolsWritten.{meets}
use Rattle.acl_forms.specs.declared.fault.ReadReason.{ReadReason}
use Rattle.acl_forms.specs.declared.fault.ReadReason.TheVariants as reasons
use Rattle.acl_forms.specs.declared.nfs_text.fields.NfsTag.{NfsTag}
use Rattle.acl_forms.specs.declared.nfs_text.fields.NfsTag.TheVariants.{Everyone, NamedGroup, NamedUser, Owner, OwningGroup}
use Rattle.acl_forms.specs.declared.object.ObjectKind.TheVariants.{Directory}
use Rattle.acl_forms.specs.declared.style.LetterStyle.{LetterStyle}
use Rattle.acl_forms.proofs.LetterLemmas.{letters_union}
use Rattle.acl_forms.proofs.LettersReadBack.{AreReadBack}
use Rattle.acl_forms.proofs.StyledLetters.{styled_read}
use Rattle.acl_forms.proofs.ToolsEntriesReadBack.{apart_sets, is_inside, is_no_colon}
use Rattle.acl_forms.proofs.WhoLemmas.{id_is, no_id}

-- ---- blanks

-- a byte that is no blank
abbrev pub is_no_blank : ℕ → Bool
is_no_blank b = not (is_blank b)

-- bytes without blanks have none at their end
end_kept : (bs : List ℕ) → list_all is_no_blank bs ≡ true → end_trimmed bs ≡ bs
end_kept [] h = refl
end_kept (b ∷ bs) h =
    let both = and_true (is_no_blank b) (list_all is_no_blank bs) h in
    let no : is_blank b ≡ false = not-true (is_blank b) both.0 in
    rw no (ap (λ (l : List ℕ). b ∷ l) (end_kept bs both.1))

-- bytes without blanks have none at their ends
pub kept : (bs : List ℕ) → list_all is_no_blank bs ≡ true → trimmed bs ≡ bs
unfolding trimmed
kept [] h = refl
kept (b ∷ bs) h =
    let both = and_true (is_no_blank b) (list_all is_no_blank bs) h in
    let no : is_blank b ≡ false = not-true (is_blank b) both.0 in
    let none : blanks_before (b ∷ bs) ≡ 0 = rw no refl in
    ap (λ (n : ℕ). end_trimmed (drop n (b ∷ bs))) none ∙ end_kept (b ∷ bs) h

-- bytes that begin with some bytes without blanks are not all blank
pub not_all_blank : (bs rest : List ℕ) → list_all is_no_blank bs ≡ true → 0 < length bs
    → is_all_blank (bs ++ rest) ≡ false
not_all_blank [] rest h some = absurd (omega (arith, some))
not_all_blank (b ∷ bs) rest h some =
    let both = and_true (is_no_blank b) (list_all is_no_blank bs) h in
    let no : is_blank b ≡ false = not-true (is_blank b) both.0 in rw no refl

-- ---- letters

-- each letter of a right is read as the right
rights_again : (wrong : ReadReason) (set : ℕ)
    → AreReadBack (nfs_right_letters no_letter) Directory wrong set (nfs_right_letters [])
rights_again wrong set = (
  λ _ at. refl,
  (
    λ _ at. refl,
    (
      λ _ at. refl,
      (
        λ _ at. refl,
        (
          λ _ at. refl,
          (
            λ _ at. refl,
            (
              λ _ at. refl,
              (
                λ _ at. refl,
                (
                  λ _ at. refl,
                  (
                    λ _ at. refl,
                    (
                      λ _ at. refl,
                      (
                        λ _ at. refl,
                        (λ _ at. refl, (λ _ at. refl, tt)),
                      ),
                    ),
                  ),
                ),
              ),
            ),
          ),
        ),
      ),
    ),
  ),
)

-- each letter of a flag is read as the flag
flags_again : (wrong : ReadReason) (set : ℕ)
    → AreReadBack (nfs_flag_letters no_letter) Directory wrong set (nfs_flag_letters [])
flags_again wrong set = (
  λ _ at. refl,
  (
    λ _ at. refl,
    (
      λ _ at. refl,
      (
        λ _ at. refl,
        (
          λ _ at. refl,
          (
            λ _ at. refl,
            (λ _ at. refl, tt),
          ),
        ),
      ),
    ),
  ),
)

-- the letters of the rights of an ACE
abbrev pub rights_text : LetterStyle → ℕ → List ℕ
rights_text letters mask = styled_letters letters (nfs_right_letters []) mask

-- the letters of the flags of an ACE
abbrev pub flags_text : LetterStyle → ℕ → List ℕ
flags_text letters flags = styled_letters letters (nfs_flag_letters []) flags

-- the letters of rights stand for the rights
pub mask_again : (letters : LetterStyle) (at set : ℕ) → IsWithin 0x1f01ff set
    → set_of_letters (nfs_right_letters no_letter) Directory reasons.Mask at (rights_text letters set) ≡ Ok set
mask_again letters at set within =
    letters_union (nfs_right_letters no_letter) Directory reasons.Mask at (rights_text letters set)
    ∙ styled_read letters (nfs_right_letters no_letter) (nfs_right_letters [])
    (0 ∷ 1 ∷ 5 ∷ 2 ∷ 16 ∷ 6 ∷ 7 ∷ 8 ∷ 3 ∷ 4 ∷ 17 ∷ 18 ∷ 19 ∷ 20 ∷ []) Directory reasons.Mask at 0 set
    (rights_again reasons.Mask set) refl (λ at. refl)
    ∙ ap (λ (n : ℕ). Ok n) (or_zero_l (bit_and set 0x1f01ff) ∙ within)

-- the letters of flags stand for the flags but IDENTIFIER_GROUP
pub flags_read_again : (letters : LetterStyle) (at set : ℕ)
    → set_of_letters (nfs_flag_letters no_letter) Directory reasons.Flag at (flags_text letters set)
    ≡ Ok (bit_and set 0xbf)
flags_read_again letters at set =
    letters_union (nfs_flag_letters no_letter) Directory reasons.Flag at (flags_text letters set)
    ∙ styled_read letters (nfs_flag_letters no_letter) (nfs_flag_letters []) (0 ∷ 1 ∷ 3 ∷ 2 ∷ 4 ∷ 5 ∷ 7 ∷ []) Directory
    reasons.Flag at 0 set (flags_again reasons.Flag set) refl (λ at. refl)
    ∙ ap (λ (n : ℕ). Ok n) (or_zero_l (bit_and set 0xbf))

-- ---- words

-- a word before a principal: it is inside an entry, and has neither a colon nor a blank
pub record IsWord (word : List ℕ) : Type 0 where
  pub inside : list_all is_inside word ≡ true
  pub no_colon : list_all is_no_colon word ≡ true
  pub no_blank : list_all is_no_blank word ≡ true
  pub some : 0 < length word

-- a word is that of a special identifier
pub record IsSpecialWord (tag : NfsTag) (name word : List ℕ) : Type 0 where
  pub word_of : special_word name ≡ Some word
  pub tag_of : nfs_tag_of word ≡ Some tag
  pub name_of : tag_special tag ≡ Some name
  pub special : is_special name ≡ true
  pub flags_of : (flags : ℕ) → flags_by_tag tag flags ≡ flags
  pub no_id : id_of_digits name ≡ None
  pub word_is : IsWord word

-- a name that begins with a byte above the digits has no id
no_digits : (b : ℕ) (bs : List ℕ) → 57 < b → id_of_digits (b ∷ bs) ≡ None
no_digits b bs high = sym (no_id (b ∷ bs) (λ n is e. not_decimal n b bs is high (sym e)))

-- `owner@` is the word of OWNER@
pub owner_word : IsSpecialWord Owner owner_name (codes "owner@")
owner_word = record {
  word_of = refl;
  tag_of = refl;
  name_of = refl;
  special = refl;
  flags_of = λ flags. refl;
  no_id = no_digits 79 (codes "WNER@") (omega arith);
  word_is = record { inside = refl; no_colon = refl; no_blank = refl; some = omega arith };
}

-- `group@` is the word of GROUP@
pub group_word : IsSpecialWord OwningGroup group_name (codes "group@")
group_word = record {
  word_of = refl;
  tag_of = refl;
  name_of = refl;
  special = refl;
  flags_of = λ flags. refl;
  no_id = no_digits 71 (codes "ROUP@") (omega arith);
  word_is = record { inside = refl; no_colon = refl; no_blank = refl; some = omega arith };
}

-- `everyone@` is the word of EVERYONE@
pub everyone_word : IsSpecialWord Everyone everyone_name (codes "everyone@")
everyone_word = record {
  word_of = refl;
  tag_of = refl;
  name_of = refl;
  special = refl;
  flags_of = λ flags. refl;
  no_id = no_digits 69 (codes "VERYONE@") (omega arith);
  word_is = record { inside = refl; no_colon = refl; no_blank = refl; some = omega arith };
}

-- a word is that of the names of users or of groups, and their flags
pub record IsAccountWord (tag : NfsTag) (flags : ℕ) (word : List ℕ) : Type 0 where
  pub word_of : account_word flags ≡ word
  pub tag_of : nfs_tag_of word ≡ Some tag
  pub no_name : tag_special tag ≡ None
  pub flags_of : flags_by_tag tag (bit_and flags 0xbf) ≡ flags
  pub word_is : IsWord word

-- flags are those with letters, and IDENTIFIER_GROUP
two_parts : (flags : ℕ) → IsWithin 0xff flags → flags ≡ bit_or (bit_and flags 0xbf) (bit_and flags 0x40)
two_parts flags within = sym within ∙ and_or flags 0xbf 0x40

-- flags without IDENTIFIER_GROUP are those of a user
pub user_flags : (flags : ℕ) → IsWithin 0xff flags → meets flags 0x40 ≡ false
    → IsAccountWord NamedUser flags (codes "user")
user_flags flags within apart =
    let none : bit_and flags 0x40 ≡ 0 = apart_sets flags 0x40 apart in record {
      word_of = rw apart refl;
      tag_of = refl;
      no_name = refl;
      flags_of = sym (two_parts flags within ∙ ap (bit_or (bit_and flags 0xbf)) none ∙ or_zero_r (bit_and flags 0xbf));
      word_is = record { inside = refl; no_colon = refl; no_blank = refl; some = omega arith };
    }

-- a set that meets a bit has it
has_group : (flags : ℕ) → meets flags 0x40 ≡ true → bit_and flags 0x40 ≡ 0x40
has_group flags met = elim (eqb (bit_and flags 0x40) 0x40) as (λ t. eqb (bit_and flags 0x40) 0x40 ≡ t
    → bit_and flags 0x40 ≡ 0x40) [
      | true ↦ λ h. eqb-true _ _ h
      | false ↦ λ h. let none : bit_and flags 0x40 ≡ 0 = bit_missing flags 6 h in absurd (empty none met)
    ] refl where
      empty : bit_and flags 0x40 ≡ 0 → meets flags 0x40 ≡ true → ⊥
      empty none met = let wrong : meets flags 0x40 ≡ false = rw none refl in cc

-- flags with IDENTIFIER_GROUP are those of a group
pub group_flags : (flags : ℕ) → IsWithin 0xff flags → meets flags 0x40 ≡ true
    → IsAccountWord NamedGroup flags (codes "group")
group_flags flags within met = record {
  word_of = rw met refl;
  tag_of = refl;
  no_name = refl;
  flags_of = sym (two_parts flags within ∙ ap (bit_or (bit_and flags 0xbf)) (has_group flags met));
  word_is = record { inside = refl; no_colon = refl; no_blank = refl; some = omega arith };
}

-- the bytes of the word of a kind pass a test that those of `allow` and `deny` pass
pub kind_pass : (test : ℕ → Bool) → list_all test (codes "allow") ≡ true → list_all test (codes "deny") ≡ true
    → (kind : Kind) → list_all test (kind_word kind) ≡ true
kind_pass test allow deny Allow = allow
kind_pass test allow deny Deny = deny

-- the word of a kind is read as the kind
pub kind_again : (kind : Kind) (field : Span) → field.bytes ≡ kind_word kind → nfs_kind field ≡ Ok kind
kind_again Allow field e = rw e refl
kind_again Deny field e = rw e refl

-- ---- ids

-- decimal digits are digits
digits_pass : (ds : List ℕ) → AllDigits 10 ds → list_all is_ascii_digit ds ≡ true
digits_pass [] d = refl
digits_pass (c ∷ cs) d =
    let r = digit_from_value c d.0 in one c (omega (arith, r)) (omega (arith, r)) (digits_pass cs d.1)
  where
    one : (c : ℕ) → 48 ≤ c → c ≤ 57 → list_all is_ascii_digit cs ≡ true
        → (is_ascii_digit c && list_all is_ascii_digit cs) ≡ true
    one c low high rest = let a : is_ascii_digit c ≡ true = grind (arith, nat_tests) in rw a rest

-- the digits of an id are a number
pub is_number-decimal : (n : ℕ) → IsId n → is_number (decimal n) ≡ true
is_number-decimal n is =
    let some : eqb (length (decimal n)) 0 ≡ false =
    (let h = decimal_nonempty n (omega arith) in grind (arith, nat_tests, h)) in
    rw (some, digits_pass (decimal n) (decimal_is_IsNumeral n (omega arith)).0.1) refl

-- the digits of an id are read as the id, which is no other number
pub id_again : (who : List ℕ) (n : ℕ) → id_of_digits who ≡ Some n
    → (id_alone who ≡ Some n) × (is_other_number who n ≡ false) × (decimal n ≡ who)
unfolding id_of
id_again who n e =
    let h = id_is who n e in
    let number : is_number who ≡ true = ap is_number h.0 ∙ is_number-decimal n h.1 in
    let value : digits_value 10 who ≡ n =
    ap (digits_value 10) h.0 ∙ (decimal_is_IsNumeral n (omega (arith, h.1))).1 in
    let low : nat_le n greatest_id ≡ true = le-leb n greatest_id h.1 in
    let same : eqb n n ≡ true = grind (arith, nat_tests) in
    (rw (number, value, low) refl, rw (number, value, same) refl, sym h.0)
