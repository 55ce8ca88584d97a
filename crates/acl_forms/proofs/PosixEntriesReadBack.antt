-- An entry of the text of a POSIX ACL is read again as it was written.
use Rattle.std.proofs.Common.{◌≡◌, ◌∙◌, ◌+◌, ◌++◌, ℕ, Bool, true, false, eqb, List, [], ◌∷◌, length, Option, None, Some, Ok, refl, ap, arith, append-nil, append_assoc}
use Rattle.std.specs.Prelude.{◌&&◌, ◌==◌, not, nat_le}
use Rattle.std.specs.Char.{is_ascii_digit}
use Rattle.std.specs.FinMap as fin
use Rattle.std.specs.Fmt.{decimal}
use Rattle.std.specs.List.{list_all, list_any, slice_split}
use Rattle.std.specs.Str.{bytes_eq}
use Rattle.std.specs.Str.Parse.{digits_value}
use Rattle.std.proofs.lemmas.Bool.{le-leb, and_from, or_parts}
use Rattle.std.proofs.lemmas.Bool.Decides.{nat_tests}
use Rattle.std.proofs.lemmas.Fmt.{decimal_is_IsNumeral, decimal_nonempty}
use Rattle.std.proofs.lemmas.List.Folds.{list_all-append}
use Rattle.acl_perm.proofs.Bools.{and_true}
use Rattle.acl_perm.proofs.Meetings.{bytes_eq_same}
use Rattle.acl_perm.specs.Ascii.{colon, comma, comment_mark, line_feed}
use Rattle.acl_perm.specs.Bits.{IsPerm}
use Rattle.acl_perm.specs.Lines.{Span, is_all_blank}
unfoldable use Rattle.acl_perm.specs.Lines.{cut_at, trimmed}
use Rattle.acl_perm.specs.Shown.{perm_text}
use Rattle.acl_posix.specs.Entries.{IsEntry}
unfoldable use Rattle.acl_posix.specs.Fields.{id_of, word_of}
use Rattle.acl_posix.specs.Fields.{is_default}
use Rattle.acl_posix.specs.Id.{IsId, greatest_id}
use Rattle.acl_posix.specs.Names.{Table, is_number}
use Rattle.acl_posix.specs.Tag.{IsTag, Tag, group, group_obj, mask, other, tag_row, user, user_obj}
use Rattle.acl_posix.specs.Texts.{long_word}
use Rattle.acl_posix.specs.declared.field.TagWord.{TagWord}
use Rattle.acl_posix.specs.declared.field.TagWord.TheVariants.{Group, User}
use Rattle.acl_posix.specs.declared.text_fault.Part.{Part}
use Rattle.acl_posix.specs.internal.Reading.{tag_with}
use Rattle.acl_posix.proofs.Exports.{perm_again, perm_pass}
use Rattle.acl_nfs4.proofs.Exports.{all_weaker}
use Rattle.acl_forms.specs.NfsText.{id_alone}
use Rattle.acl_forms.specs.PosixNames.{is_shown}
use Rattle.acl_forms.specs.PosixText.{PlacedEntry, PosixFields, has_qualifier, permissions_read, word_read}
unfoldable use Rattle.acl_forms.specs.PosixText.{last_id, named_word, pair_read, posix_entry, posix_fields, tag_read}
use Rattle.acl_forms.specs.PosixWritten.{id_field, id_reason_of, is_name_separator, name_reason, named_reason, three_fields, written_qualifier}
use Rattle.acl_forms.specs.declared.posix_text.style.TarStyle.{TarStyle}
use Rattle.acl_forms.proofs.NfsFieldsReadBack.{is_no_blank, is_number-decimal, kept}
use Rattle.acl_forms.proofs.NfsEntriesReadBack.{split_last, split_more}
use Rattle.acl_forms.proofs.PosixLemmas.{by_word}
use Rattle.acl_forms.proofs.PosixWrites.{no_first}
use Rattle.acl_forms.proofs.TextsReadBack.{part_at}
use Rattle.acl_forms.proofs.ToolsEntriesReadBack.{is_no_colon}

-- ---- bytes

-- a byte that ends no line and no entry, begins no comment, and may stand in a text
abbrev pub is_in_entry : ℕ → Bool
is_in_entry b = not (b == line_feed) && (not (b == comment_mark) && (not (b == comma) && not (b == 0)))

-- the bytes of a name that is written are inside an entry, and no colons
name_pass : (name : List ℕ) → list_any is_name_separator name ≡ false
    → (list_all is_in_entry name ≡ true) × (list_all is_no_colon name ≡ true)
name_pass [] apart = (refl, refl)
name_pass (b ∷ name) apart =
    let first = or_parts (is_name_separator b) (list_any is_name_separator name) apart in
    let inside : is_in_entry b ≡ true = grind (arith, nat_tests, first.0) in
    let no_colon : is_no_colon b ≡ true = grind (arith, nat_tests, first.0) in
    let others = name_pass name first.1 in (rw (inside, others.0) refl, rw (no_colon, others.1) refl)

-- a digit is inside an entry, and neither a colon nor a blank
digit_pass : (b : ℕ) → is_ascii_digit b ≡ true
    → (is_in_entry b ≡ true) × (is_no_colon b ≡ true) × (is_no_blank b ≡ true)
digit_pass b h = (grind (arith, nat_tests, h), grind (arith, nat_tests, h), grind (arith, nat_tests, h))

-- ---- the fields of an entry

-- the qualifier of an entry is inside it, and is one field without blanks at its ends
pub record IsQualifier (q : List ℕ) : Type 0 where
  pub inside : list_all is_in_entry q ≡ true
  pub no_colon : list_all is_no_colon q ≡ true
  pub same : trimmed q ≡ q

-- no bytes are a qualifier
no_qualifier : IsQualifier []
unfolding trimmed
no_qualifier = record { inside = refl; no_colon = refl; same = refl }

-- the digits of an id are a qualifier
digits_qualifier : (n : ℕ) → IsId n → IsQualifier (decimal n)
digits_qualifier n is =
    let digits = (and_true (not (length (decimal n) == 0)) _ (is_number-decimal n is)).1 in
    record {
      inside = all_weaker is_ascii_digit is_in_entry (decimal n) (λ b h. (digit_pass b h).0) digits;
      no_colon = all_weaker is_ascii_digit is_no_colon (decimal n) (λ b h. (digit_pass b h).1) digits;
      same = kept (decimal n) (all_weaker is_ascii_digit is_no_blank (decimal n) (λ b h. (digit_pass b h).2) digits);
    }

-- a name that has no reason is a qualifier
name_qualifier : (name : List ℕ) → name_reason name ≡ None → IsQualifier name
name_qualifier name e = by (list_any is_name_separator name) (bytes_eq (trimmed name) name) refl refl e where
  by : (s t : Bool) → list_any is_name_separator name ≡ s → bytes_eq (trimmed name) name ≡ t
      → name_reason name ≡ None → IsQualifier name
  by true t p q e = absurd cc
  by false false p q e = absurd cc
  by false true p q e =
      let pass = name_pass name p in
      record { inside = pass.0; no_colon = pass.1; same = bytes_eq_same (trimmed name) name q }

-- the word of a tag is read as the word, and is no mark of a default entry
record IsWordOf (w : TagWord) (word : List ℕ) : Type 0 where
  pub read : word_of (trimmed word) ≡ Some w
  pub no_mark : is_default (trimmed word) ≡ false
  pub inside : list_all is_in_entry word ≡ true
  pub no_colon : list_all is_no_colon word ≡ true
  pub some : (rest : List ℕ) → is_all_blank (word ++ rest) ≡ false

-- so it is for the word of each tag, in full
word_at : (tag : Tag) → IsWordOf (tag_row tag).word (long_word tag)
unfolding trimmed word_of
word_at user_obj = record { read = refl; no_mark = refl; inside = refl; no_colon = refl; some = λ rest. refl }
word_at (user id) = record { read = refl; no_mark = refl; inside = refl; no_colon = refl; some = λ rest. refl }
word_at group_obj = record { read = refl; no_mark = refl; inside = refl; no_colon = refl; some = λ rest. refl }
word_at (group id) = record { read = refl; no_mark = refl; inside = refl; no_colon = refl; some = λ rest. refl }
word_at mask = record { read = refl; no_mark = refl; inside = refl; no_colon = refl; some = λ rest. refl }
word_at other = record { read = refl; no_mark = refl; inside = refl; no_colon = refl; some = λ rest. refl }

-- the field of permissions is read as them
perm_read : (column p : ℕ) → IsPerm p → permissions_read (part_at column (perm_text p)) ≡ Ok p
perm_read column p lt =
    let same = kept (perm_text p) (perm_pass is_no_blank refl refl refl refl p) in rw (same, perm_again p lt) refl

-- ---- the tag

-- the digits of an id are read as the id, and as no other number
id_again : (n : ℕ) → IsId n → (id_of (decimal n) ≡ Some n) × (id_alone (decimal n) ≡ Some n)
unfolding id_of
id_again n is =
    let number = is_number-decimal n is in
    let value : digits_value 10 (decimal n) ≡ n = (decimal_is_IsNumeral n (omega (arith, is))).1 in
    let low : nat_le n greatest_id ≡ true = le-leb n greatest_id is in
    (rw (value, low) refl, rw (number, value, low) refl)

-- a qualifier that is written in place of an id is no number, and not empty
not_digits : (name : List ℕ) → is_shown name ≡ true → (is_number name ≡ false) × ((length name == 0) ≡ false)
not_digits name h = by (length name == 0) (is_number name) refl refl h where
  by : (z n : Bool) → (length name == 0) ≡ z → is_number name ≡ n → is_shown name ≡ true
      → (is_number name ≡ false) × ((length name == 0) ≡ false)
  by true n p q h = absurd cc
  by false true p q h = absurd cc
  by false false p q h = (q, p)

-- the name of a tag, if it has one, is shown, and the table has it with the id of the tag
abbrev pub HasName : Table → Tag → Option (List ℕ) → Type 0
HasName table tag None = Unit {0}
HasName table (user id) (Some name) = (is_shown name ≡ true) × (fin.get table.users name ≡ Some id)
HasName table (group id) (Some name) = (is_shown name ≡ true) × (fin.get table.groups name ≡ Some id)
HasName table tag (Some name) = ⊥

-- the tag is read by its qualifier
tag_again : (table : Table) (column : ℕ) (tag : Tag) (name : Option (List ℕ)) → IsTag tag → HasName table tag name
    → IsQualifier (written_qualifier tag name)
    → tag_read table (tag_row tag).word (part_at column (written_qualifier tag name)) ≡ Ok tag
unfolding tag_read
tag_again table column user_obj None is has q = rw q.same refl
tag_again table column group_obj None is has q = rw q.same refl
tag_again table column mask None is has q = rw q.same refl
tag_again table column other None is has q = rw q.same refl
tag_again table column (user id) None is has q =
    let some : eqb (length (decimal id)) 0 ≡ false =
    (let h = decimal_nonempty id (omega arith) in grind (arith, nat_tests, h)) in
    rw (q.same, is_number-decimal id is, some, (id_again id is).0) refl
tag_again table column (group id) None is has q =
    let some : eqb (length (decimal id)) 0 ≡ false =
    (let h = decimal_nonempty id (omega arith) in grind (arith, nat_tests, h)) in
    rw (q.same, is_number-decimal id is, some, (id_again id is).0) refl
tag_again table column (user id) (Some name) is has q =
    let no = not_digits name has.0 in rw (q.same, no.0, no.1, has.1) refl
tag_again table column (group id) (Some name) is has q =
    let no = not_digits name has.0 in rw (q.same, no.0, no.1, has.1) refl
tag_again table column user_obj (Some name) is has q = absurd has
tag_again table column group_obj (Some name) is has q = absurd has
tag_again table column mask (Some name) is has q = absurd has
tag_again table column other (Some name) is has q = absurd has

-- the name of a tag, if it has one, is shown
abbrev pub IsShownName : Tag → Option (List ℕ) → Type 0
IsShownName tag None = Unit {0}
IsShownName (user id) (Some name) = is_shown name ≡ true
IsShownName (group id) (Some name) = is_shown name ≡ true
IsShownName tag (Some name) = ⊥

-- the word of an entry with a name and an id may have a qualifier
named_again : (start column : ℕ) (w : TagWord) (name : List ℕ) → has_qualifier w ≡ true → is_shown name ≡ true
    → IsQualifier name → named_word start w (part_at column name) ≡ Ok w
unfolding named_word
named_again start column w name has shown q = rw (q.same, (not_digits name shown).1, has) refl

-- the id after a name is read as the id
last_again : (at column id : ℕ) (name : List ℕ) → IsId id → is_shown name ≡ true → IsQualifier name
    → last_id (part_at at name) (part_at column (decimal id)) ≡ Ok id
unfolding last_id
last_again at column id name is shown q =
    rw ((digits_qualifier id is).same, (id_again id is).1, q.same, (not_digits name shown).0) refl

-- ---- entries

-- the fields of an entry, with their places
abbrev fields_at : Part → ℕ → List ℕ → List ℕ → List ℕ → Option Span → PosixFields
fields_at part column word q perm id = record {
  part = part;
  tag = part_at column word;
  qualifier = part_at (column + length word + 1) q;
  permissions = part_at (column + length word + 1 + length q + 1) perm;
  id = id;
}

-- an entry of three fields
abbrev three : List ℕ → List ℕ → List ℕ → List ℕ
three word q perm = word ++ colon ∷ (q ++ colon ∷ perm)

-- the parts of an entry whose last part is cut so
parts_of : (word q last : List ℕ) (parts : List (List ℕ)) → list_all is_no_colon word ≡ true
    → list_all is_no_colon q ≡ true → slice_split (λ b. b == colon) last ≡ parts
    → slice_split (λ b. b == colon) (three word q last) ≡ word ∷ q ∷ parts
parts_of word q last parts no_word no_q cut =
    split_more word (q ++ colon ∷ last) no_word
    ∙ ap (λ (ps : List (List ℕ)). word ∷ ps) (split_more q last no_q ∙ ap (λ (ps : List (List ℕ)). q ∷ ps) cut)

-- an entry of three parts has these fields
three_fields_again : (part : Part) (column : ℕ) (w : TagWord) (word q perm : List ℕ) → IsWordOf w word → IsQualifier q
    → list_all is_no_colon perm ≡ true
    → posix_fields part (part_at column (three word q perm)) ≡ Some (fields_at part column word q perm None)
unfolding posix_fields cut_at
three_fields_again part column w word q perm is qualified no_perm =
    rw (parts_of word q perm (perm ∷ []) is.no_colon qualified.no_colon (split_last perm no_perm), is.no_mark) refl

-- an entry of four parts has these fields
four_fields_again : (part : Part) (column : ℕ) (w : TagWord) (word q perm id : List ℕ) → IsWordOf w word → IsQualifier q
    → list_all is_no_colon perm ≡ true → list_all is_no_colon id ≡ true
    → posix_fields part (part_at column (three word q (perm ++ colon ∷ id)))
    ≡ Some (fields_at part column word q perm
    (Some (part_at (column + length word + 1 + length q + 1 + length perm + 1) id)))
unfolding posix_fields cut_at
four_fields_again part column w word q perm id is qualified no_perm no_id =
    rw (
      parts_of word q (perm ++ colon ∷ id) (perm ∷ id ∷ []) is.no_colon qualified.no_colon
          (split_more perm id no_perm ∙ ap (λ (ps : List (List ℕ)). perm ∷ ps) (split_last id no_id)),
      is.no_mark,
    ) refl

-- an entry at a place
abbrev pub placed_at : Part → ℕ → Tag × ℕ → PlacedEntry
placed_at part column e = record { part = part; at = column; pair = e }

-- a text that is read as an entry wherever it is, and ends neither its line nor itself
pub record IsEntryText (table : Table) (text : List ℕ) (e : Tag × ℕ) : Type 0 where
  pub inside : list_all is_in_entry text ≡ true
  pub some : is_all_blank text ≡ false
  pub again : (part : Part) (column : ℕ)
      → posix_entry part table (part_at column text) ≡ Ok (placed_at part column e)

-- fields whose tag and permissions are read are those of an entry
by_fields : (table : Table) (part : Part) (column : ℕ) (text : List ℕ) (fields : PosixFields) (e : Tag × ℕ)
    → is_all_blank text ≡ false → posix_fields part (part_at column text) ≡ Some fields
    → fields.part ≡ part → pair_read column table fields ≡ Ok e
    → posix_entry part table (part_at column text) ≡ Ok (placed_at part column e)
unfolding posix_entry
by_fields table part column text fields e some has of_part read =
    rw (some, has, read) (ap (λ (p : Part). Ok (placed_at p column e)) of_part)

-- the word of a tag is read
word_is : (column : ℕ) (w : TagWord) (word : List ℕ) → IsWordOf w word → word_read (part_at column word) ≡ Ok w
word_is column w word is = rw is.read refl

-- the bytes of an entry of three parts are inside it
three_inside : (word q last : List ℕ) → list_all is_in_entry word ≡ true → list_all is_in_entry q ≡ true
    → list_all is_in_entry last ≡ true → list_all is_in_entry (three word q last) ≡ true
three_inside word q last a b c =
    list_all-append is_in_entry word (colon ∷ (q ++ colon ∷ last))
    ∙ and_from _ _ a (list_all-append is_in_entry q (colon ∷ last) ∙ and_from _ _ b c)

-- an entry with its qualifier alone is read by it
pub by_qualifier : (table : Table) (tag : Tag) (perm : ℕ) (name : Option (List ℕ)) → IsEntry (tag, perm)
    → HasName table tag name → IsQualifier (written_qualifier tag name)
    → IsEntryText table (three_fields (tag, perm) name) (tag, perm)
by_qualifier table tag perm name within has q =
    let word = long_word tag in
    let w = (tag_row tag).word in
    let is = word_at tag in
    let qualifier = written_qualifier tag name in
    let text = perm_text perm in
    let no_perm = perm_pass is_no_colon refl refl refl refl perm in
    let some : is_all_blank (three_fields (tag, perm) name) ≡ false = is.some (colon ∷ (qualifier ++ colon ∷ text)) in
    record {
      inside = three_inside word qualifier text is.inside q.inside (perm_pass is_in_entry refl refl refl refl perm);
      some = some;
      again = λ part column.
          let fields = fields_at part column word qualifier text None in
          by_fields table part column (three_fields (tag, perm) name) fields (tag, perm) some
          (three_fields_again part column w word qualifier text is q no_perm) refl
          (by_word column table fields w None (word_is column w word is) refl
          ∙ rw (
            tag_again table (column + length word + 1) tag name within.0 has q,
            perm_read (column + length word + 1 + length qualifier + 1) perm within.1,
          ) refl);
    }

-- an entry with a name and an id is read by the id
by_id : (table : Table) (w : TagWord) (tag : Tag) (id perm : ℕ) (name : List ℕ) → IsId id → IsPerm perm
    → (tag_row tag).word ≡ w → has_qualifier w ≡ true → tag_with w id ≡ tag → is_shown name ≡ true
    → IsQualifier name
    → IsEntryText table (three (long_word tag) name (perm_text perm ++ colon ∷ decimal id)) (tag, perm)
by_id table w tag id perm name is_id is_perm word_of_tag has tag_is shown q =
    let word = long_word tag in
    let is : IsWordOf w word = rw (← word_of_tag) (word_at tag) in
    let text = perm_text perm in
    let digits = digits_qualifier id is_id in
    let no_perm = perm_pass is_no_colon refl refl refl refl perm in
    let whole = three word name (text ++ colon ∷ decimal id) in
    let some : is_all_blank whole ≡ false = is.some (colon ∷ (name ++ colon ∷ (text ++ colon ∷ decimal id))) in
    record {
      inside = three_inside word name (text ++ colon ∷ decimal id) is.inside q.inside
          (list_all-append is_in_entry text (colon ∷ decimal id)
          ∙ and_from _ _ (perm_pass is_in_entry refl refl refl refl perm) digits.inside);
      some = some;
      again = λ part column.
          let at = column + length word + 1 in
          let third = at + length name + 1 in
          let last = part_at (third + length text + 1) (decimal id) in
          let fields = fields_at part column word name text (Some last) in
          by_fields table part column whole fields (tag, perm) some
          (four_fields_again part column w word name text (decimal id) is q no_perm digits.no_colon) refl
          (by_word column table fields w (Some last) (word_is column w word is) refl
          ∙ rw (
            named_again column at w name has shown q,
            perm_read third perm is_perm,
            last_again at (third + length text + 1) id name is_id shown q,
          )
          (ap (λ (t : Tag). Ok (t, perm)) tag_is));
    }

-- the text of three fields and an id after them
with_id : (word q perm id : List ℕ) → three word q perm ++ colon ∷ id ≡ three word q (perm ++ colon ∷ id)
with_id word q perm id =
    append_assoc word (colon ∷ (q ++ colon ∷ perm)) (colon ∷ id)
    ∙ ap (λ (t : List ℕ). word ++ colon ∷ t) (append_assoc q (colon ∷ perm) (colon ∷ id))

-- an entry of the text of star is read by its id, or by its digits
pub star_entry : (table : Table) (tag : Tag) (perm : ℕ) (name : Option (List ℕ)) → IsEntry (tag, perm)
    → IsShownName tag name → IsQualifier (written_qualifier tag name)
    → IsEntryText table (three_fields (tag, perm) name ++ id_field tag name) (tag, perm)
star_entry table tag perm None within shown q =
    rw (append-nil (three_fields (tag, perm) None)) (by_qualifier table tag perm None within tt q)
star_entry table (user id) perm (Some name) within shown q =
    rw (with_id (long_word (user id)) name (perm_text perm) (decimal id))
    (by_id table User (user id) id perm name within.0 within.1 refl refl refl shown q)
star_entry table (group id) perm (Some name) within shown q =
    rw (with_id (long_word (group id)) name (perm_text perm) (decimal id))
    (by_id table Group (group id) id perm name within.0 within.1 refl refl refl shown q)
star_entry table user_obj perm (Some name) within shown q = absurd shown
star_entry table group_obj perm (Some name) within shown q = absurd shown
star_entry table mask perm (Some name) within shown q = absurd shown
star_entry table other perm (Some name) within shown q = absurd shown

-- the qualifier of an entry that the text can hold
pub held_qualifier : (style : TarStyle) (tag : Tag) (name : Option (List ℕ)) → IsTag tag
    → named_reason style tag name ≡ None → IsQualifier (written_qualifier tag name)
held_qualifier style user_obj None is e = no_qualifier
held_qualifier style group_obj None is e = no_qualifier
held_qualifier style mask None is e = no_qualifier
held_qualifier style other None is e = no_qualifier
held_qualifier style (user id) None is e = digits_qualifier id is
held_qualifier style (group id) None is e = digits_qualifier id is
held_qualifier style tag (Some name) is e = name_qualifier name (no_first (name_reason name) (id_reason_of style tag) e)
