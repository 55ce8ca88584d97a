-- An entry of the text of FreeBSD and archives is read as it is written.
use Rattle.std.proofs.Common.{◌≡◌, ◌∙◌, ◌+◌, ◌<◌, ◌≤◌, ℕ, true, false, List, [], ◌∷◌, ◌++◌, length, Option, None, Some, Ok, refl, ap, arith, append-nil, append_assoc}
use Rattle.std.specs.Prelude.{◌==◌, bit_and, count_ones, map, nat_le}
use Rattle.std.specs.List.{list_all, slice_split}
use Rattle.std.proofs.lemmas.Bool.Decides.{nat_tests}
use Rattle.std.proofs.lemmas.List.Splits.{slice_split_at, slice_split_none}
use Rattle.acl_perm.specs.Ascii.{colon}
use Rattle.acl_perm.specs.Lines.{cut_at, is_all_blank, spans, start_of, trimmed, Span}
use Rattle.acl_perm.specs.declared.kind.Kind.{Kind}
use Rattle.acl_nfs4.specs.Ace.{Ace}
use Rattle.acl_nfs4.specs.Limits.{most_aces, most_weight}
use Rattle.acl_nfs4.specs.Spelling.{weight}
use Rattle.acl_nfs4.specs.Who.{is_special, IsWho}
use Rattle.acl_nfs4.specs.Within.{IsWithin}
use Rattle.acl_forms.specs.Acl41Ids.{id_of_digits}
use Rattle.acl_forms.specs.Letters.{nfs_flag_letters, nfs_right_letters, no_letter, set_of_letters}
use Rattle.acl_forms.specs.NfsText.{fields_of_parts, flags_by_tag, is_odd_number, nfs_ace, nfs_entry, nfs_fields_of, nfs_fields_read, tag_special, trimmed_span, who_by_tag, who_of_fields, NfsFields}
use Rattle.acl_forms.specs.NfsWritten.{as_nfs_written, id_after, kept_flags, kind_word, nfs_entry_text, special_word}
use Rattle.acl_forms.specs.ToolsText.{unless_refused}
use Rattle.acl_forms.specs.declared.fault.ReadReason.TheVariants as reasons
use Rattle.acl_forms.specs.declared.nfs_text.fields.NfsTag.{NfsTag}
use Rattle.acl_forms.specs.declared.object.ObjectKind.TheVariants.{Directory}
use Rattle.acl_forms.specs.declared.style.LetterStyle.{LetterStyle}
use Rattle.acl_forms.specs.declared.who_field.WhoField.{WhoField}
use Rattle.acl_forms.specs.declared.who_field.WhoField.TheVariants as source
use Rattle.acl_forms.proofs.NfsLemmas.{good_nfs_ace}
use Rattle.acl_forms.proofs.StyledLetters.{styled_pass}
use Rattle.acl_forms.proofs.TextsReadBack.{part_at}
use Rattle.acl_forms.proofs.ToolsEntriesReadBack.{all_not, is_inside, is_no_colon, not_refused, ace_with}
use Rattle.acl_forms.proofs.NfsFieldsReadBack.{IsAccountWord, IsSpecialWord, flags_read_again, flags_text, id_again, is_no_blank, kept, kind_again, kind_pass, mask_again, not_all_blank, rights_text}

-- ---- the parts of an entry

-- a part without a colon, and a colon after it
pub split_more : (part rest : List ℕ) → list_all is_no_colon part ≡ true
    → slice_split (λ b. b == colon) (part ++ colon ∷ rest) ≡ part ∷ slice_split (λ b. b == colon) rest
split_more part rest h = slice_split_at (λ b. b == colon) part colon rest (all_not (λ b. b == colon) part h) refl

-- a part without a colon
pub split_last : (part : List ℕ) → list_all is_no_colon part ≡ true → slice_split (λ b. b == colon) part ≡ part ∷ []
split_last part h = slice_split_none (λ b. b == colon) part (all_not (λ b. b == colon) part h)

-- the fields after the principal
abbrev pub tail_text : LetterStyle → Ace → List ℕ → List ℕ
tail_text letters a last = rights_text letters a.mask ++ colon ∷ (flags_text letters a.flags ++ colon ∷ last)

-- the parts of the fields after the principal
tail_split : (letters : LetterStyle) (a : Ace) (last : List ℕ)
    → slice_split (λ b. b == colon) (tail_text letters a last)
    ≡ rights_text letters a.mask ∷ flags_text letters a.flags ∷ slice_split (λ b. b == colon) last
tail_split letters a last =
    split_more (rights_text letters a.mask) _ (styled_pass letters is_no_colon (nfs_right_letters []) a.mask refl refl)
    ∙ ap (λ (parts : List (List ℕ)). rights_text letters a.mask ∷ parts)
    (split_more (flags_text letters a.flags) _
    (styled_pass letters is_no_colon (nfs_flag_letters []) a.flags refl refl))

-- the fields of an entry, by the place of its first part
abbrev parts_at : ℕ → List (List ℕ) → List Span
parts_at column parts = map trimmed_span (spans column parts)

-- an entry has the fields of its parts
fields_again : (column : ℕ) (text : List ℕ) (parts : List (List ℕ))
    → slice_split (λ b. b == colon) text ≡ parts
    → nfs_fields_of (part_at column text) ≡ fields_of_parts column (parts_at column parts)
unfolding nfs_fields_of cut_at
fields_again column text parts split =
    ap (λ (parts : List (List ℕ)). fields_of_parts column (parts_at column parts)) split

-- the rights, the flags and the kind of fields are those of an ACE
record AreFieldsOf (letters : LetterStyle) (a : Ace) (fields : NfsFields) : Type 0 where
  pub rights : fields.rights.bytes ≡ rights_text letters a.mask
  pub flags : fields.flags.bytes ≡ flags_text letters a.flags
  pub kind : fields.kind.bytes ≡ kind_word a.kind

-- the letters of rights have no blanks around them
rights_kept : (letters : LetterStyle) (mask : ℕ) → trimmed (rights_text letters mask) ≡ rights_text letters mask
rights_kept letters mask =
    kept (rights_text letters mask) (styled_pass letters is_no_blank (nfs_right_letters []) mask refl refl)

-- the letters of flags have no blanks around them
flags_kept : (letters : LetterStyle) (flags : ℕ) → trimmed (flags_text letters flags) ≡ flags_text letters flags
flags_kept letters flags =
    kept (flags_text letters flags) (styled_pass letters is_no_blank (nfs_flag_letters []) flags refl refl)

-- the word of a kind has no blanks around it
kind_kept : (kind : Kind) → trimmed (kind_word kind) ≡ kind_word kind
kind_kept kind = kept (kind_word kind) (kind_pass is_no_blank refl refl kind)

-- fields are read as an ACE
read_again : (letters : LetterStyle) (by : WhoField) (a : Ace) (fields : NfsFields) → AreFieldsOf letters a fields
    → IsWithin 0x1f01ff a.mask → who_by_tag by fields (tag_special fields.tag) ≡ Ok a.who
    → nfs_ace by fields ≡ Ok (ace_with a.kind (flags_by_tag fields.tag (bit_and a.flags 0xbf)) a.mask a.who)
unfolding nfs_ace
read_again letters by a fields h within name =
    let mask = ap (set_of_letters (nfs_right_letters no_letter) Directory reasons.Mask fields.rights.column) h.rights
    ∙ mask_again letters fields.rights.column a.mask within in
    let flags = ap (set_of_letters (nfs_flag_letters no_letter) Directory reasons.Flag fields.flags.column) h.flags
    ∙ flags_read_again letters fields.flags.column a.flags in
    rw (mask, flags, kind_again a.kind fields.kind h.kind, name) refl

-- ---- an entry about a special identifier

-- the text of such an entry
pub special_text : (letters : LetterStyle) (tag : NfsTag) (a : Ace) (word : List ℕ) → IsSpecialWord tag a.who word
    → nfs_entry_text letters a ≡ word ++ colon ∷ tail_text letters a (kind_word a.kind)
unfolding nfs_entry_text
special_text letters tag a word h = rw (h.word_of, h.no_id)
    (ap (λ (last : List ℕ). word ++ colon ∷ tail_text letters a last) (append-nil (kind_word a.kind)))

-- the fields of such an entry, with their places
abbrev special_at : LetterStyle → ℕ → NfsTag → Ace → List ℕ → NfsFields
special_at letters column tag a word =
    let rights = column + length word + 1 in
    let flags = rights + length (rights_text letters a.mask) + 1 in
    let kind = flags + length (flags_text letters a.flags) + 1 in
    record {
      tag = tag;
      who = part_at (start_of (part_at column word)) a.who;
      rights = trimmed_span (part_at rights (rights_text letters a.mask));
      flags = trimmed_span (part_at flags (flags_text letters a.flags));
      kind = trimmed_span (part_at kind (kind_word a.kind));
      id = None;
    }

-- such an entry has these fields
special_fields_again : (letters : LetterStyle) (column : ℕ) (tag : NfsTag) (a : Ace) (word : List ℕ)
    → IsSpecialWord tag a.who word
    → nfs_fields_of (part_at column (nfs_entry_text letters a)) ≡ Ok (special_at letters column tag a word)
special_fields_again letters column tag a word h =
    let last = split_last (kind_word a.kind) (kind_pass is_no_colon refl refl a.kind) in
    let split : slice_split (λ b. b == colon) (nfs_entry_text letters a)
    ≡ word ∷ rights_text letters a.mask ∷ flags_text letters a.flags ∷ kind_word a.kind ∷ [] =
    ap (slice_split (λ b. b == colon)) (special_text letters tag a word h)
    ∙ split_more word _ h.word_is.no_colon
    ∙ ap (λ (parts : List (List ℕ)). word ∷ parts) (tail_split letters a (kind_word a.kind)
    ∙ ap (λ (parts : List (List ℕ)). rights_text letters a.mask ∷ flags_text letters a.flags ∷ parts) last) in
    fields_again column (nfs_entry_text letters a) _ split ∙ rw (kept word h.word_is.no_blank, h.tag_of, h.name_of) refl

-- the fields of an entry that is not blank are read if the list has room
found_again : (count : ℕ) (entry : Span) (fields : NfsFields) → is_all_blank entry.bytes ≡ false → count < most_aces
    → nfs_fields_of entry ≡ Ok fields → nfs_fields_read count entry ≡ Ok fields
found_again count entry fields some room e =
    let r : nat_le most_aces count ≡ false = grind (arith, nat_tests) in rw (some, r) e

-- such an entry is read as the ACE
pub special_again : (letters : LetterStyle) (by : WhoField) (tag : NfsTag) (a : Ace) (word : List ℕ) (list : List Ace)
    (column : ℕ) → IsSpecialWord tag a.who word → IsWithin 0x1f01ff a.mask → IsWho a.who → length list < most_aces
    → weight list + count_ones a.mask ≤ most_weight
    → nfs_entry by list (part_at column (nfs_entry_text letters a)) ≡ Ok (as_nfs_written a)
special_again letters by tag a word list column h within is room light =
    let fields = special_at letters column tag a word in
    let are : AreFieldsOf letters a fields =
    record { rights = rights_kept letters a.mask; flags = flags_kept letters a.flags; kind = kind_kept a.kind } in
    let name : who_by_tag by fields (tag_special tag) ≡ Ok a.who = rw h.name_of refl in
    let same : flags_by_tag tag (bit_and a.flags 0xbf) ≡ kept_flags a.who a.flags =
    h.flags_of (bit_and a.flags 0xbf) ∙ rw h.special refl in
    let some : is_all_blank (nfs_entry_text letters a) ≡ false = ap is_all_blank (special_text letters tag a word h)
    ∙ not_all_blank word _ h.word_is.no_blank h.word_is.some in
    good_nfs_ace by list (part_at column (nfs_entry_text letters a)) fields (as_nfs_written a)
    (found_again (length list) (part_at column (nfs_entry_text letters a)) fields some room
    (special_fields_again letters column tag a word h))
    (read_again letters by a fields are within name ∙ ap (λ (f : ℕ). Ok (ace_with a.kind f a.mask a.who)) same)
    ∙ ap (unless_refused (as_nfs_written a) fields.rights.column fields.who.column)
    (not_refused list (as_nfs_written a) room light is)

-- ---- an entry about a user or a group

-- a name that is read again
pub record IsNameKept (who : List ℕ) : Type 0 where
  pub no_word : special_word who ≡ None
  pub no_special : is_special who ≡ false
  pub no_odd : is_odd_number who ≡ false
  pub inside : list_all is_inside who ≡ true
  pub no_colon : list_all is_no_colon who ≡ true
  pub same : trimmed who ≡ who

-- the text of such an entry
pub account_text : (letters : LetterStyle) (tag : NfsTag) (a : Ace) (word : List ℕ) → IsAccountWord tag a.flags word
    → special_word a.who ≡ None
    → nfs_entry_text letters a ≡ word ++ colon ∷ (a.who ++ colon ∷ tail_text letters a (kind_word a.kind
    ++ id_after a.who (id_of_digits a.who)))
unfolding nfs_entry_text
account_text letters tag a word h none = rw (none, h.word_of) (append_assoc word (colon ∷ a.who) _)

-- the parts that the id of a who is
abbrev id_parts : List ℕ → Option ℕ → List (List ℕ)
id_parts who None = []
id_parts who (Some id) = who ∷ []

-- the parts of the kind and of the id
last_split : (kind : Kind) (who : List ℕ) (id : Option ℕ) → list_all is_no_colon who ≡ true
    → slice_split (λ b. b == colon) (kind_word kind ++ id_after who id) ≡ kind_word kind ∷ id_parts who id
last_split kind who None h = ap (slice_split (λ b. b == colon)) (append-nil (kind_word kind))
    ∙ split_last (kind_word kind) (kind_pass is_no_colon refl refl kind)
last_split kind who (Some id) h = split_more (kind_word kind) who (kind_pass is_no_colon refl refl kind)
    ∙ ap (λ (parts : List (List ℕ)). kind_word kind ∷ parts) (split_last who h)

-- the parts of such an entry
account_split : (letters : LetterStyle) (tag : NfsTag) (a : Ace) (word : List ℕ) → IsAccountWord tag a.flags word
    → IsNameKept a.who → slice_split (λ b. b == colon) (nfs_entry_text letters a)
    ≡ word ∷ a.who ∷ rights_text letters a.mask ∷ flags_text letters a.flags ∷ kind_word a.kind ∷ id_parts a.who
    (id_of_digits a.who)
account_split letters tag a word h name =
    let id = id_of_digits a.who in
    ap (slice_split (λ b. b == colon)) (account_text letters tag a word h name.no_word)
    ∙ split_more word _ h.word_is.no_colon
    ∙ ap (λ (parts : List (List ℕ)). word ∷ parts) (split_more a.who _ name.no_colon
    ∙ ap (λ (parts : List (List ℕ)). a.who ∷ parts) (tail_split letters a (kind_word a.kind ++ id_after a.who id)
    ∙ ap (λ (parts : List (List ℕ)). rights_text letters a.mask ∷ flags_text letters a.flags ∷ parts)
    (last_split a.kind a.who id name.no_colon)))

-- the field of an id
abbrev id_at : ℕ → List ℕ → Option ℕ → Option Span
id_at column who None = None
id_at column who (Some id) = Some (trimmed_span (part_at column who))

-- the fields of such an entry, with their places
abbrev account_at : LetterStyle → ℕ → NfsTag → Ace → List ℕ → Option ℕ → NfsFields
account_at letters column tag a word id =
    let name = column + length word + 1 in
    let rights = name + length a.who + 1 in
    let flags = rights + length (rights_text letters a.mask) + 1 in
    let kind = flags + length (flags_text letters a.flags) + 1 in
    record {
      tag = tag;
      who = trimmed_span (part_at name a.who);
      rights = trimmed_span (part_at rights (rights_text letters a.mask));
      flags = trimmed_span (part_at flags (flags_text letters a.flags));
      kind = trimmed_span (part_at kind (kind_word a.kind));
      id = id_at (kind + length (kind_word a.kind) + 1) a.who id;
    }

-- the fields of these parts
account_parts : (letters : LetterStyle) (column : ℕ) (tag : NfsTag) (a : Ace) (word : List ℕ) (id : Option ℕ)
    → IsAccountWord tag a.flags word
    → fields_of_parts column (parts_at column (word ∷ a.who ∷ rights_text letters a.mask ∷ flags_text letters a.flags
    ∷ kind_word a.kind ∷ id_parts a.who id)) ≡ Ok (account_at letters column tag a word id)
account_parts letters column tag a word None h = rw (kept word h.word_is.no_blank, h.tag_of, h.no_name) refl
account_parts letters column tag a word (Some id) h = rw (kept word h.word_is.no_blank, h.tag_of, h.no_name) refl

-- the who of a name and an id
name_again : (by : WhoField) (who : List ℕ) (place column : ℕ) (id : Option ℕ) → IsNameKept who
    → id_of_digits who ≡ id → who_of_fields by (trimmed_span (part_at place who)) (id_at column who id) ≡ Ok who
name_again by who place column None h e = rw (h.same, h.no_odd, h.no_special) refl
name_again source.Name who place column (Some id) h e =
    let i = id_again who id e in rw (h.same, h.no_odd, i.0) (rw (i.1, h.no_special) refl)
name_again source.Id who place column (Some id) h e =
    let i = id_again who id e in rw (h.same, h.no_odd, i.0) (rw i.1 (ap (λ (n : List ℕ). Ok n) i.2))

-- such an entry is read as the ACE
pub account_again : (letters : LetterStyle) (by : WhoField) (tag : NfsTag) (a : Ace) (word : List ℕ) (list : List Ace)
    (column : ℕ) → IsAccountWord tag a.flags word → IsNameKept a.who → IsWithin 0x1f01ff a.mask → IsWho a.who
    → length list < most_aces → weight list + count_ones a.mask ≤ most_weight
    → nfs_entry by list (part_at column (nfs_entry_text letters a)) ≡ Ok (as_nfs_written a)
account_again letters by tag a word list column h kept_name within is room light =
    let id = id_of_digits a.who in
    let fields = account_at letters column tag a word id in
    let are : AreFieldsOf letters a fields =
    record { rights = rights_kept letters a.mask; flags = flags_kept letters a.flags; kind = kind_kept a.kind } in
    let name : who_by_tag by fields (tag_special tag) ≡ Ok a.who =
    rw h.no_name (name_again by a.who (column + length word + 1) _ id kept_name refl) in
    let same : flags_by_tag tag (bit_and a.flags 0xbf) ≡ kept_flags a.who a.flags =
    h.flags_of ∙ rw kept_name.no_special refl in
    let some : is_all_blank (nfs_entry_text letters a) ≡ false =
    ap is_all_blank (account_text letters tag a word h kept_name.no_word)
    ∙ not_all_blank word _ h.word_is.no_blank h.word_is.some in
    good_nfs_ace by list (part_at column (nfs_entry_text letters a)) fields (as_nfs_written a)
    (found_again (length list) (part_at column (nfs_entry_text letters a)) fields some room
    (fields_again column (nfs_entry_text letters a) _ (account_split letters tag a word h kept_name)
    ∙ account_parts letters column tag a word id h))
    (read_again letters by a fields are within name ∙ ap (λ (f : ℕ). Ok (ace_with a.kind f a.mask a.who)) same)
    ∙ ap (unless_refused (as_nfs_written a) fields.rights.column fields.who.column)
    (not_refused list (as_nfs_written a) room light is)
