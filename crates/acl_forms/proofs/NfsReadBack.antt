-- The text of FreeBSD and archives that is written for a list spells the list.
use Rattle.std.proofs.Common.{◌≡◌, ◌∙◌, ◌+◌, ℕ, Bool, true, false, cond, List, [], ◌∷◌, Option, None, Some, refl, sym, ap, subst, arith}
use Rattle.std.specs.Prelude.{◌==◌, ◌↔◌, bit_and, codes, map, not}
use Rattle.std.specs.List.{AllByRecursion, list_all, list_any}
use Rattle.std.specs.Str.{bytes_eq}
use Rattle.std.proofs.lemmas.Bool.{or_parts}
use Rattle.std.proofs.lemmas.Bool.Decides.{nat_tests}
use Rattle.std.proofs.lemmas.Nat.{and_assoc}
use Rattle.std.proofs.lemmas.List.Folds.{list_all-append}
use Rattle.acl_perm.proofs.Bools.{not_false}
use Rattle.acl_perm.proofs.Meetings.{bytes_eq_same}
use Rattle.acl_perm.specs.Ascii.{colon}
use Rattle.acl_perm.specs.Bits.{has_bit, identifier_group}
use Rattle.acl_perm.specs.Principal.{everyone, group, group_named, owner, user}
use Rattle.acl_perm.specs.Lines.{is_all_blank, trimmed}
use Rattle.acl_perm.specs.Profile.{full}
use Rattle.acl_nfs4.specs.Ace.{Ace}
use Rattle.acl_nfs4.specs.Spelling.{IsAccepted, IsAce}
use Rattle.acl_nfs4.specs.Who.{everyone_name, group_name, is_plain, is_special, IsWho, owner_name, principal_of}
use Rattle.acl_nfs4.specs.Within.{IsWithin}
use Rattle.acl_nfs4.proofs.Exports.{all_weaker, plain_who}
use Rattle.acl_forms.specs.Acl41Ids.{id_of_digits}
use Rattle.acl_forms.specs.Letters.{nfs_flag_letters, nfs_right_letters}
use Rattle.acl_forms.specs.NfsRules.{nfs_rules, SpellsNfsText}
use Rattle.acl_forms.specs.NfsText.{is_odd_number}
use Rattle.acl_forms.specs.NfsWritten.{account_word, as_nfs_written, id_after, is_cut_who, is_id_cut, is_other_id, kept_flags, kind_word, nfs_ace_fault, nfs_entry_text, nfs_text, nfs_text_fault, principal_text, special_word, IsSameButSpecialGroup}
use Rattle.acl_forms.specs.ToolsWritten.{is_separator, meets, retention_rights}
use Rattle.acl_forms.specs.declared.fault.FormReason.TheVariants.{Id, Retention, Separator}
use Rattle.acl_forms.specs.declared.nfs_text.fields.NfsTag.{NfsTag}
use Rattle.acl_forms.specs.declared.nfs_text.fields.NfsTag.TheVariants.{Everyone, NamedGroup, NamedUser, Owner, OwningGroup}
use Rattle.acl_forms.specs.declared.style.LetterStyle.{LetterStyle}
use Rattle.acl_forms.specs.declared.style.Style.{Style}
use Rattle.acl_forms.specs.declared.who_field.WhoField.{WhoField}
use Rattle.acl_forms.proofs.TextLemmas.{one_list}
use Rattle.acl_forms.proofs.StyledLetters.{styled_pass}
use Rattle.acl_forms.proofs.CommasReadBack.{separated_again, separated_pass, IsEntryReadBack}
use Rattle.acl_forms.proofs.ToolsEntriesReadBack.{apart_sets, is_inside, no_place, rights_within, who_pass}
use Rattle.acl_forms.specs.internal.FaultSearch.{fault_from}
use Rattle.acl_forms.proofs.FormLemmas.{fault_from_start, no_fault}
use Rattle.acl_forms.proofs.NfsFieldsReadBack.{IsAccountWord, IsSpecialWord, everyone_word, flags_text, group_flags, group_word, kind_pass, not_all_blank, owner_word, rights_text, user_flags}
use Rattle.acl_forms.proofs.NfsEntriesReadBack.{IsNameKept, account_again, account_text, special_again, special_text}

-- ---- a text

-- the bytes of an entry about a special identifier pass a test that all its pieces pass
special_pass : (letters : LetterStyle) (test : ℕ → Bool) (tag : NfsTag) (a : Ace) (word : List ℕ)
    → IsSpecialWord tag a.who word
    → list_all test word ≡ true → test colon ≡ true → list_all test (rights_text letters a.mask) ≡ true
    → list_all test (flags_text letters a.flags) ≡ true → list_all test (kind_word a.kind) ≡ true
    → list_all test (nfs_entry_text letters a) ≡ true
special_pass letters test tag a word h w c r f k = ap (list_all test) (special_text letters tag a word h)
    ∙ simp (list_all-append {X = ℕ}) (rw (w, c, r, f, k) refl)

-- the bytes of the id pass a test that those of the who pass
id_pass : (test : ℕ → Bool) (who : List ℕ) (id : Option ℕ) → test colon ≡ true → list_all test who ≡ true
    → list_all test (id_after who id) ≡ true
id_pass test who None c h = refl
id_pass test who (Some id) c h = rw (c, h) refl

-- the bytes of an entry about a user or a group pass a test that all its pieces pass
account_pass : (letters : LetterStyle) (test : ℕ → Bool) (tag : NfsTag) (a : Ace) (word : List ℕ)
    → IsAccountWord tag a.flags word
    → special_word a.who ≡ None → list_all test word ≡ true → list_all test a.who ≡ true → test colon ≡ true
    → list_all test (rights_text letters a.mask) ≡ true → list_all test (flags_text letters a.flags) ≡ true
    → list_all test (kind_word a.kind) ≡ true → list_all test (nfs_entry_text letters a) ≡ true
account_pass letters test tag a word h none w n c r f k = ap (list_all test) (account_text letters tag a word h none)
    ∙ simp (list_all-append {X = ℕ}) (rw (w, n, c, r, f, k, id_pass test a.who (id_of_digits a.who) c n) refl)

-- an entry about a special identifier is read again
read_special : (letters : LetterStyle) (by : WhoField) (tag : NfsTag) (a : Ace) (word : List ℕ)
    → IsSpecialWord tag a.who word
    → IsWithin 0x1f01ff a.mask → IsWho a.who → IsEntryReadBack by (nfs_entry_text letters a) (as_nfs_written a)
read_special letters by tag a word h within is = record {
  inside = special_pass letters is_inside tag a word h h.word_is.inside refl
      (styled_pass letters is_inside (nfs_right_letters []) a.mask refl refl)
      (styled_pass letters is_inside (nfs_flag_letters []) a.flags refl refl) (kind_pass is_inside refl refl a.kind);
  some = ap is_all_blank (special_text letters tag a word h) ∙ not_all_blank word _ h.word_is.no_blank h.word_is.some;
  again = λ list column room light. special_again letters by tag a word list column h within is room light;
}

-- an entry about a user or a group is read again
read_account : (letters : LetterStyle) (by : WhoField) (tag : NfsTag) (a : Ace) (word : List ℕ)
    → IsAccountWord tag a.flags word → IsNameKept a.who → IsWithin 0x1f01ff a.mask → IsWho a.who
    → IsEntryReadBack by (nfs_entry_text letters a) (as_nfs_written a)
read_account letters by tag a word h name within is = record {
  inside = account_pass letters is_inside tag a word h name.no_word h.word_is.inside name.inside refl
      (styled_pass letters is_inside (nfs_right_letters []) a.mask refl refl)
      (styled_pass letters is_inside (nfs_flag_letters []) a.flags refl refl) (kind_pass is_inside refl refl a.kind);
  some = ap is_all_blank (account_text letters tag a word h name.no_word)
      ∙ not_all_blank word _ h.word_is.no_blank h.word_is.some;
  again = λ list column room light. account_again letters by tag a word list column h name within is room light;
}

-- if no test answers true, none does
none_true : (r s i : Bool) → cond r (Some Retention) (cond s (Some Separator) (cond i (Some Id) None)) ≡ None
    → (r ≡ false) × (s ≡ false) × (i ≡ false)
none_true true s i e = absurd cc
none_true false true i e = absurd cc
none_true false false true e = absurd cc
none_true false false false e = (refl, refl, refl)

-- the who of an ACE is a special identifier, or none of the three
who_cases : (C : Type 0) (who : List ℕ) → (who ≡ owner_name → C) → (who ≡ group_name → C) → (who ≡ everyone_name → C)
    → ((special_word who ≡ None) × (is_special who ≡ false) → C) → C
who_cases C who on_owner on_group on_everyone on_none =
    elim (bytes_eq who owner_name) as (λ t. bytes_eq who owner_name ≡ t → C) [
      | true ↦ λ o. on_owner (bytes_eq_same who owner_name o)
      | false ↦ λ o. elim (bytes_eq who group_name) as (λ t. bytes_eq who group_name ≡ t → C) [
        | true ↦ λ g. on_group (bytes_eq_same who group_name g)
        | false ↦ λ g. elim (bytes_eq who everyone_name) as (λ t. bytes_eq who everyone_name ≡ t → C) [
          | true ↦ λ e. on_everyone (bytes_eq_same who everyone_name e)
          | false ↦ λ e. on_none (rw (o, g, e) refl, rw (o, g, e) refl)
        ] refl
      ] refl
    ] refl

-- an ACE that is held is read again
read_ace : (letters : LetterStyle) (by : WhoField) (a : Ace) → IsAce full a → nfs_ace_fault a ≡ None
    → IsEntryReadBack by (nfs_entry_text letters a) (as_nfs_written a)
read_ace letters by a is none =
    let no = none_true (meets a.mask retention_rights) (is_cut_who a.who) (is_other_id a.who) none in
    let plain = or_parts (is_odd_number a.who) (is_id_cut (id_of_digits a.who)) no.2 in
    let within = rights_within a.mask is.mask (apart_sets a.mask retention_rights no.0) in
    let apart = or_parts (list_any is_separator a.who) (not (bytes_eq (trimmed a.who) a.who)) no.1 in
    let same : trimmed a.who ≡ a.who = bytes_eq_same (trimmed a.who) a.who (not_false _ apart.1) in
    let pass = who_pass a.who (plain_who a.who is.who) apart.0 in
    who_cases (IsEntryReadBack by (nfs_entry_text letters a) (as_nfs_written a)) a.who
    (λ e. read_special letters by Owner a (codes "owner@")
    (subst (λ (n : List ℕ). IsSpecialWord Owner n (codes "owner@")) (sym e) owner_word) within is.who)
    (λ e. read_special letters by OwningGroup a (codes "group@")
    (subst (λ (n : List ℕ). IsSpecialWord OwningGroup n (codes "group@")) (sym e) group_word) within is.who)
    (λ e. read_special letters by Everyone a (codes "everyone@")
    (subst (λ (n : List ℕ). IsSpecialWord Everyone n (codes "everyone@")) (sym e) everyone_word) within is.who)
    (λ o.
    let name : IsNameKept a.who =
    record {
      no_word = o.0;
      no_special = o.1;
      no_odd = plain.0;
      inside = pass.0;
      no_colon = pass.1;
      same = same;
    } in
    elim (meets a.flags 0x40) as (λ t. meets a.flags 0x40 ≡ t
    → IsEntryReadBack by (nfs_entry_text letters a) (as_nfs_written a)) [
      | true ↦ λ met.
          read_account letters by NamedGroup a (codes "group") (group_flags a.flags is.flags met) name within is.who
      | false ↦ λ apart_flags.
          read_account letters by NamedUser a (codes "user") (user_flags a.flags is.flags apart_flags)
          name within is.who
    ] refl)

-- each ACE of a list that is held is read again
read_each : (letters : LetterStyle) (by : WhoField) (list : List Ace) (place : ℕ) → AllByRecursion (IsAce full) list
    → fault_from nfs_ace_fault place list ≡ None
    → AllByRecursion (λ a. IsEntryReadBack by (nfs_entry_text letters a) (as_nfs_written a)) list
read_each letters by [] place each none = tt
read_each letters by (a ∷ list) place each none =
    let no = no_fault place (nfs_ace_fault a) (fault_from nfs_ace_fault (place + 1) list) none in
    (read_ace letters by a each.0 no.0, read_each letters by list (place + 1) each.1 no.1)

-- a test of bytes that plain bytes pass
abbrev is_no_zero : ℕ → Bool
is_no_zero b = not (b == 0)

-- no byte of an entry is zero
entry_no_nul : (letters : LetterStyle) (a : Ace) → IsWho a.who → list_all is_no_zero (nfs_entry_text letters a) ≡ true
unfolding nfs_entry_text
entry_no_nul letters a is =
    let name = all_weaker is_plain is_no_zero a.who (λ b h. no_zero b h) (plain_who a.who is) in
    let rights = styled_pass letters is_no_zero (nfs_right_letters []) a.mask refl refl in
    let flags = styled_pass letters is_no_zero (nfs_flag_letters []) a.flags refl refl in
    let kind = kind_pass is_no_zero refl refl a.kind in
    let id = id_pass is_no_zero a.who (id_of_digits a.who) refl name in
    simp (list_all-append {X = ℕ}) (rw (principal a name, rights, flags, kind, id) refl) where
      no_zero : (b : ℕ) → is_plain b ≡ true → is_no_zero b ≡ true
      no_zero b h = grind (arith, nat_tests)

      word : (flags : ℕ) → list_all is_no_zero (account_word flags) ≡ true
      word flags = elim (meets flags 0x40)
          as (λ t. list_all is_no_zero (cond t (codes "group") (codes "user")) ≡ true) [
            | true ↦ refl
            | false ↦ refl
          ]

      principal : (a : Ace) → list_all is_no_zero a.who ≡ true
          → list_all is_no_zero (principal_text a (special_word a.who)) ≡ true
      principal a name = who_cases (list_all is_no_zero (principal_text a (special_word a.who)) ≡ true) a.who
          (λ e. rw e refl) (λ e. rw e refl) (λ e. rw e refl)
          (λ o. rw o.0 (list_all-append is_no_zero (account_word a.flags) (colon ∷ a.who)
          ∙ rw (word a.flags, name) refl))

-- no byte of the entries is zero
entries_no_nul : (letters : LetterStyle) (list : List Ace) → AllByRecursion (IsAce full) list
    → AllByRecursion (λ a. list_all is_no_zero (nfs_entry_text letters a) ≡ true) list
entries_no_nul letters [] each = tt
entries_no_nul letters (a ∷ list) each = (entry_no_nul letters a each.0.who, entries_no_nul letters list each.1)

-- the text that is written for a list that the form holds spells the list as it is written
nfs_written_spells : (by : WhoField) (style : Style) (list : List Ace) → IsAccepted full list
    → nfs_text_fault list ≡ None → SpellsNfsText by (map as_nfs_written list) (nfs_text style list)
nfs_written_spells by style list is none =
    let entry = nfs_entry_text style.letters in
    record {
      no_nul = no_place (λ b. b == 0) (nfs_text style list)
          (separated_pass is_no_zero refl refl style.separator entry list (entries_no_nul style.letters list is.each));
      each = separated_again by style.separator entry as_nfs_written list (λ a. refl)
          (read_each style.letters by list 0 is.each (fault_from_start nfs_ace_fault list ∙ none)) (omega (arith, is.count)) (omega (arith, is.weight));
      enough = omega arith;
    }

-- the text that is written spells the list as it is written, and no other list
pub nfs_written_reads_back : (by : WhoField) (style : Style) (list other : List Ace) → IsAccepted full list
    → nfs_text_fault list ≡ None
    → SpellsNfsText by other (nfs_text style list) ↔ (other ≡ map as_nfs_written list)
nfs_written_reads_back by style list other is none =
    let again = nfs_written_spells by style list is none in (
      λ s. one_list (nfs_rules by) (nfs_text style list) other (map as_nfs_written list) s again,
      λ e. subst (λ (l : List Ace). SpellsNfsText by l (nfs_text style list)) (sym e) again,
    )

-- ---- what the form changes

-- flags that are written stay as they are when they are written again
kept_twice : (who : List ℕ) (flags : ℕ) → kept_flags who (kept_flags who flags) ≡ kept_flags who flags
kept_twice who flags =
    elim (is_special who)
    as (λ t. cond t (bit_and (cond t (bit_and flags 0xbf) flags) 0xbf) (cond t (bit_and flags 0xbf) flags)
    ≡ cond t (bit_and flags 0xbf) flags) [
      | true ↦ and_assoc 0xbf flags 0xbf
      | false ↦ refl
    ]

-- an ACE as it is written differs from the ACE at most in IDENTIFIER_GROUP of a special identifier
pub nfs_written_same : (a : Ace) → IsSameButSpecialGroup a (as_nfs_written a)
nfs_written_same a = record { kind = refl; mask = refl; who = refl; flags = sym (kept_twice a.who a.flags) }

-- ACEs that differ at most in that flag name the same principal
pub nfs_same_principal : (a b : Ace) → IsSameButSpecialGroup a b → principal_of a ≡ principal_of b
nfs_same_principal a b h = rw (← h.who) (by (bytes_eq a.who owner_name) (bytes_eq a.who group_name)
    (bytes_eq a.who everyone_name) refl refl refl) where
      by : (o g e : Bool) → bytes_eq a.who owner_name ≡ o → bytes_eq a.who group_name ≡ g
          → bytes_eq a.who everyone_name ≡ e
          → cond o owner (cond g group (cond e everyone
          (cond (has_bit a.flags identifier_group) (group_named a.who) (user a.who))))
          ≡ cond o owner (cond g group (cond e everyone
          (cond (has_bit b.flags identifier_group) (group_named a.who) (user a.who))))
      by true g e p q r = refl
      by false true e p q r = refl
      by false false true p q r = refl
      by false false false p q r =
          let same : a.flags ≡ b.flags = rw (← h.who, p, q, r) at h.flags in
          ap (λ (n : ℕ). cond (has_bit n identifier_group) (group_named a.who) (user a.who)) same
