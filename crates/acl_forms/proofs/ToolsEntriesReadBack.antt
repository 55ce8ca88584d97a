-- An entry of the text of nfs4-acl-tools is read as it is written.
use Rattle.std.proofs.Common.{◌≡◌, ◌∙◌, ◌+◌, ◌<◌, ◌≤◌, ℕ, Bool, true, false, cond, List, [], ◌∷◌, ◌++◌, length, None, Some, Result, Ok, refl, sym, ap, arith}
use Rattle.std.specs.Prelude.{◌&&◌, ◌||◌, ◌==◌, bit_and, bit_or, count_ones, nat_le, nat_lt, not, position}
use Rattle.std.specs.List.{All, list_all, list_any, position_or_len, slice_split}
use Rattle.std.specs.Int.Bits.{or_zero_l}
use Rattle.std.specs.Str.{bytes_eq}
use Rattle.std.proofs.lemmas.Bool.{le-ltb, not-true, or_parts}
use Rattle.std.proofs.lemmas.Bool.Decides.{nat_tests}
use Rattle.std.proofs.lemmas.List.Elements.{All-weaker}
use Rattle.std.proofs.lemmas.List.Folds.{list_all-append}
use Rattle.std.proofs.lemmas.List.Splits.{slice_split_at, slice_split_none}
use Rattle.std.proofs.lemmas.List.Sums.{AllPass-from_list_all}
use Rattle.acl_perm.proofs.Bools.{and_true}
use Rattle.acl_perm.proofs.Sets.{has_bit-and, has_bit-or, same_set}
use Rattle.acl_perm.specs.Ascii.{colon, comment_mark, line_feed}
use Rattle.acl_perm.specs.Lines.{cut_at, Span, spans}
use Rattle.acl_perm.specs.Profile.{full}
use Rattle.acl_perm.specs.declared.kind.Kind.{Kind}
use Rattle.acl_perm.specs.declared.kind.Kind.TheVariants.{Deny, Allow}
use Rattle.acl_perm.specs.internal.Steps.{◌>>=◌}
use Rattle.acl_nfs4.specs.Ace.{Ace}
use Rattle.acl_nfs4.specs.FlagNames.{inherited_alone}
use Rattle.acl_nfs4.specs.Limits.{most_aces, most_weight}
use Rattle.acl_nfs4.specs.Push.{push_refusal}
use Rattle.acl_nfs4.specs.Spelling.{IsAce, weight}
use Rattle.acl_perm.specs.Bits.{has_bit}
use Rattle.acl_nfs4.specs.Who.{group_name, is_plain, IsWho}
use Rattle.acl_nfs4.specs.Within.{IsWithin}
use Rattle.acl_nfs4.proofs.Exports.{and_or, plain_who, union_within}
use Rattle.acl_forms.specs.Letters.{flag_letters, right_letters, set_of_letters, single_letters}
use Rattle.acl_forms.specs.ToolsRules.{is_break}
use Rattle.acl_forms.specs.ToolsText.{tools_ace, Fields, entry_fields_of, fields_read, four, kind_read, tools_entry, unless_refused, with_group_flag}
use Rattle.acl_forms.specs.ToolsWritten.{as_written, delete_child, flags_written, inheritance_flags, is_no_file_ace, is_separator, kind_letter, letters_of, longest_tools_who, meets, retention_rights, tools_ace_fault, tools_entry_text}
use Rattle.acl_forms.specs.declared.fault.FormReason.TheVariants.{Inherited, NotDirectory, Retention, Separator, TooLong}
use Rattle.acl_forms.specs.declared.fault.ReadFault.{ReadFault}
use Rattle.acl_forms.specs.declared.fault.ReadReason.TheVariants as reasons
use Rattle.acl_forms.specs.declared.object.ObjectKind.{ObjectKind}
use Rattle.acl_forms.specs.declared.object.ObjectKind.TheVariants.{File, Directory}
use Rattle.acl_forms.proofs.EntryLemmas.{good_fields}
use Rattle.acl_forms.proofs.TextsReadBack.{part_at}
use Rattle.acl_forms.proofs.LettersReadBack.{flags_read, letters_pass, rights_read, SuitsFile}

-- ---- what an ACE that the form holds is

-- an ACE without a fault
pub record IsHeld (object : ObjectKind) (a : Ace) : Type 0 where
  pub kept : bit_and a.mask retention_rights ≡ 0
  pub apart : list_any is_separator a.who ≡ false
  pub flags : SuitsFile object inheritance_flags a.flags
  pub mask : SuitsFile object delete_child a.mask

-- if no test answers true, no test does
none_true : (i r s d l : Bool) → cond i (Some Inherited) (cond r (Some Retention) (cond s (Some Separator)
    (cond d (Some NotDirectory) (cond l (Some TooLong) None)))) ≡ None → (r ≡ false) × (s ≡ false) × (d ≡ false)
none_true true r s d l e = absurd cc
none_true false true s d l e = absurd cc
none_true false false true d l e = absurd cc
none_true false false false true l e = absurd cc
none_true false false false false l e = (refl, refl, refl)

-- sets that do not meet have no bit in common
pub apart_sets : (set other : ℕ) → meets set other ≡ false → bit_and set other ≡ 0
apart_sets set other e = grind (arith, nat_tests)

-- an ACE for files meets no set of directories alone
suits : (object : ObjectKind) (a : Ace) → is_no_file_ace object a ≡ false
    → SuitsFile object inheritance_flags a.flags × SuitsFile object delete_child a.mask
suits Directory a e = (tt, tt)
suits File a e = by (meets a.flags inheritance_flags) (meets a.mask delete_child) refl refl e where
  by : (f m : Bool) → meets a.flags inheritance_flags ≡ f → meets a.mask delete_child ≡ m → (f || m) ≡ false
      → (bit_and a.flags inheritance_flags ≡ 0) × (bit_and a.mask delete_child ≡ 0)
  by true m p q e = absurd cc
  by false true p q e = absurd cc
  by false false p q e = (apart_sets a.flags inheritance_flags p, apart_sets a.mask delete_child q)

-- an ACE without a fault is held
pub held : (object : ObjectKind) (a : Ace) → tools_ace_fault object a ≡ None → IsHeld object a
held object a e =
    let no = none_true (meets a.flags inherited_alone) (meets a.mask retention_rights) (list_any is_separator a.who)
    (is_no_file_ace object a)
    (nat_lt longest_tools_who (length a.who)) e in
    let suit = suits object a no.2 in
    record { kept = apart_sets a.mask retention_rights no.0; apart = no.1; flags = suit.0; mask = suit.1 }

-- ---- the bytes of an entry

-- a byte that ends no line and no entry, and begins no comment
abbrev pub is_inside : ℕ → Bool
is_inside b = not (b == line_feed) && (not (b == comment_mark) && not (is_break b))

-- a byte that is no colon
abbrev pub is_no_colon : ℕ → Bool
is_no_colon b = not (b == colon)

-- a byte that is no control byte and no separator is inside an entry, and no colon
pub inside_byte : (b : ℕ) → is_plain b ≡ true → is_separator b ≡ false → (is_inside b ≡ true) × (is_no_colon b ≡ true)
inside_byte b plain other = (grind (arith, nat_tests), grind (arith, nat_tests))

-- the bytes of a who are inside an entry, and no colons
pub who_pass : (name : List ℕ) → list_all is_plain name ≡ true → list_any is_separator name ≡ false
    → (list_all is_inside name ≡ true) × (list_all is_no_colon name ≡ true)
who_pass [] plain apart = (refl, refl)
who_pass (b ∷ name) plain apart =
    let first = and_true (is_plain b) (list_all is_plain name) plain in
    let second = or_parts (is_separator b) (list_any is_separator name) apart in
    let byte = inside_byte b first.0 second.0 in
    let others = who_pass name first.1 second.1 in (rw (byte.0, others.0) refl, rw (byte.1, others.1) refl)

-- bytes of which none passes a test
pub all_not : (p : ℕ → Bool) (bytes : List ℕ) → list_all (λ b. not (p b)) bytes ≡ true → All (λ b. p b ≡ false) bytes
all_not p bytes e = All-weaker _ _ (λ b h. not-true (p b) h) bytes (AllPass-from_list_all _ bytes e)

-- no place has a byte that passes a test
pub no_place : (p : ℕ → Bool) (bytes : List ℕ) → list_all (λ b. not (p b)) bytes ≡ true → position p bytes ≡ None
no_place p bytes e = rw (le-ltb (position_or_len p bytes) (length bytes) (omega (arith, all p bytes e))) refl where
  all : (p : ℕ → Bool) (bytes : List ℕ) → list_all (λ b. not (p b)) bytes ≡ true
      → position_or_len p bytes ≡ length bytes
  all p [] e = refl
  all p (b ∷ bytes) e =
      let both = and_true (not (p b)) (list_all (λ b. not (p b)) bytes) e in
      let more = all p bytes both.1 in
      rw both.0 (omega arith)

-- the letter of a kind passes a test that both letters pass
pub kind_pass : (test : ℕ → Bool) → test 0x41 ≡ true → test 0x44 ≡ true → (kind : Kind) → test (kind_letter kind) ≡ true
kind_pass test allow deny Allow = allow
kind_pass test allow deny Deny = deny

-- the bytes of an entry are inside it
pub entry_inside : (a : Ace) → IsWho a.who → list_any is_separator a.who ≡ false
    → list_all is_inside (tools_entry_text a) ≡ true
unfolding tools_entry_text
entry_inside a is apart =
    let name = (who_pass a.who (plain_who a.who is) apart).0 in
    let flags = letters_pass is_inside flag_letters (flags_written a) refl in
    let mask = letters_pass is_inside (single_letters []) a.mask refl in
    simp (list_all-append {X = ℕ}) (rw (kind_pass is_inside refl refl a.kind, flags, name, mask) refl)

-- ---- an entry

-- the fields of an entry
entry_fields : (a : Ace) → IsWho a.who → list_any is_separator a.who ≡ false
    → slice_split (λ b. b == colon) (tools_entry_text a) ≡ (kind_letter a.kind ∷ [])
    ∷ letters_of flag_letters (flags_written a) ∷ a.who ∷ letters_of (single_letters []) a.mask ∷ []
unfolding tools_entry_text
entry_fields a is apart =
    let is_colon : ℕ → Bool = λ b. b == colon in
    let kind : list_all is_no_colon (kind_letter a.kind ∷ []) ≡ true =
    rw (kind_pass is_no_colon refl refl a.kind) refl in
    let flags = letters_pass is_no_colon flag_letters (flags_written a) refl in
    let mask = letters_pass is_no_colon (single_letters []) a.mask refl in
    let name = (who_pass a.who (plain_who a.who is) apart).1 in
    let flag_text = letters_of flag_letters (flags_written a) in
    let mask_text = letters_of (single_letters []) a.mask in
    slice_split_at is_colon (kind_letter a.kind ∷ []) colon (flag_text ++ colon ∷ (a.who ++ colon ∷ mask_text))
    (all_not is_colon (kind_letter a.kind ∷ []) kind) refl
    ∙ ap (λ (parts : List (List ℕ)). (kind_letter a.kind ∷ []) ∷ parts)
    (slice_split_at is_colon flag_text colon (a.who ++ colon ∷ mask_text) (all_not is_colon flag_text flags) refl
    ∙ ap (λ (parts : List (List ℕ)). flag_text ∷ parts)
    (slice_split_at is_colon a.who colon mask_text (all_not is_colon a.who name) refl
    ∙ ap (λ (parts : List (List ℕ)). a.who ∷ parts)
    (slice_split_none is_colon mask_text (all_not is_colon mask_text mask))))

-- the union of two sets meets a third as both do
pub or_and : (a b c : ℕ) → bit_and (bit_or a b) c ≡ bit_or (bit_and a c) (bit_and b c)
or_and a b c = same_set _ _ (λ k. simp (has_bit-and, has_bit-or) (by (has_bit a k) (has_bit b k) (has_bit c k))) where
  by : (x y z : Bool) → ((x || y) && z) ≡ ((x && z) || (y && z))
  by true true true = refl
  by true true false = refl
  by true false true = refl
  by true false false = refl
  by false true true = refl
  by false true false = refl
  by false false true = refl
  by false false false = refl

-- a set united twice with another is united with it
pub or_twice : (a b : ℕ) → bit_or (bit_or a b) b ≡ bit_or a b
or_twice a b = same_set _ _ (λ k. simp has_bit-or (by (has_bit a k) (has_bit b k))) where
  by : (x y : Bool) → ((x || y) || y) ≡ (x || y)
  by true true = refl
  by true false = refl
  by false true = refl
  by false false = refl

-- the flags that are written stay as they are when they are read
pub group_twice : (name : List ℕ) (flags : ℕ)
    → with_group_flag name (with_group_flag name flags) ≡ with_group_flag name flags
group_twice name flags =
    elim (bytes_eq name group_name)
    as (λ t. cond t (bit_or (cond t (bit_or flags 0x40) flags) 0x40) (cond t (bit_or flags 0x40) flags)
    ≡ cond t (bit_or flags 0x40) flags) [
      | true ↦ or_twice flags 0x40
      | false ↦ refl
    ]

-- the flags that are written are flags
flags_within : (name : List ℕ) (flags : ℕ) → IsWithin 0xff flags → IsWithin 0xff (with_group_flag name flags)
flags_within name flags h =
    elim (bytes_eq name group_name) as (λ t. IsWithin 0xff (cond t (bit_or flags 0x40) flags)) [
      | true ↦ union_within 0xff flags 0x40 h refl
      | false ↦ h
    ]

-- the flags that are written suit a file if those of the ACE do
flags_suit : (object : ObjectKind) (name : List ℕ) (flags : ℕ) → SuitsFile object inheritance_flags flags
    → SuitsFile object inheritance_flags (with_group_flag name flags)
flags_suit Directory name flags h = tt
flags_suit File name flags h =
    elim (bytes_eq name group_name) as (λ t. bit_and (cond t (bit_or flags 0x40) flags) 0x0f ≡ 0) [
      | true ↦ or_and flags 0x40 0x0f ∙ rw h refl
      | false ↦ h
    ]

-- rights without those of retention are rights that have a letter
pub rights_within : (mask : ℕ) → IsWithin 0x1f07ff mask → bit_and mask 0x600 ≡ 0 → IsWithin 0x1f01ff mask
rights_within mask within none =
    let parts : bit_and mask 0x1f07ff ≡ bit_or (bit_and mask 0x600) (bit_and mask 0x1f01ff) =
    and_or mask 0x600 0x1f01ff in
    let zero : bit_or (bit_and mask 0x600) (bit_and mask 0x1f01ff) ≡ bit_and mask 0x1f01ff =
    rw none (or_zero_l (bit_and mask 0x1f01ff)) in
    sym zero ∙ sym parts ∙ within

-- a list that is accepted with an ACE takes it
pub not_refused : (list : List Ace) (a : Ace) → length list < most_aces → weight list + count_ones a.mask ≤ most_weight
    → IsWho a.who → push_refusal list a ≡ None
not_refused list a room light is =
    let r : nat_le most_aces (length list) ≡ false = grind (arith, nat_tests) in
    rw (r, le-ltb most_weight (weight list + count_ones a.mask) light, is) refl

-- the letter of a kind is read as the kind
kind_again : (kind : Kind) (column : ℕ)
    → kind_read (record { column = column; bytes = kind_letter kind ∷ [] }) ≡ Ok kind
kind_again Allow column = refl
kind_again Deny column = refl

-- an ACE of its parts
abbrev pub ace_with : Kind → ℕ → ℕ → List ℕ → Ace
ace_with kind flags mask name = record { kind = kind; flags = flags; mask = mask; who = name }

-- the fields of the entry of an ACE, with their places
abbrev fields_at : ℕ → Ace → Fields
fields_at column a =
    let flags = column + 1 + 1 in
    let name = flags + length (letters_of flag_letters (flags_written a)) + 1 in
    let mask = name + length a.who + 1 in
    record {
      kind = part_at column (kind_letter a.kind ∷ []);
      flags = part_at flags (letters_of flag_letters (flags_written a));
      who = part_at name a.who;
      rights = part_at mask (letters_of (single_letters []) a.mask);
    }

-- an entry has its fields
fields_again : (a : Ace) (column : ℕ) → IsWho a.who → list_any is_separator a.who ≡ false
    → entry_fields_of (part_at column (tools_entry_text a)) ≡ Some (fields_at column a)
unfolding entry_fields_of cut_at
fields_again a column is apart =
    ap (λ (parts : List (List ℕ)). four (spans column parts)) (entry_fields a is apart)

-- the fields are read as the ACE
ace_again : (object : ObjectKind) (a : Ace) (column : ℕ) → IsHeld object a → IsAce full a
    → tools_ace object (fields_at column a) ≡ Ok (as_written a)
unfolding tools_ace
ace_again object a column h is =
    let fields = fields_at column a in
    let mask_read = set_of_letters right_letters object reasons.Mask fields.rights.column fields.rights.bytes in
    let flags = flags_read object reasons.Flag fields.flags.column (flags_written a)
    (flags_suit object a.who a.flags h.flags) (flags_within a.who a.flags is.flags) in
    let mask = rights_read object reasons.Mask fields.rights.column a.mask h.mask
    (rights_within a.mask is.mask h.kept) in
    ap (λ (r : Result Kind ReadFault). r >>= λ k.
    set_of_letters flag_letters object reasons.Flag fields.flags.column fields.flags.bytes >>= λ f.
    mask_read >>= λ m. Ok (ace_with k (with_group_flag a.who f) m a.who)) (kind_again a.kind column)
    ∙ ap (λ (r : Result ℕ ReadFault). r >>= λ f. mask_read >>= λ m.
    Ok (ace_with a.kind (with_group_flag a.who f) m a.who)) flags
    ∙ ap (λ (r : Result ℕ ReadFault). r >>= λ m. Ok (ace_with a.kind (with_group_flag a.who (flags_written a)) m a.who))
    mask
    ∙ ap (λ (f : ℕ). Ok (ace_with a.kind f a.mask a.who)) (group_twice a.who a.flags)

-- the four fields of an entry are read if the list has room
found_again : (count : ℕ) (entry : Span) (fields : Fields) → entry_fields_of entry ≡ Some fields → count < most_aces
    → fields_read count entry ≡ Ok fields
found_again count entry fields e room =
    let r : nat_le most_aces count ≡ false = grind (arith, nat_tests) in rw (e, r) refl

-- the entry of an ACE is read as the ACE
pub entry_again : (object : ObjectKind) (list : List Ace) (a : Ace) (column : ℕ) → IsHeld object a → IsAce full a
    → length list < most_aces → weight list + count_ones a.mask ≤ most_weight
    → tools_entry object list (part_at column (tools_entry_text a)) ≡ Ok (as_written a)
entry_again object list a column h is room light =
    let fields = fields_at column a in
    good_fields object list (part_at column (tools_entry_text a)) fields (as_written a)
    (found_again (length list) (part_at column (tools_entry_text a)) fields (fields_again a column is.who h.apart) room)
    (ace_again object a column h is)
    ∙ ap (unless_refused (as_written a) fields.rights.column fields.who.column)
    (not_refused list (as_written a) room light is.who)
