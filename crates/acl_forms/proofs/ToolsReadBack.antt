-- The text that is written for a list spells the list.
use Rattle.std.proofs.Common.{◌∙◌, ◌≡◌, ◌+◌, ℕ, Bool, true, false, cond, List, [], ◌∷◌, length, None, Some, Ok, refl, sym, ap, subst, arith}
use Rattle.std.specs.Prelude.{◌==◌, ◌↔◌, map, nat_lt, not, if◌then◌else◌}
use Rattle.std.specs.List.{AllByRecursion, list_all}
use Rattle.std.specs.Str.{bytes_eq}
use Rattle.std.proofs.lemmas.Bool.Decides.{nat_tests}
use Rattle.std.proofs.lemmas.List.Folds.{list_all-append}
use Rattle.std.proofs.lemmas.List.Splits.{slice_split_none}
use Rattle.acl_perm.proofs.Bools.{and_true}
use Rattle.acl_perm.specs.Ascii.{comment_mark, line_feed}
use Rattle.acl_perm.specs.Lines.{Span}
use Rattle.acl_perm.specs.Profile.{full}
use Rattle.acl_nfs4.specs.Ace.{Ace}
use Rattle.acl_nfs4.specs.Spelling.{IsAccepted, IsAce}
use Rattle.acl_perm.specs.Bits.{has_bit, identifier_group}
use Rattle.acl_perm.specs.Principal.{everyone, group, group_named, owner, user}
use Rattle.acl_nfs4.specs.Who.{everyone_name, group_name, is_plain, IsWho, owner_name, principal_of}
use Rattle.acl_nfs4.proofs.Exports.{all_weaker, plain_who}
use Rattle.acl_forms.specs.internal.FaultSearch.{tools_fault_from}
use Rattle.acl_forms.specs.Letters.{flag_letters, single_letters}
use Rattle.acl_forms.specs.Texts.{cut_entries, line_items}
use Rattle.acl_forms.specs.ToolsRules.{is_break, tools_rules, SpellsTools}
use Rattle.acl_forms.specs.ToolsWritten.{as_written, flags_written, longest_tools_text, tools_ace_fault, tools_entry_text, tools_fault, tools_line, tools_text, IsSameButGroup}
use Rattle.acl_forms.specs.declared.fault.FormFault.{FormFault}
use Rattle.acl_forms.specs.declared.fault.FormReason.TheVariants.{TooLong}
use Rattle.acl_forms.specs.declared.object.ObjectKind.{ObjectKind}
use Rattle.acl_forms.proofs.TextLemmas.{one_list}
use Rattle.acl_forms.proofs.TextsReadBack.{each_again, no_nul, part_at, IsReadBack}
use Rattle.acl_forms.proofs.LettersReadBack.{letters_pass}
use Rattle.acl_forms.proofs.FormLemmas.{no_fault, some_fault}
use Rattle.acl_forms.proofs.ToolsEntriesReadBack.{all_not, entry_again, entry_inside, group_twice, held, is_inside, kind_pass, no_place}

-- ---- a text

-- no byte inside an entry begins a comment
pub no_mark : (b : ℕ) → is_inside b ≡ true → not (b == comment_mark) ≡ true
no_mark b h = (and_true (not (b == comment_mark)) (not (is_break b)) (and_true (not (b == line_feed)) _ h).1).0

-- a span whose bytes are inside an entry is one item of its line
line_again : (object : ObjectKind) (s : Span) → list_all is_inside s.bytes ≡ true → (length s.bytes == 0) ≡ false
    → line_items (tools_rules object) s ≡ Ok s ∷ []
unfolding line_items cut_entries
line_again object s inside some =
    let mark = no_place (λ b. b == comment_mark) s.bytes
    (all_weaker is_inside (λ b. not (b == comment_mark)) s.bytes (λ b h. no_mark b h) inside) in
    let whole = slice_split_none is_break s.bytes
    (all_not is_break s.bytes (all_weaker is_inside (λ b. not (is_break b)) s.bytes (λ b h. no_break b h) inside)) in
    rw (mark, whole, some) refl where
      no_break : (b : ℕ) → is_inside b ≡ true → not (is_break b) ≡ true
      no_break b h = (and_true (not (b == comment_mark)) (not (is_break b)) (and_true (not (b == line_feed)) _ h).1).1

-- an entry has some bytes
some_bytes : (a : Ace) → (length (tools_entry_text a) == 0) ≡ false
unfolding tools_entry_text
some_bytes a = grind (arith, nat_tests)

-- each ACE that is held is read again
read_each : (object : ObjectKind) (list : List Ace) (place done : ℕ) → AllByRecursion (IsAce full) list
    → tools_fault_from object place done list ≡ None
    → AllByRecursion (λ a. IsReadBack (tools_rules object) (tools_entry_text a) (as_written a)) list
unfolding tools_fault_from
read_each object [] place done each none = tt
read_each object (a ∷ list) place done each none =
    let no = no_fault place (tools_ace_fault object a) _ none in
    let long = no_fault place
    (if nat_lt longest_tools_text (done + length (tools_line a)) then Some TooLong else None)
    (tools_fault_from object (place + 1) (done + length (tools_line a)) list) no.1 in
    let h = held object a no.0 in
    let inside = entry_inside a each.0.who h.apart in (
      record {
        in_line = all_not (λ b. b == line_feed) (tools_entry_text a)
            (all_weaker is_inside (λ b. not (b == line_feed)) (tools_entry_text a)
            (λ b i. (and_true (not (b == line_feed)) _ i).0) inside);
        item = λ column. line_again object (part_at column (tools_entry_text a)) inside (some_bytes a);
        again = λ before column room light. entry_again object before a column h each.0 room light;
      },
      read_each object list (place + 1) (done + length (tools_line a)) each.1 long.1,
    )

-- an empty line has no items
no_items : (object : ObjectKind) (column : ℕ) → line_items (tools_rules object) (part_at column []) ≡ []
unfolding line_items cut_entries
no_items object column = refl

-- no byte of a line is zero
line_no_nul : (a : Ace) → IsWho a.who → list_all (λ b. not (b == 0)) (tools_line a) ≡ true
unfolding tools_entry_text
line_no_nul a is =
    let name = all_weaker is_plain (λ b. not (b == 0)) a.who (λ b h. no_zero b h) (plain_who a.who is) in
    let flags = letters_pass (λ b. not (b == 0)) flag_letters (flags_written a) refl in
    let mask = letters_pass (λ b. not (b == 0)) (single_letters []) a.mask refl in
    simp (list_all-append {X = ℕ}) (rw (kind_pass (λ b. not (b == 0)) refl refl a.kind, flags, name, mask) refl) where
      no_zero : (b : ℕ) → is_plain b ≡ true → not (b == 0) ≡ true
      no_zero b h = grind (arith, nat_tests)

-- no byte of the lines is zero
lines_no_nul : (list : List Ace) → AllByRecursion (IsAce full) list
    → AllByRecursion (λ a. list_all (λ b. not (b == 0)) (tools_line a) ≡ true) list
lines_no_nul [] each = tt
lines_no_nul (a ∷ list) each = (line_no_nul a each.0.who, lines_no_nul list each.1)

-- the text that is written for a list that the form holds spells the list as it is written
pub written_spells : (object : ObjectKind) (list : List Ace) → IsAccepted full list → tools_fault object list ≡ None
    → SpellsTools object (map as_written list) (tools_text list)
written_spells object [] is none = absurd (no_some none) where
  no_some : {f : FormFault} → Some f ≡ None → ⊥
  no_some e = cc
written_spells object (a ∷ list) is none = record {
  no_nul =
      no_place (λ b. b == 0) (tools_text (a ∷ list)) (no_nul tools_line (a ∷ list) (lines_no_nul (a ∷ list) is.each));
  each = each_again (tools_rules object) tools_entry_text as_written [] (a ∷ list) 0 (no_items object) (λ x. refl)
      (read_each object (a ∷ list) 0 0 is.each (some_fault object (a ∷ list) (λ e. absurd cc) ∙ none)) (omega (arith, is.count)) (omega (arith, is.weight));
  enough = omega arith;
}

-- the text that is written spells the list as it is written, and no other list
pub written_reads_back : (object : ObjectKind) (list other : List Ace) → IsAccepted full list
    → tools_fault object list ≡ None → SpellsTools object other (tools_text list) ↔ (other ≡ map as_written list)
written_reads_back object list other is none =
    let again = written_spells object list is none in (
      λ s. one_list (tools_rules object) (tools_text list) other (map as_written list) s again,
      λ e. subst (λ (l : List Ace). SpellsTools object l (tools_text list)) (sym e) again,
    )

-- ---- what the form changes

-- an ACE as it is written differs from the ACE at most in IDENTIFIER_GROUP on `GROUP@`
pub written_same : (a : Ace) → IsSameButGroup a (as_written a)
written_same a = record { kind = refl; mask = refl; who = refl; flags = sym (group_twice a.who a.flags) }

-- ACEs that differ at most in that flag name the same principal
pub same_principal : (a b : Ace) → IsSameButGroup a b → principal_of a ≡ principal_of b
same_principal a b h = rw (← h.who) (by (bytes_eq a.who owner_name) (bytes_eq a.who group_name)
    (bytes_eq a.who everyone_name) refl) where
      by : (o g e : Bool) → bytes_eq a.who group_name ≡ g
          → cond o owner (cond g group (cond e everyone
          (cond (has_bit a.flags identifier_group) (group_named a.who) (user a.who))))
          ≡ cond o owner (cond g group (cond e everyone
          (cond (has_bit b.flags identifier_group) (group_named a.who) (user a.who))))
      by true g e is = refl
      by false true e is = refl
      by false false true is = refl
      by false false false is =
          let same : a.flags ≡ b.flags = rw (← h.who, is) at h.flags in
          ap (λ (n : ℕ). cond (has_bit n identifier_group) (group_named a.who) (user a.who)) same
