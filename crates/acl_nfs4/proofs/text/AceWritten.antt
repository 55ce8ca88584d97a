-- The text that is written, and what it spells.
use Rattle.acl_nfs4.proofs.Common.{[], Ace, ace_line, ace_lines_from, ace_text, all_flags, all_rights, AllByRecursion, Allow, ap, append_assoc, arith, Bool, cond, Deny, eqb, false, first_name, flag_names, flat_map-cons, is_no_who_len, is_plain, is_skipped, is_unknown_special, is_utf8, IsAccepted, IsAce, IsAceText, IsProfile, IsWho, Kind, kind_name, length, List, list_all, list_all-append, nat_tests, None, not, Profile, refl, rights, set_text, slice_split_at, Some, SpellEach, SpellsAce, SpellsMask, subst, sym, true, ℕ, ◌++◌, ◌+◌, ◌↔◌, ◌∙◌, ◌∷◌, ◌≡◌}
use Rattle.acl_perm.proofs.Cuts.{not_feed}
use Rattle.acl_perm.specs.Lines.{lines_of}
use Rattle.acl_nfs4.specs.declared.who.WhoFault.TheVariants as who
use Rattle.acl_nfs4.proofs.text.AceLines.{one_list}
use Rattle.acl_nfs4.proofs.names.SetFields.{all_apart, flags_table, named_again, rights_table}
use Rattle.acl_nfs4.proofs.names.Tables.{first_spells, set_text-pass, text_spells}
use Rattle.acl_nfs4.proofs.list.Within.{within_part}
use Rattle.acl_nfs4.proofs.plain_ascii.PlainText.{all_weaker}

-- ---- the bytes of a line

-- a who has no control byte
pub plain_who : (name : List ℕ) → IsWho name → list_all is_plain name ≡ true
plain_who name h = no_control (is_no_who_len (length name)) (is_utf8 name) (list_all is_plain name)
    (is_unknown_special name) h where
      no_control : (long text plain special : Bool) → cond long (Some who.Length) (cond (not text) (Some who.Utf8)
          (cond (not plain) (Some who.Control) (cond special (Some who.Special) None))) ≡ None → plain ≡ true
      no_control true text plain special h = absurd cc
      no_control false false plain special h = absurd cc
      no_control false true true special h = refl
      no_control false true false special h = absurd cc

-- the bytes of the name of a kind pass a test that the bytes of both names pass
kind_pass : (test : ℕ → Bool) → list_all test (kind_name Allow) ≡ true → list_all test (kind_name Deny) ≡ true
    → (kind : Kind) → list_all test (kind_name kind) ≡ true
kind_pass test allow deny Allow = allow
kind_pass test allow deny Deny = deny

-- ---- lines

-- a line without its line feed
abbrev body : Ace → List ℕ
body a = kind_name a.kind ++ 0x20 ∷ (set_text flag_names a.flags ++ 0x20 ∷ (set_text rights a.mask ++ 0x20 ∷ a.who))

-- a line is its body and a line feed
line_is : (a : Ace) → ace_line a ≡ body a ++ 10 ∷ []
unfolding ace_line
line_is a = simp append_assoc

-- a body has no line feed
no_feed_in : (a : Ace) → IsWho a.who → list_all not_feed (body a) ≡ true
no_feed_in a h =
    let flags = set_text-pass not_feed flag_names a.flags refl in
    let mask = set_text-pass not_feed rights a.mask refl in
    let who = all_weaker is_plain not_feed a.who (λ b plain. grind (arith, nat_tests, plain)) (plain_who a.who h) in
    simp (list_all-append {X = ℕ}) (rw (kind_pass not_feed refl refl a.kind, flags, mask, who) refl)

-- a body is not skipped
body_not_skipped : (a : Ace) → is_skipped (body a) ≡ false
body_not_skipped a =
    by_kind a.kind (0x20 ∷ (set_text flag_names a.flags ++ 0x20 ∷ (set_text rights a.mask ++ 0x20 ∷ a.who)))
  where
    by_kind : (kind : Kind) (rest : List ℕ) → is_skipped (kind_name kind ++ rest) ≡ false
    by_kind Allow rest = refl
    by_kind Deny rest = refl

-- a body spells its ACE
spells_line : (p : Profile) (a : Ace) → IsProfile p → IsAce p a → SpellsAce (body a) a
spells_line p a is h = record {
  fields = record {
    kind = kind_name a.kind;
    flags = set_text flag_names a.flags;
    mask = set_text rights a.mask;
    who = a.who;
  };
  has = record {
    order = refl;
    kind = kind_pass (λ b. not (eqb b 0x20)) refl refl a.kind;
    flags = set_text-pass (λ b. not (eqb b 0x20)) flag_names a.flags refl;
    mask = set_text-pass (λ b. not (eqb b 0x20)) rights a.mask refl;
  };
  kind = refl;
  flags = text_spells flag_names a.flags flags_table (within_part all_flags p.flags a.flags is.flags h.flags);
  mask = text_spells rights a.mask rights_table (within_part all_rights p.masks a.mask is.masks h.mask);
  who = refl;
}

-- the first line of a written text is the body of its first ACE
lines_next : (p : Profile) (a : Ace) (list : List Ace) → IsAce p a
    → lines_of (ace_text (a ∷ list)) ≡ body a ∷ lines_of (ace_text list)
lines_next p a list h =
    ap lines_of (flat_map-cons ace_line a list ∙ ap (λ (l : List ℕ). l ++ ace_text list) (line_is a)
    ∙ append_assoc (body a) (10 ∷ []) (ace_text list))
    ∙ slice_split_at (λ b. eqb b 10) (body a) 10 (ace_text list) (all_apart 10 (body a) (no_feed_in a h.who)) refl

-- the lines of the written text spell the ACEs
spelled_from : (p : Profile) (number : ℕ) (list : List Ace) → IsProfile p → AllByRecursion (IsAce p) list
    → SpellEach (ace_lines_from number (lines_of (ace_text list))) list
spelled_from p number [] is each = tt
spelled_from p number (a ∷ list) is each =
    rw (lines_next p a list each.0, body_not_skipped a)
    (spells_line p a is each.0, spelled_from p (number + 1) list is each.1)

-- the written text spells the list
pub text_again : (p : Profile) (list : List Ace) → IsProfile p → IsAccepted p list → IsAceText p list (ace_text list)
text_again p list is h = record { spelled = spelled_from p 1 list is h.each; accepted = h }

-- the written text spells the list and no other
pub reads_back : (p : Profile) (list other : List Ace) → IsProfile p → IsAccepted p list
    → IsAceText p other (ace_text list) ↔ (other ≡ list)
reads_back p list other is h = (
  λ s. one_list p (ace_text list) other list s (text_again p list is h),
  λ e. subst (λ (l : List Ace). IsAceText p l (ace_text list)) (sym e) (text_again p list is h),
)

-- ---- names of rights

-- the name of a right names its bit alone
pub name_is_read : (bit n : ℕ) (name : List ℕ) → first_name rights bit ≡ Some name → SpellsMask name n ↔ (n ≡ bit)
name_is_read bit n name e =
    let spells = first_spells rights rights bit name rights_table.named e in (
      λ s. let one = named_again rights name n rights_table s in
          let two = named_again rights name bit rights_table spells in
          cc,
      λ is. subst (SpellsMask name) (sym is) spells,
    )
