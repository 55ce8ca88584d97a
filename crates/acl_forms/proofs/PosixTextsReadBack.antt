-- The text that is written of a POSIX ACL spells the ACL, in the style of star and in that of GNU tar.
use Rattle.std.proofs.Common.{◌≡◌, ◌∙◌, ◌+◌, ◌++◌, ℕ, Bool, true, false, cond, List, [], ◌∷◌, length, None, refl, sym, ap, subst, append_assoc}
use Rattle.std.specs.Prelude.{filter, not}
use Rattle.std.specs.FinMap as fin
use Rattle.std.specs.List.{flat_map}
use Rattle.std.proofs.lemmas.List.Concat.{flat_map-append, flat_map-cons}
use Rattle.std.proofs.lemmas.List.Elements.{recursion_from_All}
use Rattle.acl_perm.specs.Ascii.{comma}
use Rattle.acl_posix.proofs.Exports.{entries_sorted}
use Rattle.acl_posix.specs.Entries.{Entries, IsEntry}
use Rattle.acl_posix.specs.Grammar.{IsAclOf}
use Rattle.acl_posix.specs.Names.{Table}
use Rattle.acl_posix.specs.Tag.{Tag, group, group_obj, mask, other, user, user_obj}
use Rattle.acl_posix.specs.Texts.{IsAcl}
use Rattle.acl_posix.specs.declared.file.PosixFile.{PosixFile}
use Rattle.acl_posix.specs.declared.text_fault.Part.{Part}
use Rattle.acl_posix.specs.declared.text_fault.Part.TheVariants.{Access, Default}
use Rattle.acl_posix.specs.internal.GroupAnswers.{is_owner_tag}
use Rattle.acl_forms.specs.PosixNames.{HasNamesOfIds, NamesOfIds}
use Rattle.acl_forms.specs.PosixRules.{SpellsDefaultText, SpellsPosixText, of_part, posix_rules}
use Rattle.acl_forms.specs.PosixText.{PlacedEntry}
use Rattle.acl_forms.specs.PosixWritten.{posix_entry_fault, is_base, pieces_if, posix_text, posix_text_fault}
unfoldable use Rattle.acl_forms.specs.PosixWritten.{posix_piece}
use Rattle.acl_forms.specs.Texts.{SpellsByRules}
use Rattle.acl_forms.specs.declared.posix_text.style.TarStyle.TheVariants.{Gnu, Star}
use Rattle.acl_forms.proofs.FormLemmas.{fault_from_start}
use Rattle.acl_forms.proofs.PosixReadBack.{AreTexts, commas_spell, joined, lines_spell, placed_are, placed_from}
use Rattle.acl_forms.proofs.StarEntries.{AreOthers, BeginsWithOwner, gnu_of, gnu_texts, has_owner, owner_first, split_acl, split_by, star_of, star_texts, whole_acl}

-- ---- the text of star

-- the piece of an entry of another tag has a comma before it
other_piece : (names : NamesOfIds) (e : Tag × ℕ) → is_owner_tag e.0 ≡ false
    → posix_piece names Star e ≡ comma ∷ star_of names e
unfolding posix_piece
other_piece names (user_obj, n) differ = absurd cc
other_piece names (user id, n) differ = refl
other_piece names (group_obj, n) differ = refl
other_piece names (group id, n) differ = refl
other_piece names (mask, n) differ = refl
other_piece names (other, n) differ = refl

-- the pieces of other entries that pass a test
other_pieces : (names : NamesOfIds) (p : Tag → Bool) (es : List (Tag × ℕ)) → AreOthers es
    → pieces_if names Star p es ≡ flat_map (λ e. comma ∷ star_of names e) (filter (λ e. p e.0) es)
other_pieces names p [] others = refl
other_pieces names p (e ∷ es) others =
    flat_map-cons (λ (x : Tag × ℕ). cond (p x.0) (posix_piece names Star x) []) e es
    ∙ by (p e.0) refl (other_pieces names p es others.1)
  where
    by : (b : Bool) → p e.0 ≡ b
        → pieces_if names Star p es ≡ flat_map (λ e. comma ∷ star_of names e) (filter (λ e. p e.0) es)
        → cond (p e.0) (posix_piece names Star e) [] ++ pieces_if names Star p es
        ≡ flat_map (λ e. comma ∷ star_of names e) (filter (λ e. p e.0) (e ∷ es))
    by true is rest =
        rw (is, other_piece names e others.0, rest)
        (sym (flat_map-cons (λ (x : Tag × ℕ). comma ∷ star_of names x) e (filter (λ x. p x.0) es)))
    by false is rest = rw is rest

-- the entries in the order of star: the owner's first
abbrev star_order : List (Tag × ℕ) → List (Tag × ℕ)
star_order es = split_by is_base es

-- the text of star is the texts of the entries in its order, with commas between them
star_joined : (names : NamesOfIds) (perm : ℕ) (rest : List (Tag × ℕ)) → AreOthers rest
    → pieces_if names Star is_base ((user_obj, perm) ∷ rest)
    ++ pieces_if names Star (λ tag. not (is_base tag)) ((user_obj, perm) ∷ rest)
    ≡ joined (star_of names) (star_order ((user_obj, perm) ∷ rest))
unfolding posix_piece
star_joined names perm rest others =
    let owner = star_of names (user_obj, perm) in
    let base = filter (λ (e : Tag × ℕ). is_base e.0) rest in
    let more = filter (λ (e : Tag × ℕ). not (is_base e.0)) rest in
    let piece = λ (e : Tag × ℕ). comma ∷ star_of names e in
    ap (λ (t : List ℕ). t ++ pieces_if names Star (λ tag. not (is_base tag)) ((user_obj, perm) ∷ rest))
    (flat_map-cons (λ (x : Tag × ℕ). cond (is_base x.0) (posix_piece names Star x) []) (user_obj, perm) rest)
    ∙ ap (λ (t : List ℕ). (owner ++ pieces_if names Star is_base rest) ++ t)
    (flat_map-cons (λ (x : Tag × ℕ). cond (not (is_base x.0)) (posix_piece names Star x) []) (user_obj, perm) rest)
    ∙ append_assoc owner (pieces_if names Star is_base rest) (pieces_if names Star (λ tag. not (is_base tag)) rest)
    ∙ ap (λ (t : List ℕ). owner ++ t)
    (rw (other_pieces names is_base rest others, other_pieces names (λ tag. not (is_base tag)) rest others)
    (sym (flat_map-append piece base more)))

-- the entries in the order of star are those of the texts
order_texts : (table : Table) (text : Tag × ℕ → List ℕ) (p : Tag → Bool) (es : List (Tag × ℕ))
    → AreTexts table text es → AreTexts table text (filter (λ e. p e.0) es)
order_texts table text p [] each = tt
order_texts table text p (e ∷ es) each = by (p e.0) refl (order_texts table text p es each.1) where
  by : (b : Bool) → p e.0 ≡ b → AreTexts table text (filter (λ e. p e.0) es)
      → AreTexts table text (filter (λ e. p e.0) (e ∷ es))
  by true is rest = rw is (each.0, rest)
  by false is rest = rw is rest

-- two lists of texts are one
append_texts : (table : Table) (text : Tag × ℕ → List ℕ) (xs ys : List (Tag × ℕ)) → AreTexts table text xs
    → AreTexts table text ys → AreTexts table text (xs ++ ys)
append_texts table text [] ys one two = two
append_texts table text (x ∷ xs) ys one two = (one.0, append_texts table text xs ys one.1 two)

-- the text of star spells the entries in its order
star_spelled : (names : NamesOfIds) (table : Table) (part : Part) (acl : Entries) → IsAcl acl
    → posix_text_fault names Star acl ≡ None
    → SpellsByRules (posix_rules part table) (placed_from (star_of names) part 0 (star_order (fin.entries acl)))
    (posix_text names Star acl)
star_spelled names table part acl h held =
    let es = fin.entries acl in
    let first = owner_first es (entries_sorted acl) (has_owner acl h.valid) in
    let texts = star_texts table names 0 es (recursion_from_All IsEntry es h.within)
    (fault_from_start (posix_entry_fault names Star) es ∙ held) in
    let ordered = append_texts table (star_of names) (filter (λ e. is_base e.0) es) (filter (λ e. not (is_base e.0)) es)
    (order_texts table (star_of names) is_base es texts)
    (order_texts table (star_of names) (λ tag. not (is_base tag)) es texts) in
    by es first ordered
  where
    by : (es : List (Tag × ℕ)) → BeginsWithOwner es → AreTexts table (star_of names) (star_order es)
        → SpellsByRules (posix_rules part table) (placed_from (star_of names) part 0 (star_order es))
        (pieces_if names Star is_base es ++ pieces_if names Star (λ tag. not (is_base tag)) es)
    by es first ordered =
        let moved = subst (λ (l : List (Tag × ℕ)). AreTexts table (star_of names) (star_order l)) first.is ordered in
        rw (first.is, star_joined names first.perm first.rest first.others)
        (commas_spell table (star_of names) part (user_obj, first.perm)
        (filter (λ e. is_base e.0) first.rest ++ filter (λ e. not (is_base e.0)) first.rest) moved)

-- ---- parts

-- entries placed in the access part belong to it
own_part : (text : Tag × ℕ → List ℕ) (column : ℕ) (es : List (Tag × ℕ))
    → of_part Access (placed_from text Access column es) ≡ placed_from text Access column es
own_part text column [] = refl
own_part text column (e ∷ es) =
    ap (λ (l : List PlacedEntry). record { part = Access; at = column; pair = e } ∷ l)
    (own_part text (column + length (text e) + 1) es)

-- none of them belongs to the default part
no_default : (text : Tag × ℕ → List ℕ) (column : ℕ) (es : List (Tag × ℕ))
    → of_part Default (placed_from text Access column es) ≡ []
no_default text column [] = refl
no_default text column (e ∷ es) = no_default text (column + length (text e) + 1) es

-- the ACLs of a file without a default ACL
abbrev file_of : Entries → PosixFile
file_of acl = record { access = acl; default = None }

-- what is spelled is the access ACL of a file
file_spelled : (table : Table) (text : Tag × ℕ → List ℕ) (es : List (Tag × ℕ)) (acl : Entries) (whole : List ℕ)
    → SpellsByRules (posix_rules Access table) (placed_from text Access 0 es) whole → IsAclOf es acl
    → SpellsPosixText table (file_of acl) whole
file_spelled table text es acl whole spelled is = record {
  entries = placed_from text Access 0 es;
  spelled = spelled;
  access = rw (own_part text 0 es, placed_are text Access 0 es) is;
  default = rw (no_default text 0 es) tt;
}

-- what is spelled is a default ACL
default_spelled : (table : Table) (text : Tag × ℕ → List ℕ) (es : List (Tag × ℕ)) (acl : Entries) (whole : List ℕ)
    → SpellsByRules (posix_rules Default table) (placed_from text Default 0 es) whole → IsAclOf es acl
    → SpellsDefaultText table acl whole
default_spelled table text es acl whole spelled is = record {
  entries = placed_from text Default 0 es;
  spelled = spelled;
  list = rw (placed_are text Default 0 es) is;
}

-- ---- laws

-- the text of star spells a file with the ACL as its access ACL
pub star_file : (names : NamesOfIds) (table : Table) (acl : Entries) → IsAcl acl
    → posix_text_fault names Star acl ≡ None → SpellsPosixText table (file_of acl) (posix_text names Star acl)
star_file names table acl h held =
    file_spelled table (star_of names) (star_order (fin.entries acl)) acl (posix_text names Star acl)
    (star_spelled names table Access acl h held) (split_acl is_base acl h.valid)

-- the text of star spells the ACL as a default ACL
pub star_default : (names : NamesOfIds) (table : Table) (acl : Entries) → IsAcl acl
    → posix_text_fault names Star acl ≡ None → SpellsDefaultText table acl (posix_text names Star acl)
star_default names table acl h held =
    default_spelled table (star_of names) (star_order (fin.entries acl)) acl (posix_text names Star acl)
    (star_spelled names table Default acl h held) (split_acl is_base acl h.valid)

-- the text of GNU tar is the lines of the entries
gnu_spelled : (names : NamesOfIds) (table : Table) (part : Part) (acl : Entries) → HasNamesOfIds table names → IsAcl acl
    → posix_text_fault names Gnu acl ≡ None
    → SpellsByRules (posix_rules part table) (placed_from (gnu_of names) part 0 (fin.entries acl))
    (posix_text names Gnu acl)
unfolding posix_piece
gnu_spelled names table part acl has h held =
    lines_spell table (gnu_of names) part (fin.entries acl)
    (gnu_texts table names 0 (fin.entries acl) has (recursion_from_All IsEntry (fin.entries acl) h.within)
    (fault_from_start (posix_entry_fault names Gnu) (fin.entries acl) ∙ held))

-- if the table has its names, the text of GNU tar spells a file with the ACL as its access ACL
pub gnu_file : (names : NamesOfIds) (table : Table) (acl : Entries) → HasNamesOfIds table names → IsAcl acl
    → posix_text_fault names Gnu acl ≡ None → SpellsPosixText table (file_of acl) (posix_text names Gnu acl)
gnu_file names table acl has h held =
    file_spelled table (gnu_of names) (fin.entries acl) acl (posix_text names Gnu acl)
    (gnu_spelled names table Access acl has h held) (whole_acl acl h.valid)

-- if the table has its names, the text of GNU tar spells the ACL as a default ACL
pub gnu_default : (names : NamesOfIds) (table : Table) (acl : Entries) → HasNamesOfIds table names → IsAcl acl
    → posix_text_fault names Gnu acl ≡ None → SpellsDefaultText table acl (posix_text names Gnu acl)
gnu_default names table acl has h held =
    default_spelled table (gnu_of names) (fin.entries acl) acl (posix_text names Gnu acl)
    (gnu_spelled names table Default acl has h held) (whole_acl acl h.valid)
