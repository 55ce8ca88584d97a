-- The texts that the code puts together are those of the definitions.
use Rattle.acl_posix.proofs.Common.{[], Access, AclTextForm, ap, append-nil, append_assoc, Canonical, canonical_text, codes, Default, effective_mark, effective_of, Entries, entry_lead, entry_out, false, flat_map, flat_map-append, flat_map-map, form_text, join_with_byte, line, List, long_default, long_entry, map, missing, None, Option, Part, part_out, refl, Short, short_default, short_entry, short_text, Shown, shown_text, Some, sym, Tag, text_out, true, ℕ, ◌++◌, ◌∙◌, ◌∷◌, ◌≡◌}
use Rattle.std.specs.FinMap as fin
use Rattle.acl_posix.proofs.writer.TextFiles.{has_owner}

-- what is written for an entry that is not the first of its text
abbrev later_text : AclTextForm → Part → Entries → Tag × ℕ → List ℕ
later_text Canonical Access acl e = line (long_entry e)
later_text Canonical Default acl e = line (long_default e)
later_text Shown Access acl e = line (long_entry e ++ effective_mark acl e)
later_text Shown Default acl e = line (long_default e ++ effective_mark acl e)
later_text Short Access acl e = 44 ∷ short_entry e
later_text Short Default acl e = 44 ∷ short_default e

-- what is put together for an entry that is not the first is what the definitions have for it
later_is : (form : AclTextForm) (part : Part) (acl : Entries) (e : Tag × ℕ)
    → entry_out form part false (effective_of acl e) e ≡ later_text form part acl e
unfolding entry_out long_entry long_default short_entry short_default effective_mark
later_is Canonical Access acl e = refl
later_is Canonical Default acl e = refl
later_is Shown Access acl e = sym (append_assoc (long_entry e) (effective_mark acl e) (10 ∷ []))
later_is Shown Default acl e = sym (append_assoc (long_default e) (effective_mark acl e) (10 ∷ []))
later_is Short Access acl e = ap (λ (xs : List ℕ). 44 ∷ xs) (append-nil _)
later_is Short Default acl e = ap (λ (xs : List ℕ). codes ",d:" ++ xs) (append-nil _)

-- joined lists are equal if their parts are equal
append-equal : {a b c d : List ℕ} → a ≡ b → c ≡ d → a ++ c ≡ b ++ d
append-equal {b} {c} first second = ap (λ (xs : List ℕ). xs ++ c) first ∙ ap (λ (xs : List ℕ). b ++ xs) second

-- the entries of a part that are not the first of a text are put together one after the other
part_is : (form : AclTextForm) (part : Part) (acl : Entries) (es : List (Tag × ℕ))
    → part_out form part acl false es ≡ flat_map (later_text form part acl) es
part_is form part acl [] = refl
part_is form part acl (e ∷ es) = append-equal (later_is form part acl e) (part_is form part acl es)

-- in a text of lines the first entry is written as any other
lines_are : (form : AclTextForm) (acl : Entries) (es : List (Tag × ℕ))
    → entry_lead form Access true ≡ entry_lead form Access false
    → part_out form Access acl true es ≡ flat_map (later_text form Access acl) es
unfolding entry_out
lines_are form acl [] same = refl
lines_are form acl (e ∷ es) same = rw same (part_is form Access acl (e ∷ es))

-- ---- the short text

-- parts with commas between them are the first part, and a comma before each part after it
commas_led : (x : List ℕ) (xs : List (List ℕ)) → join_with_byte 44 (x ∷ xs) ≡ x ++ flat_map (λ part. 44 ∷ part) xs
commas_led x [] = sym (append-nil x)
commas_led x (y ∷ ys) = ap (λ (l : List ℕ). x ++ 44 ∷ l) (commas_led y ys)

-- what is put together for the first entry of a short text is the entry in the short form
short_first : (eff : ℕ) (e : Tag × ℕ) → entry_out Short Access true eff e ≡ short_entry e
unfolding entry_out short_entry
short_first eff e = append-nil _

-- the entries of a short text are put together with commas between them
short_row : (acl : Entries) (es ds : List (Tag × ℕ)) → (es ≡ [] → ⊥)
    → part_out Short Access acl true es ++ flat_map (λ e. 44 ∷ short_default e) ds
    ≡ join_with_byte 44 (map short_entry es ++ map short_default ds)
short_row acl [] ds some = absurd (some refl)
short_row acl (e ∷ es) ds some = rw (
  short_first (effective_of acl e) e,
  part_is Short Access acl es,
  commas_led (short_entry e) (map short_entry es ++ map short_default ds),
) (simp (append_assoc, flat_map-append, flat_map-map))

-- ---- all of them

-- the text that is put together is the text in that form
pub form_is : (form : AclTextForm) (access : Entries) (default : Option Entries) → missing access ≡ None
    → text_out form access default ≡ form_text form access default
unfolding canonical_text shown_text short_text
form_is Canonical access None valid = append-equal (lines_are Canonical access (fin.entries access) refl) refl
form_is Canonical access (Some acl) valid = append-equal (lines_are Canonical access (fin.entries access) refl)
    (part_is Canonical Default acl (fin.entries acl))
form_is Shown access None valid = append-equal (lines_are Shown access (fin.entries access) refl) refl
form_is Shown access (Some acl) valid = append-equal (lines_are Shown access (fin.entries access) refl)
    (part_is Shown Default acl (fin.entries acl))
form_is Short access None valid = short_row access (fin.entries access) [] (has_owner access valid)
form_is Short access (Some acl) valid =
    ap (λ (xs : List ℕ). part_out Short Access access true (fin.entries access) ++ xs)
    (part_is Short Default acl (fin.entries acl))
    ∙ short_row access (fin.entries access) (fin.entries acl) (has_owner access valid)
