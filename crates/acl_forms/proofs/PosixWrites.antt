-- The text of a POSIX ACL, as it is written piece by piece.
use Rattle.std.proofs.Common.{◌≡◌, ◌∙◌, ◌+◌, ◌<◌, ◌≤◌, ◌++◌, ℕ, Bool, true, false, cond, List, [], ◌∷◌, Option, None, Some, length, drop, get_or, ap, refl, sym, subst, arith, zero, suc}
use Rattle.std.specs.Prelude.{nat_lt, not}
use Rattle.std.specs.FinMap as fin
use Rattle.std.specs.List.{All}
use Rattle.std.specs.Option.{option_or}
use Rattle.std.proofs.lemmas.Bool.Decides.{nat_tests}
use Rattle.std.proofs.lemmas.List.{drop_more, length-map}
use Rattle.std.proofs.lemmas.List.Concat.{flat_map-cons}
use Rattle.acl_posix.specs.Entries.{Entries, IsEntry, pair_of, pairs}
use Rattle.acl_posix.specs.Tag.{Tag, tag_of}
use Rattle.acl_posix.specs.declared.entry.Entry.{Entry}
use Rattle.acl_forms.specs.PosixNames.{NamesOfIds, tag_name}
use Rattle.acl_forms.specs.FirstFault.{first_fault}
use Rattle.acl_forms.specs.PosixWritten.{entries_text, posix_entry_fault, id_reason_of, is_base, is_cut_name, longest_name, name_reason, named_reason, pieces_if}
use Rattle.acl_forms.specs.declared.fault.FormReason.{FormReason}
use Rattle.acl_forms.specs.declared.fault.FormReason.TheVariants.{Separator, TooLong}
use Rattle.acl_forms.specs.declared.posix_text.style.TarStyle.{TarStyle}
use Rattle.acl_forms.specs.declared.posix_text.style.TarStyle.TheVariants.{Star}
use Rattle.acl_forms.specs.internal.AttributeEntries.{most_entries}
use Rattle.acl_forms.specs.internal.FaultSearch.{fault_from}
use Rattle.acl_forms.specs.internal.PosixWriting.{IsShortName, piece_if}
use Rattle.acl_forms.proofs.AttributeOrder.{few_entries}
use Rattle.acl_forms.proofs.FormLemmas.{fault_from_start, no_fault}

-- ---- what the text can hold

-- an entry of an ACL that the text can hold has no reason
held_at : (names : NamesOfIds) (style : TarStyle) (place : ℕ) (es : List Entry) (i : ℕ) (d : Entry) → i < length es
    → fault_from (posix_entry_fault names style) place (pairs es) ≡ None
    → named_reason style (tag_of (get_or es i d).tag) (tag_name names (tag_of (get_or es i d).tag)) ≡ None
held_at names style place [] i d lt e = absurd (omega (arith, lt))
held_at names style place (x ∷ es) zero d lt e = (no_fault place _ _ e).0
held_at names style place (x ∷ es) (suc i) d lt e =
    held_at names style (place + 1) es i d (omega (arith, lt)) (no_fault place _ _ e).1

-- of two reasons that are not there, the first is not there
pub no_first : (a b : Option FormReason) → option_or a b ≡ None → a ≡ None
no_first None b e = refl
no_first (Some reason) b e = absurd cc

-- a name without a reason is short
short_name : (cut : Bool) (n : ℕ)
    → cond cut (Some Separator) (cond (nat_lt longest_name n) (Some TooLong) None) ≡ None → n ≤ longest_name
short_name true n e = absurd cc
short_name false n e = grind (arith, nat_tests, e)

-- a name in an entry without a reason is short
short_in : (style : TarStyle) (tag : Tag) (name : Option (List ℕ)) → named_reason style tag name ≡ None
    → IsShortName name
short_in style tag None e = tt
short_in style tag (Some name) e =
    short_name (is_cut_name name) (length name) (no_first (name_reason name) (id_reason_of style tag) e)

-- the name of an entry of an ACL that the text can hold is short
pub short_at : (names : NamesOfIds) (style : TarStyle) (es : List Entry) (i : ℕ) (e : Entry) → i < length es
    → e ≡ get_or es i e → first_fault (posix_entry_fault names style) (pairs es) ≡ None
    → IsShortName (tag_name names (tag_of e.tag))
short_at names style es i e lt read held =
    short_in style (tag_of e.tag) (tag_name names (tag_of e.tag))
    (subst (λ (x : Entry). named_reason style (tag_of x.tag) (tag_name names (tag_of x.tag)) ≡ None) (sym read)
    (held_at names style 0 es i e lt (fault_from_start (posix_entry_fault names style) (pairs es) ∙ held)))

-- ---- pieces

-- the pieces of the entries that are left are that of the next entry and those of the entries after it
pub piece_next : {i : ℕ} {e : Entry} (names : NamesOfIds) (style : TarStyle) (test : Tag → Bool) (es : List Entry)
    (line piece : List ℕ) → i < length es → e ≡ get_or es i e → line ≡ piece_if names style test (pair_of e)
    → piece ≡ line
    → pieces_if names style test (pairs (drop i es)) ≡ piece ++ pieces_if names style test (pairs (drop (i + 1) es))
piece_next {i} {e} names style test es line piece lt read is same =
    ap (λ (xs : List Entry). pieces_if names style test (pairs xs))
    (drop_more es i e lt ∙ ap (λ (x : Entry). x ∷ drop (i + 1) es) (sym read))
    ∙ flat_map-cons (piece_if names style test) (pair_of e) (pairs (drop (i + 1) es))
    ∙ ap (λ (l : List ℕ). l ++ pieces_if names style test (pairs (drop (i + 1) es))) (sym is ∙ sym same)

-- an ACL has few entries
pub few : (acl : Entries) (es : List Entry) → All IsEntry (fin.entries acl) → pairs es ≡ fin.entries acl
    → length es ≤ most_entries
few acl es within same =
    let size = ap (λ (ps : List (Tag × ℕ)). length ps) same in
    omega (arith, size, length-map es pair_of, few_entries acl within)

-- the text of star is the base entries and then the others
pub star_text : (names : NamesOfIds) (style : TarStyle) (ps : List (Tag × ℕ)) → style ≡ Star
    → pieces_if names style is_base ps ++ pieces_if names style (λ tag. not (is_base tag)) ps
    ≡ entries_text names style ps
star_text names style ps e = rw e refl
