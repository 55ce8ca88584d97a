-- The entries of a set, place by place.
use Rattle.std.proofs.Common.{◌≡◌, ℕ, zero, suc, ◌<◌, true, false, List, [], ◌∷◌, Some, refl, sym, ap, subst, ◌∙◌, arith, get_or, length}
use Rattle.std.proofs.lemmas.Cmp.{tied_itself}
use Rattle.std.proofs.lemmas.List.{get_or-map, get_or_default, length-map}
use Rattle.std.proofs.lemmas.List.Elements.{All-get_or}
use Rattle.std.proofs.lemmas.List.Folds.{Any-from_list_any}
use Rattle.std.proofs.lemmas.Map.Keys.{Less-from_sorted, sorted_tail}
use Rattle.std.specs.List.{All}
use Rattle.std.specs.Cmp.{eq_by_cmp_equiv}
use Rattle.std.specs.Ordering.{eq_by_cmp, is_eq}
use Rattle.std.specs.declared.cmp.Ordering.TheVariants.{Less}
use Rattle.std.specs.FinMap as fin
use Rattle.acl_posix.specs.Entries.{Entries, IsEntry, IsSorted, pair_of, pairs, tags}
use Rattle.acl_posix.specs.Tag.{IsTag, Tag, tag_cmp, tag_of}
use Rattle.acl_posix.specs.declared.entry.Entry.{Entry}
use Rattle.acl_posix.specs.internal.TagCode.{tags_total}
use Rattle.acl_posix.proofs.Exports.{entries_sorted, same_tag}
use Rattle.acl_posix_contain.specs.internal.Limits.{IsFrom}

-- the entry at a place is found by its tag
found_at : (ps : List (Tag × ℕ)) (i : ℕ) (p : Tag × ℕ) → IsSorted ps → i < length ps → get_or ps i p ≡ p
    → fin.find tag_cmp p.0 ps ≡ Some p.1
found_at [] i p h lt at = absurd (omega (arith, lt))
found_at (q ∷ ps) zero p h lt at =
    subst (λ (x : Tag × ℕ). fin.find tag_cmp x.0 (q ∷ ps) ≡ Some x.1) at (rw (tied_itself tags_total q.0) refl)
found_at (q ∷ ps) (suc i) p h lt at =
    let below = Less-from_sorted tag_cmp (tags (q ∷ ps)) 0 (suc i) p.0 h (omega arith)
    (omega (arith, lt, length-map ps (λ (x : Tag × ℕ). x.0))) in
    let tag_is = get_or-map (λ (x : Tag × ℕ). x.0) ps i p p.0 (omega (arith, lt)) ∙ ap (λ (x : Tag × ℕ). x.0) at in
    rw (unequal q.0 p.0 (ap (tag_cmp q.0) (sym tag_is) ∙ below))
    (found_at ps i p (sorted_tail tag_cmp q.0 (tags ps) h) (omega (arith, lt)) at)
  where
    unequal : (q p : Tag) → tag_cmp q p ≡ Less → eq_by_cmp tag_cmp p q ≡ false
    unequal q p e = (eq_by_cmp_equiv tags_total).symm p q ∙ ap is_eq e

-- so is the entry of a list that has the entries of the set
pub entry_there : (E : Entries) (es : List Entry) (i : ℕ) (e : Entry) → pairs es ≡ fin.entries E → i < length es
    → e ≡ get_or es i e → fin.get E (tag_of e.tag) ≡ Some e.perm.bits
entry_there E es i e same lt is =
    fin.get-entries E (tag_of e.tag)
    ∙ found_at (fin.entries E) i (pair_of e) (entries_sorted E)
    (omega (arith, lt, ap (λ (ps : List (Tag × ℕ)). length ps) same, length-map es pair_of))
    (ap (λ (ps : List (Tag × ℕ)). get_or ps i (pair_of e)) (sym same) ∙ get_or-map pair_of es i e (pair_of e) lt
    ∙ ap pair_of (sym is))

-- its tag is at its place
pub tag_there : (E : Entries) (es : List Entry) (i : ℕ) (e : Entry) → pairs es ≡ fin.entries E → i < length es
    → e ≡ get_or es i e → get_or (fin.keys E) i (tag_of e.tag) ≡ tag_of e.tag
tag_there E es i e same lt is =
    get_or-map (λ (x : Tag × ℕ). x.0) (fin.entries E) i (pair_of e) (tag_of e.tag)
    (omega (arith, lt, ap (λ (ps : List (Tag × ℕ)). length ps) same, length-map es pair_of))
    ∙ ap (λ (x : Tag × ℕ). x.0) (ap (λ (ps : List (Tag × ℕ)). get_or ps i (pair_of e)) (sym same)
    ∙ get_or-map pair_of es i e (pair_of e) lt ∙ ap pair_of (sym is))

-- each tag that has an entry has it from the first place on
pub from_first : (E : Entries) (t : Tag) → fin.contains_key E t ≡ true → IsFrom E 0 t
from_first E t there =
    let one = Any-from_list_any (eq_by_cmp tag_cmp t) (fin.keys E) (sym (fin.contains_key-keys E t) ∙ there) in (
      one.0,
      omega arith,
      one.2,
      get_or_default (fin.keys E) one.0 t one.1 one.2 ∙ one.3 ∙ sym (same_tag t one.1 one.4),
    )

-- the ids of a set are within their limits
pub tags_within : (E : Entries) → All IsEntry (fin.entries E) → (t : Tag) → fin.contains_key E t ≡ true → IsTag t
tags_within E all t there =
    let (i, _, lt, is) = from_first E t there in
    let d : Tag × ℕ = (t, 0) in
    let lt' : i < length (fin.entries E) = omega (arith, lt, length-map (fin.entries E) (λ (x : Tag × ℕ). x.0)) in
    subst IsTag (sym (get_or-map (λ (x : Tag × ℕ). x.0) (fin.entries E) i d t lt') ∙ is)
    (All-get_or IsEntry (fin.entries E) i d lt' all).0
