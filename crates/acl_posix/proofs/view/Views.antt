-- Raw entries in canonical order: they have the entries of their set, in the same order.
use Rattle.acl_posix.proofs.Common.{ap, arith, as_set, cases_lt, Entries, Equal, false, get_or, get_or-map, Greater, inl, inr, IsSorted, length, length-map, Less, Less-from_sorted, List, Ordering, other, refl, sorted_from_all_adjacent, sym, Tag, tag_at, tag_cmp, tags, tags_total, ℕ, ◌+◌, ◌-◌, ◌<◌, ◌∙◌, ◌≡◌, ◌≤◌}
use Rattle.std.specs.FinMap as fin
use Rattle.std.specs.Ordering.{is_ge}
use Rattle.acl_posix.specs.declared.raw_entry.RawEntry.{RawEntry}
use Rattle.acl_posix.specs.RawEntries.{raw_pair, raw_pairs}
use Rattle.acl_posix.specs.View.{AreCanonical, IsStop}
use Rattle.acl_posix.proofs.sorted.Lists.{entries_in_order}
use Rattle.acl_posix.proofs.tag.Tags.{length-tags_of}

-- raw entries in canonical order have the entries of their set
pub entries_of_raws : (E : Entries) (raws : List RawEntry) → as_set (raw_pairs raws) ≡ E → AreCanonical raws
    → raw_pairs raws ≡ fin.entries E
entries_of_raws E raws view h = sym (entries_in_order (raw_pairs raws) h.sorted)
    ∙ ap (λ (s : Entries). fin.entries s) view

-- they are as many
pub raws_length : (E : Entries) (raws : List RawEntry) → as_set (raw_pairs raws) ≡ E → AreCanonical raws
    → length raws ≡ length (fin.entries E)
raws_length E raws view h =
    sym (length-map raws raw_pair) ∙ ap (λ (ps : List (Tag × ℕ)). length ps) (entries_of_raws E raws view h)

-- each tag before a place is after the one before it
abbrev pub RisesUpTo : List (Tag × ℕ) → ℕ → Type 0
RisesUpTo ps place = (before : ℕ) → 0 < before → before < place
    → tag_cmp (tag_at ps (before - 1)) (tag_at ps before) ≡ Less

-- the tags rise at one more place
pub rises_more : (ps : List (Tag × ℕ)) (place : ℕ) → RisesUpTo ps place
    → tag_cmp (tag_at ps (place - 1)) (tag_at ps place) ≡ Less → RisesUpTo ps (place + 1)
rises_more ps place so_far here before later below = elim (cases_lt before place) [
  | inl less ↦ so_far before later less
  | inr not_less ↦
      let same : before ≡ place = omega (arith, below, not_less) in
      ap (λ k. tag_cmp (tag_at ps (k - 1)) (tag_at ps k)) same ∙ here
]

-- a list whose tags rise is in canonical order
pub all_rise : (ps : List (Tag × ℕ)) (place : ℕ) → length ps ≤ place → RisesUpTo ps place → IsSorted ps
all_rise ps place le so_far = sorted_from_all_adjacent tags_total (tags ps) other (λ k lt.
    let back : k ≡ k + 1 - 1 = omega arith in
    ap (λ j. tag_cmp (tag_at ps j) (tag_at ps (k + 1))) back
    ∙ so_far (k + 1) (omega arith) (omega (arith, lt, le, length-tags_of ps)))

-- a list in canonical order has no place where a tag stops
pub sorted_goes : (ps : List (Tag × ℕ)) (place : ℕ) → IsSorted ps → place < length ps → IsStop ps place → ⊥
sorted_goes ps place sorted lt stop = stop.stops (Less-from_sorted tag_cmp (tags ps) (place - 1) place other sorted
    (omega (arith, stop.later)) (omega (arith, lt, length-tags_of ps)))

-- the tag at a place, whose entry is this one
pub tag_is : (ps : List (Tag × ℕ)) (i : ℕ) (e : Tag × ℕ) → i < length ps → get_or ps i e ≡ e → tag_at ps i ≡ e.0
tag_is ps i e lt at = get_or-map (λ (p : Tag × ℕ). p.0) ps i e other lt ∙ ap (λ (p : Tag × ℕ). p.0) at

-- an order that is not at least equal is less
not_ge : (o : Ordering) → is_ge o ≡ false → o ≡ Less
not_ge Less h = refl
not_ge Equal h = absurd cc
not_ge Greater h = absurd cc

-- the tags at two places, of which the first is not at least the second, rise
pub rise_here : (ps : List (Tag × ℕ)) (i j : ℕ) (d e : Tag × ℕ) → i < length ps → j < length ps → get_or ps i d ≡ d
    → get_or ps j e ≡ e → is_ge (tag_cmp d.0 e.0) ≡ false → tag_cmp (tag_at ps i) (tag_at ps j) ≡ Less
rise_here ps i j d e lt_i lt_j at_i at_j up =
    (λ t. tag_cmp (tag_is ps i d lt_i at_i t) (tag_is ps j e lt_j at_j t)) ∙ not_ge _ up
