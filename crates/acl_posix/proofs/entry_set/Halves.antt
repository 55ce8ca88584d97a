-- A search that halves a list in canonical order.
use Rattle.acl_posix.proofs.Common.{ap, arith, cases_lt, Entries, Equal, get_or, get_or-map, get_or_default, Greater, inl, inr, length, Less, Less-from_sorted, nat_cmp, None, Ordering, ordering_then, other, qualifier, rank, refl, Some, subst, sym, Tag, tag_cmp, ℕ, ◌+◌, ◌<◌, ◌∙◌, ◌≡◌, ◌≤◌}
use Rattle.std.specs.Cmp.{IsTotalOrder, nat_cmp_total}
use Rattle.std.specs.FinMap as fin
use Rattle.std.specs.Ordering.{on, ordering_reverse, then_cmp}
use Rattle.std.proofs.lemmas.Cmp.{on_total, then_total}
use Rattle.acl_posix.specs.View.{IsPlaceAmong}
use Rattle.acl_posix.specs.internal.Search.{order_of}
use Rattle.acl_posix.proofs.sorted.Lists.{entries_sorted, find_at, find_nowhere, unequal}
use Rattle.acl_posix.proofs.tag.Tags.{exact_tags, length-tags_of}

-- what is left of the search: the tags before are less, and those after are greater
pub record IsHalved (E : Entries) (of_rank of_qualifier low high : ℕ) : Type 0 where
  pub range : low ≤ high
  pub inside : high ≤ length (fin.entries E)
  pub before : (j : ℕ) → j < low → order_of (get_or (fin.keys E) j other) of_rank of_qualifier ≡ Less
  pub after : (j : ℕ) → high ≤ j → j < length (fin.entries E)
      → order_of (get_or (fin.keys E) j other) of_rank of_qualifier ≡ Greater

-- the order of pairs of numbers is total
pairs_total : IsTotalOrder (then_cmp (on (λ (p : ℕ × ℕ). p.0) nat_cmp) (on (λ (p : ℕ × ℕ). p.1) nat_cmp))
pairs_total = then_total (on_total (λ (p : ℕ × ℕ). p.0) nat_cmp_total) (on_total (λ (p : ℕ × ℕ). p.1) nat_cmp_total)

-- numbers before numbers that are less are less
less_less : (a b x y r q : ℕ) → ordering_then (nat_cmp a b) (nat_cmp x y) ≡ Less
    → ordering_then (nat_cmp b r) (nat_cmp y q) ≡ Less → ordering_then (nat_cmp a r) (nat_cmp x q) ≡ Less
less_less a b x y r q one two = pairs_total.trans (a, x) (b, y) (r, q) one two

-- numbers after numbers that are greater are greater
greater_greater : (a b x y r q : ℕ) → ordering_then (nat_cmp a b) (nat_cmp x y) ≡ Less
    → ordering_then (nat_cmp a r) (nat_cmp x q) ≡ Greater → ordering_then (nat_cmp b r) (nat_cmp y q) ≡ Greater
greater_greater a b x y r q one two =
    let before = pairs_total.antisymm (r, q) (a, x) ∙ ap ordering_reverse two in
    pairs_total.antisymm (b, y) (r, q) ∙ ap ordering_reverse (pairs_total.trans (r, q) (a, x) (b, y) before one)

-- the tag at a place, whose entry is this one
tag_there : (E : Entries) (i : ℕ) (e : Tag × ℕ) → i < length (fin.entries E) → get_or (fin.entries E) i e ≡ e
    → get_or (fin.keys E) i other ≡ e.0
tag_there E i e lt at = get_or-map (λ (p : Tag × ℕ). p.0) (fin.entries E) i e other lt
    ∙ ap (λ (p : Tag × ℕ). p.0) at

-- each tag is less than those after it
rises : (E : Entries) (i j : ℕ) → i < j → j < length (fin.entries E)
    → tag_cmp (get_or (fin.keys E) i other) (get_or (fin.keys E) j other) ≡ Less
rises E i j lt within = Less-from_sorted tag_cmp (fin.keys E) i j other (entries_sorted E) lt
    (omega (arith, within, length-tags_of (fin.entries E)))

-- the tag at a place is less, and so are those before it
pub less_here : (E : Entries) (r q low high i : ℕ) (e : Tag × ℕ) → IsHalved E r q low high → i < high
    → get_or (fin.entries E) i e ≡ e → order_of e.0 r q ≡ Less → IsHalved E r q (i + 1) high
less_here E r q low high i e left lt at less =
    let within : i < length (fin.entries E) = omega (arith, lt, left.inside) in
    let here : order_of (get_or (fin.keys E) i other) r q ≡ Less =
    ap (λ (t : Tag). order_of t r q) (tag_there E i e within at) ∙ less in
    record {
      range = omega (arith, lt);
      inside = left.inside;
      before = λ j below. elim (cases_lt j i) [
        | inl earlier ↦ less_less _ _ _ _ r q (rises E j i earlier within) here
        | inr not_earlier ↦
            let same : j ≡ i = omega (arith, below, not_earlier) in
            ap (λ k. order_of (get_or (fin.keys E) k other) r q) same ∙ here
      ];
      after = left.after;
    }

-- the tag at a place is greater, and so are those after it
pub greater_here : (E : Entries) (r q low high i : ℕ) (e : Tag × ℕ) → IsHalved E r q low high → low ≤ i → i < high
    → get_or (fin.entries E) i e ≡ e → order_of e.0 r q ≡ Greater → IsHalved E r q low i
greater_here E r q low high i e left ge lt at greater =
    let within : i < length (fin.entries E) = omega (arith, lt, left.inside) in
    let here : order_of (get_or (fin.keys E) i other) r q ≡ Greater =
    ap (λ (t : Tag). order_of t r q) (tag_there E i e within at) ∙ greater in
    record {
      range = ge;
      inside = omega (arith, within);
      before = left.before;
      after = λ j above inside. elim (cases_lt i j) [
        | inl later ↦ greater_greater _ _ _ _ r q (rises E i j later inside) here
        | inr not_later ↦
            let same : j ≡ i = omega (arith, above, not_later) in
            ap (λ k. order_of (get_or (fin.keys E) k other) r q) same ∙ here
      ];
    }

-- the tag at a place is the one that is searched for
pub found_here : (E : Entries) (r q i : ℕ) (e : Tag × ℕ) (tag : Tag) → i < length (fin.entries E)
    → get_or (fin.entries E) i e ≡ e → order_of e.0 r q ≡ Equal → r ≡ rank tag → q ≡ qualifier tag
    → IsPlaceAmong (fin.entries E) tag i
found_here E r q i e tag lt at same is_rank is_qualifier = record {
  in_range = lt;
  is = tag_there E i e lt at
      ∙ exact_tags e.0 tag (sym (λ t. order_of e.0 (is_rank t) (is_qualifier t)) ∙ same);
}

-- the permissions at the place of a tag are those of the tag
pub perm_there : (E : Entries) (i : ℕ) (e : Tag × ℕ) (tag : Tag) → IsPlaceAmong (fin.entries E) tag i
    → get_or (fin.entries E) i e ≡ e → fin.get E tag ≡ Some e.1
perm_there E i e tag place at =
    let is : e.0 ≡ tag = sym (tag_there E i e place.in_range at) ∙ place.is in
    subst (λ (t : Tag). fin.get E t ≡ Some e.1) is (find_at E i e place.in_range at)

-- no tag is the one that is searched for
pub found_nowhere : (E : Entries) (r q low high : ℕ) (tag : Tag) → IsHalved E r q low high → high ≤ low
    → r ≡ rank tag → q ≡ qualifier tag → fin.get E tag ≡ None
found_nowhere E r q low high tag left done is_rank is_qualifier = fin.get-entries E tag
    ∙ find_nowhere (fin.entries E) tag (λ j lt.
    let within : j < length (fin.entries E) = omega (arith, lt, length-tags_of (fin.entries E)) in
    let there = get_or_default (fin.keys E) j tag other lt in
    let order = λ (o : Ordering) (is : order_of (get_or (fin.keys E) j other) r q ≡ o).
    (λ t. tag_cmp (there t) tag) ∙ sym (λ t. order_of (get_or (fin.keys E) j other) (is_rank t) (is_qualifier t))
    ∙ is in
    elim (cases_lt j low) [
      | inl below ↦ unequal _ tag Less (order Less (left.before j below)) refl
      | inr above ↦ unequal _ tag Greater (order Greater (left.after j (omega (arith, above, done)) within)) refl
    ])
