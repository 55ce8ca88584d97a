-- Which names a binary search finds among names in any order.
use Rattle.std.proofs.Common.{◌≡◌, ℕ, zero, suc, ◌+◌, ◌/◌, ◌<◌, ◌≤◌, Bool, true, false, List, [], ◌∷◌, refl, sym, ◌∙◌, ap, arith, length, get_or, subst, take, drop, length-drop, length-take}
use Rattle.std.proofs.lemmas.Bool.{eqb-true, false≢true}
use Rattle.std.proofs.Math.Bool.{or-false, or-true}
use Rattle.std.proofs.lemmas.Cmp.{nat_list_cmp_total}
use Rattle.std.proofs.lemmas.List.{drop_more, drop-map, get_or_default, get_or-drop, get_or-map, get_or-take, length-map, take-append-drop, take-map}
use Rattle.std.proofs.lemmas.List.Folds.{list_any-append, list_any_none}
use Rattle.std.proofs.lemmas.List.Sorted.{ranks_by, sorted_far}
use Rattle.std.proofs.lemmas.Map.Views.{any-filter_same}
use Rattle.std.proofs.lemmas.Slice.Eq.{bytes_eq-Decides}
use Rattle.std.specs.Prelude.{◌&&◌, ◌||◌, ◌==◌, filter, map}
use Rattle.std.specs.Borrow.{Bor}
use Rattle.std.specs.Cmp.Lexicographic.{slice_cmp}
use Rattle.std.specs.List.{list_any}
use Rattle.std.specs.Cmp.{IsStrictWeakOrder}
use Rattle.std.specs.Ordering.{is_eq, is_lt, nat_cmp, ordering_reverse}
use Rattle.std.specs.Str.{bytes_eq}
use Rattle.std.specs.declared.cmp.Ordering.{Ordering}
use Rattle.std.specs.declared.cmp.Ordering.TheVariants.{Less, Equal, Greater}
use Rattle.acl_eval.specs.GroupSearch.{AreAmong, AreRisingNames, AreSameGroups, found_around, found_groups, found_in_steps, groups_that_count, is_before}
use Rattle.acl_eval.specs.declared.groups.Order.{Order}
use Rattle.acl_eval.specs.declared.groups.Order.TheVariants.{Copied, Known, Said, Unknown}
use Rattle.acl_eval.proofs.Members.{eq_as_cmp}

-- ---- a list around its middle

-- a test of a list around one of its elements
any_around : (p : List ℕ → Bool) (names : List (List ℕ)) (at : ℕ) (d : List ℕ) → at < length names
    → list_any p names ≡ (list_any p (take at names) || (p (get_or names at d) || list_any p (drop (at + 1) names)))
any_around p names at d lt =
    ap (list_any p) (sym (take-append-drop at names)) ∙ list_any-append p (take at names) (drop at names)
    ∙ ap (λ (rest : List (List ℕ)). list_any p (take at names) || list_any p rest) (drop_more names at d lt)

-- the middle is in the list, and both sides are shorter
half_below : (n : ℕ) → 0 < n → n / 2 < n
half_below n some = omega arith

-- the front of a list of at most n + 1 names has at most n
front_shorter : (names : List (List ℕ)) (n : ℕ) → length names ≤ suc n → length (take (length names / 2) names) ≤ n
front_shorter names n le = omega (arith, length-take (length names / 2) names)

-- its rear, behind the middle, has at most n as well
rear_shorter : (names : List (List ℕ)) (n : ℕ) → length names ≤ suc n
    → length (drop (length names / 2 + 1) names) ≤ n
rear_shorter names n le = omega (arith, length-drop (length names / 2 + 1) names)

-- ---- one step of the search

-- what is answered of a name: by the front, by the middle, or by the rear
abbrev pub by_order : Ordering → Bool → Bool → Bool
by_order Less front rear = front
by_order Equal front rear = true
by_order Greater front rear = rear

-- a name comes before another exactly if a name equal to it does
same_before : (name middle other : List ℕ) → bytes_eq name other ≡ true → is_before other middle ≡ is_before name middle
same_before name middle other e = ap (λ (n : List ℕ). is_before n middle) (sym ((bytes_eq-Decides name other).0 e))

-- a name comes after another exactly if a name equal to it does
same_after : (name middle other : List ℕ) → bytes_eq name other ≡ true → is_before middle other ≡ is_before middle name
same_after name middle other e = ap (λ (n : List ℕ). is_before middle n) (sym ((bytes_eq-Decides name other).0 e))

-- a test of the names that are found around the middle
any_found_around : (name middle : List ℕ) (front rear : List (List ℕ))
    → list_any (bytes_eq name) (found_around front middle rear)
    ≡ ((is_before name middle && list_any (bytes_eq name) front)
    || (bytes_eq name middle || (is_before middle name && list_any (bytes_eq name) rear)))
any_found_around name middle front rear =
    let inside : list_any (bytes_eq name) (filter (λ other. is_before other middle) front)
    ≡ (is_before name middle && list_any (bytes_eq name) front) =
    any-filter_same (bytes_eq name) (λ other. is_before other middle) (is_before name middle)
    (same_before name middle) front in
    let behind : list_any (bytes_eq name) (filter (λ other. is_before middle other) rear)
    ≡ (is_before middle name && list_any (bytes_eq name) rear) =
    any-filter_same (bytes_eq name) (λ other. is_before middle other) (is_before middle name)
    (same_after name middle) rear in
    list_any-append (bytes_eq name) (filter (λ other. is_before other middle) front)
    (middle ∷ filter (λ other. is_before middle other) rear)
    ∙ ap (λ (b : Bool). b || (bytes_eq name middle
    || list_any (bytes_eq name) (filter (λ other. is_before middle other) rear))) inside
    ∙ ap (λ (b : Bool). (is_before name middle && list_any (bytes_eq name) front) || (bytes_eq name middle || b)) behind

-- a name is found in front of the middle, in the middle or behind it, by its order
pub around_by_order : (name middle : List ℕ) (front rear : List (List ℕ)) (o : Ordering)
    → slice_cmp nat_cmp name middle ≡ o
    → list_any (bytes_eq name) (found_around front middle rear)
    ≡ by_order o (list_any (bytes_eq name) front) (list_any (bytes_eq name) rear)
around_by_order name middle front rear o e = any_found_around name middle front rear ∙ by o e
  where
    back : (o : Ordering) → slice_cmp nat_cmp name middle ≡ o → slice_cmp nat_cmp middle name ≡ ordering_reverse o
    back o e = nat_list_cmp_total.antisymm middle name ∙ ap ordering_reverse e

    same : (o : Ordering) → slice_cmp nat_cmp name middle ≡ o → bytes_eq name middle ≡ is_eq (ordering_reverse o)
    same o e = eq_as_cmp name middle (ordering_reverse o) (back o e)

    by : (o : Ordering) → slice_cmp nat_cmp name middle ≡ o
        → ((is_before name middle && list_any (bytes_eq name) front)
        || (bytes_eq name middle || (is_before middle name && list_any (bytes_eq name) rear)))
        ≡ by_order o (list_any (bytes_eq name) front) (list_any (bytes_eq name) rear)
    by Less e = rw (e, back Less e, same Less e) (or-false (list_any (bytes_eq name) front))
    by Equal e = rw (e, back Equal e, same Equal e) refl
    by Greater e = rw (e, back Greater e, same Greater e) refl

-- ---- the number of steps

-- more steps than names find the same names
enough_steps : (steps more : ℕ) (names : List (List ℕ)) → length names ≤ steps → length names ≤ more
    → found_in_steps steps names ≡ found_in_steps more names
unfolding found_in_steps
enough_steps zero zero names le le' = refl
enough_steps zero (suc more) [] le le' = refl
enough_steps zero (suc more) (x ∷ xs) le le' = absurd (omega (arith, le))
enough_steps (suc steps) zero [] le le' = refl
enough_steps (suc steps) zero (x ∷ xs) le le' = absurd (omega (arith, le'))
enough_steps (suc steps) (suc more) [] le le' = refl
enough_steps (suc steps) (suc more) (x ∷ xs) le le' =
    let names : List (List ℕ) = x ∷ xs in
    let half : ℕ = length names / 2 in
    ap (λ (front : List (List ℕ)). found_around front (get_or names half [])
    (found_in_steps steps (drop (half + 1) names)))
    (enough_steps steps more (take half names) (front_shorter names steps le)
    (front_shorter names more le'))
    ∙ ap (λ (rear : List (List ℕ)). found_around (found_in_steps more (take half names)) (get_or names half []) rear)
    (enough_steps steps more (drop (half + 1) names) (rear_shorter names steps le)
    (rear_shorter names more le'))

-- one step of the search
one_step : (names : List (List ℕ)) → 0 < length names
    → found_groups names ≡ found_around (found_groups (take (length names / 2) names))
    (get_or names (length names / 2) []) (found_groups (drop (length names / 2 + 1) names))
unfolding found_in_steps
one_step [] some = absurd (omega (arith, some))
one_step (x ∷ xs) some =
    let names : List (List ℕ) = x ∷ xs in
    let half : ℕ = length names / 2 in
    let front : List (List ℕ) = take half names in
    let rear : List (List ℕ) = drop (half + 1) names in
    ap (λ (found : List (List ℕ)). found_around found (get_or names half []) (found_in_steps (length xs) rear))
    (enough_steps (length xs) (length front) front (omega (arith, length-take half names)) (omega arith))
    ∙ ap (λ (found : List (List ℕ)). found_around (found_groups front) (get_or names half []) found)
    (enough_steps (length xs) (length rear) rear (omega (arith, length-drop (half + 1) names)) (omega arith))

-- a name is found in some names as its order to the middle one says
pub found_by_order : (name : List ℕ) (names : List (List ℕ)) (o : Ordering) → 0 < length names
    → slice_cmp nat_cmp name (get_or names (length names / 2) []) ≡ o
    → list_any (bytes_eq name) (found_groups names)
    ≡ by_order o (list_any (bytes_eq name) (found_groups (take (length names / 2) names)))
    (list_any (bytes_eq name) (found_groups (drop (length names / 2 + 1) names)))
found_by_order name names o some e =
    ap (list_any (bytes_eq name)) (one_step names some)
    ∙ around_by_order name (get_or names (length names / 2) []) (found_groups (take (length names / 2) names))
    (found_groups (drop (length names / 2 + 1) names)) o e

-- a list whose length is not 0 has an element
not_empty : (n : ℕ) → (n == 0) ≡ false → 0 < n
not_empty zero e = absurd cc
not_empty (suc n) e = omega arith

-- the same, where the place of the middle one is given
found_at : (name : List ℕ) (names : List (List ℕ)) (half : ℕ) (o : Ordering) → 0 < length names
    → length names / 2 ≡ half → slice_cmp nat_cmp name (get_or names half []) ≡ o
    → list_any (bytes_eq name) (found_groups names)
    ≡ by_order o (list_any (bytes_eq name) (found_groups (take half names)))
    (list_any (bytes_eq name) (found_groups (drop (half + 1) names)))
found_at name names half o some is = subst (λ (half : ℕ). slice_cmp nat_cmp name (get_or names half []) ≡ o
    → list_any (bytes_eq name) (found_groups names)
    ≡ by_order o (list_any (bytes_eq name) (found_groups (take half names)))
    (list_any (bytes_eq name) (found_groups (drop (half + 1) names)))) is (found_by_order name names o some)

-- the same, for names behind references
pub found_now : (name : List ℕ) (names : List (Bor (List ℕ))) (o : Ordering) (d : Bor (List ℕ))
    → (length names == 0) ≡ false → o ≡ slice_cmp nat_cmp name (get_or names (length names / 2) d).now
    → list_any (bytes_eq name) (found_groups (map (λ g. g.now) names))
    ≡ by_order o (list_any (bytes_eq name) (found_groups (map (λ g. g.now) (take (length names / 2) names))))
    (list_any (bytes_eq name) (found_groups (map (λ g. g.now) (drop (length names / 2 + 1) names))))
found_now name names o d some e =
    let now : Bor (List ℕ) → List ℕ = λ g. g.now in
    let half : ℕ = length names / 2 in
    let lt : half < length names = half_below (length names) (not_empty (length names) some) in
    let size : length (map now names) ≡ length names = length-map names now in
    found_at name (map now names) half o (omega (arith, size, lt)) (ap (λ (n : ℕ). n / 2) size)
    (ap (slice_cmp nat_cmp name) (get_or-map now names half d [] lt) ∙ sym e)
    ∙ ap (λ (front : List (List ℕ)). by_order o (list_any (bytes_eq name) (found_groups front))
    (list_any (bytes_eq name) (found_groups (drop (half + 1) (map now names))))) (take-map now half names)
    ∙ ap (λ (rear : List (List ℕ)). by_order o (list_any (bytes_eq name) (found_groups (map now (take half names))))
    (list_any (bytes_eq name) (found_groups rear))) (drop-map now (half + 1) names)

-- nothing is found among no names
pub found_nothing : (name : List ℕ) (names : List (Bor (List ℕ))) → (length names == 0) ≡ true
    → list_any (bytes_eq name) (found_groups (map (λ g. g.now) names)) ≡ false
unfolding found_in_steps
found_nothing name [] e = refl
found_nothing name (x ∷ xs) e = absurd (omega (arith, eqb-true (length (x ∷ xs)) 0 e))

-- ---- what is found is there

-- what is found around the middle is there
either_kept : (a e c : Bool) (f f' r r' : Bool) → (f ≡ true → f' ≡ true) → (r ≡ true → r' ≡ true)
    → ((a && f) || (e || (c && r))) ≡ true → (f' || (e || r')) ≡ true
either_kept true e c true f' r r' hf hr h = rw (hf refl) refl
either_kept true e c false true r r' hf hr h = refl
either_kept false e c f true r r' hf hr h = refl
either_kept true true c false false r r' hf hr h = refl
either_kept false true c f false r r' hf hr h = refl
either_kept true false true false false r r' hf hr h = hr h
either_kept false false true f false r r' hf hr h = hr h
either_kept true false false false false r r' hf hr h = absurd (false≢true h)
either_kept false false false f false r r' hf hr h = absurd (false≢true h)

-- each name that is found in some steps is one of the names
found_among : (steps : ℕ) (names : List (List ℕ)) → AreAmong (found_in_steps steps names) names
unfolding found_in_steps
found_among zero names name h = absurd (false≢true h)
found_among (suc steps) [] name h = h
found_among (suc steps) (x ∷ xs) name h =
    let names : List (List ℕ) = x ∷ xs in
    let half : ℕ = length names / 2 in
    let middle : List ℕ = get_or names half [] in
    let front : List (List ℕ) = take half names in
    let rear : List (List ℕ) = drop (half + 1) names in
    any_around (bytes_eq name) names half [] (half_below (length names) (omega arith))
    ∙ either_kept (is_before name middle) (bytes_eq name middle) (is_before middle name)
    (list_any (bytes_eq name) (found_in_steps steps front)) (list_any (bytes_eq name) front)
    (list_any (bytes_eq name) (found_in_steps steps rear)) (list_any (bytes_eq name) rear)
    (found_among steps front name) (found_among steps rear name)
    (sym (any_found_around name middle (found_in_steps steps front) (found_in_steps steps rear)) ∙ h)

-- each name that counts is one of the names
pub counted_among : (order : Order) (names : List (List ℕ)) → AreAmong (groups_that_count order names) names
counted_among Unknown names name h = h
counted_among Known names name h = h
counted_among (Copied copy) names name h = h
counted_among Said names name h = found_among (length names) names name h

-- ---- names in order

-- the order of names is one by which lists are sorted
by_bytes : IsStrictWeakOrder (λ (x y : List ℕ). is_lt (slice_cmp nat_cmp x y))
by_bytes = ranks_by nat_list_cmp_total (λ (x : List ℕ). x)

-- the front of names in order is in order
front_rises : (names : List (List ℕ)) (at : ℕ) → AreRisingNames names → AreRisingNames (take at names)
front_rises names at up k d low lt =
    let within : k + 1 < length names = omega (arith, lt, length-take at names) in
    let small : k + 1 < at = omega (arith, lt, length-take at names) in
    rw (get_or-take at names (k + 1) d small, get_or-take at names k d (omega (arith, small)))
    (up k d (omega arith) within)

-- the rear of names in order is in order
rear_rises : (names : List (List ℕ)) (at : ℕ) → AreRisingNames names → AreRisingNames (drop at names)
rear_rises names at up k d low lt =
    let within : at + k + 1 < length names = omega (arith, lt, length-drop at names) in
    let next : at + (k + 1) ≡ at + k + 1 = omega arith in
    rw (get_or-drop at names (k + 1) d, get_or-drop at names k d, next) (up (at + k) d (omega arith) within)

-- a name that is not before an element is no name that is before it
differs : (name middle other : List ℕ) → slice_cmp nat_cmp name middle ≡ Less
    → is_lt (slice_cmp nat_cmp other middle) ≡ false → bytes_eq name other ≡ false
differs name middle other less not_below = by (bytes_eq name other) refl
  where
    by : (b : Bool) → bytes_eq name other ≡ b → b ≡ false
    by false e = refl
    by true e =
        let same : name ≡ other = (bytes_eq-Decides name other).0 e in
        let below : is_lt (slice_cmp nat_cmp other middle) ≡ true =
        ap (λ (n : List ℕ). is_lt (slice_cmp nat_cmp n middle)) (sym same) ∙ ap is_lt less in
        absurd (false≢true (sym not_below ∙ below))

-- a name before the middle one is not behind it
not_in_rear : (name : List ℕ) (names : List (List ℕ)) (at : ℕ) → AreRisingNames names → at < length names
    → slice_cmp nat_cmp name (get_or names at []) ≡ Less → list_any (bytes_eq name) (drop (at + 1) names) ≡ false
not_in_rear name names at up lt less = list_any_none (bytes_eq name) (drop (at + 1) names) each
  where
    each : (k : ℕ) (d : List ℕ) → k < length (drop (at + 1) names)
        → bytes_eq name (get_or (drop (at + 1) names) k d) ≡ false
    each k d low =
        let within : at + 1 + k < length names = omega (arith, low, length-drop (at + 1) names) in
        let far : is_lt (slice_cmp nat_cmp (get_or names (at + 1 + k) []) (get_or names at [])) ≡ false =
        sorted_far (λ (x y : List ℕ). is_lt (slice_cmp nat_cmp x y)) by_bytes names up at (at + 1 + k) []
        (omega arith) within in
        differs name (get_or names at []) (get_or (drop (at + 1) names) k d) less
        (ap (λ (n : List ℕ). is_lt (slice_cmp nat_cmp n (get_or names at [])))
        (get_or-drop (at + 1) names k d ∙ get_or_default names (at + 1 + k) d [] within) ∙ far)

-- a name is not an element that is not above another element, if it is above that one
differs_above : (name middle other : List ℕ) → slice_cmp nat_cmp name middle ≡ Greater
    → is_lt (slice_cmp nat_cmp middle other) ≡ false → bytes_eq name other ≡ false
differs_above name middle other greater not_above = by (bytes_eq name other) refl
  where
    back : slice_cmp nat_cmp middle name ≡ Less
    back = nat_list_cmp_total.antisymm middle name ∙ ap ordering_reverse greater

    by : (b : Bool) → bytes_eq name other ≡ b → b ≡ false
    by false e = refl
    by true e =
        let same : name ≡ other = (bytes_eq-Decides name other).0 e in
        let above : is_lt (slice_cmp nat_cmp middle other) ≡ true =
        ap (λ (n : List ℕ). is_lt (slice_cmp nat_cmp middle n)) (sym same) ∙ ap is_lt back in
        absurd (false≢true (sym not_above ∙ above))

-- a name behind the middle one is not in front of it
not_in_front : (name : List ℕ) (names : List (List ℕ)) (at : ℕ) → AreRisingNames names → at < length names
    → slice_cmp nat_cmp name (get_or names at []) ≡ Greater → list_any (bytes_eq name) (take at names) ≡ false
not_in_front name names at up lt greater = list_any_none (bytes_eq name) (take at names) each
  where
    each : (k : ℕ) (d : List ℕ) → k < length (take at names) → bytes_eq name (get_or (take at names) k d) ≡ false
    each k d low =
        let small : k < at = omega (arith, low, length-take at names) in
        let far : is_lt (slice_cmp nat_cmp (get_or names at []) (get_or names k [])) ≡ false =
        sorted_far (λ (x y : List ℕ). is_lt (slice_cmp nat_cmp x y)) by_bytes names up k at []
        (omega (arith, small)) lt in
        differs_above name (get_or names at []) (get_or (take at names) k d) greater
        (ap (λ (n : List ℕ). is_lt (slice_cmp nat_cmp (get_or names at []) n))
        (get_or-take at names k d small ∙ get_or_default names k d [] (omega (arith, small, lt))) ∙ far)

-- a name is in names in order, as its order to an element says
there_by_order : (name : List ℕ) (names : List (List ℕ)) (at : ℕ) (o : Ordering) → AreRisingNames names
    → at < length names → slice_cmp nat_cmp name (get_or names at []) ≡ o
    → list_any (bytes_eq name) names
    ≡ by_order o (list_any (bytes_eq name) (take at names)) (list_any (bytes_eq name) (drop (at + 1) names))
there_by_order name names at o up lt e = any_around (bytes_eq name) names at [] lt ∙ by o e
  where
    same : (o : Ordering) → slice_cmp nat_cmp name (get_or names at []) ≡ o
        → bytes_eq name (get_or names at []) ≡ is_eq (ordering_reverse o)
    same o e = eq_as_cmp name (get_or names at []) (ordering_reverse o)
        (nat_list_cmp_total.antisymm (get_or names at []) name ∙ ap ordering_reverse e)

    by : (o : Ordering) → slice_cmp nat_cmp name (get_or names at []) ≡ o
        → (list_any (bytes_eq name) (take at names)
        || (bytes_eq name (get_or names at []) || list_any (bytes_eq name) (drop (at + 1) names)))
        ≡ by_order o (list_any (bytes_eq name) (take at names)) (list_any (bytes_eq name) (drop (at + 1) names))
    by Less e = rw (same Less e, not_in_rear name names at up lt e)
        (or-false (list_any (bytes_eq name) (take at names)))
    by Equal e = rw (same Equal e) (or-true (list_any (bytes_eq name) (take at names)))
    by Greater e = rw (same Greater e, not_in_front name names at up lt e) refl

-- among names in order each is found
found_rising : (steps : ℕ) (names : List (List ℕ)) → length names ≤ steps → AreRisingNames names
    → AreSameGroups (found_in_steps steps names) names
unfolding found_in_steps
found_rising zero [] le up name = refl
found_rising zero (x ∷ xs) le up name = absurd (omega (arith, le))
found_rising (suc steps) [] le up name = refl
found_rising (suc steps) (x ∷ xs) le up name =
    let names : List (List ℕ) = x ∷ xs in
    let half : ℕ = length names / 2 in
    let lt : half < length names = half_below (length names) (omega arith) in
    let o : Ordering = slice_cmp nat_cmp name (get_or names half []) in
    let front : list_any (bytes_eq name) (found_in_steps steps (take half names))
    ≡ list_any (bytes_eq name) (take half names) =
    found_rising steps (take half names) (front_shorter names steps le) (front_rises names half up) name in
    let rear : list_any (bytes_eq name) (found_in_steps steps (drop (half + 1) names))
    ≡ list_any (bytes_eq name) (drop (half + 1) names) =
    found_rising steps (drop (half + 1) names) (rear_shorter names steps le) (rear_rises names (half + 1) up) name in
    around_by_order name (get_or names half []) (found_in_steps steps (take half names))
    (found_in_steps steps (drop (half + 1) names)) o refl
    ∙ ap (λ (b : Bool). by_order o b (list_any (bytes_eq name) (found_in_steps steps (drop (half + 1) names)))) front
    ∙ ap (λ (b : Bool). by_order o (list_any (bytes_eq name) (take half names)) b) rear
    ∙ sym (there_by_order name names half o up lt refl)

-- among names in order all are found
pub all_found : (names : List (List ℕ)) → AreRisingNames names → AreSameGroups (found_groups names) names
all_found names up = found_rising (length names) names (omega arith) up

-- in any order, each name that is found is one of the names
pub all_among : (names : List (List ℕ)) → AreAmong (found_groups names) names
all_among names = found_among (length names) names
