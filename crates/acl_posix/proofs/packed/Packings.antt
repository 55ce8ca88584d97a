-- Entries as single numbers: a number gives its entry back, numbers rise as the tags do, and a list with the same
-- entries in another order has the same set.
use Rattle.acl_posix.proofs.Common.{[], All, All-map, ap, apart_from_distinct, arith, as_set, cond, Contains-permutation, eq_by_cmp, eq_by_cmp_equiv, false, find, get-from_entries, get_or, is_eq, is_lt, IsDistinct, IsDistinct-from_sorted, IsDistinct-IsPermutation, IsEntry, IsNonDecreasing, IsPacked, IsPermutation, IsPermutation-map, IsPermutation-sym, IsSorted, length, length-map, Less, List, lookup, map, map-map, map_fixed, nat_cmp, nat_lt, None, Option, packed, qualifier, rank, refl, same_map, Some, sorted_from_all_adjacent, subst, sym, Tag, tag_again, tag_cmp, tags, tags_total, unpacked, ℕ, ◌%◌, ◌+◌, ◌/◌, ◌<◌, ◌∙◌, ◌∷◌, ◌≡◌, ◌≤◌}
use Rattle.std.proofs.Math.ListN.{get_or-map}
use Rattle.std.proofs.lemmas.Map.Views.{Contains-from_lookup, lookup-from_Contains}
use Rattle.acl_posix.proofs.tag.Tags.{exact_tags, number, number_cmp, qualifier_below, same_tag}
use Rattle.acl_posix.proofs.sorting.ValidLists.{apart_distinct, AreApart, distinct_apart}

-- ---- an entry as a number

-- the number of an entry, without the permissions, is the number of its tag
packed_tag : (e : Tag × ℕ) → IsEntry e → packed e / 8 ≡ number e.0
unfolding packed
packed_tag e h = omega (arith, h.1)

-- the number of an entry gives the entry back
pub unpacked_packed : (e : Tag × ℕ) → IsEntry e → unpacked (packed e) ≡ e
unfolding packed unpacked
unpacked_packed e h =
    let below = qualifier_below e.0 h.0 in
    let rank_is : packed e / 8 / 4294967296 ≡ rank e.0 = omega (arith, below, h.1) in
    let qualifier_is : packed e / 8 % 4294967296 ≡ qualifier e.0 = omega (arith, below, h.1) in
    let perm_is : packed e % 8 ≡ e.1 = omega (arith, h.1) in
    rw (rank_is, qualifier_is, perm_is, tag_again e.0) refl

-- the numbers of a list of entries mean entries
pub all_packed : (ps : List (Tag × ℕ)) → All IsEntry ps → All IsPacked (map packed ps)
all_packed ps h = All-map IsPacked packed ps (λ k d lt.
    let again = unpacked_packed _ (h k d lt) in
    record { entry = subst IsEntry (sym again) (h k d lt); again = ap packed again })

-- the numbers of a list of entries give the entries back
pub all_unpacked : (ps : List (Tag × ℕ)) → All IsEntry ps → map unpacked (map packed ps) ≡ ps
all_unpacked ps h =
    map-map unpacked packed ps ∙ map_fixed (λ p. unpacked (packed p)) ps (λ k d lt. unpacked_packed _ (h k d lt))

-- ---- numbers rise as tags do

-- a number that means an entry, without the permissions, is the number of the tag of the entry
number_of : (key : ℕ) → IsPacked key → key / 8 ≡ number (unpacked key).0
number_of key h = ap (λ n. n / 8) (sym h.again) ∙ packed_tag (unpacked key) h.entry

-- two numbers without the permissions compare as their tags do
key_cmp : (a b : ℕ) → IsPacked a → IsPacked b → nat_cmp (a / 8) (b / 8) ≡ tag_cmp (unpacked a).0 (unpacked b).0
key_cmp a b of_a of_b =
    ap (λ n. nat_cmp n (b / 8)) (number_of a of_a) ∙ ap (nat_cmp (number (unpacked a).0)) (number_of b of_b)
    ∙ number_cmp (unpacked a).0 (unpacked b).0 of_a.entry.0 of_b.entry.0

-- a number is less than another if and only if it compares as less
is_lt-nat_cmp : (x y : ℕ) → nat_lt x y ≡ is_lt (nat_cmp x y)
is_lt-nat_cmp x y = grind arith

-- a number without the permissions is less than the next if and only if its tag is
pub keys_less : (keys : List ℕ) → All IsPacked keys → (k d : ℕ) → k + 1 < length keys
    → nat_lt (get_or keys k d / 8) (get_or keys (k + 1) d / 8)
    ≡ is_lt (tag_cmp (unpacked (get_or keys k d)).0 (unpacked (get_or keys (k + 1) d)).0)
keys_less keys all k d lt = is_lt-nat_cmp _ _ ∙ ap is_lt (key_cmp _ _ (all k d (omega (arith, lt))) (all (k + 1) d lt))

-- ---- the same entries in another order

-- searching for a tag in a list of entries is a look-up by the equality of tags
find_again : (q : Tag) (es : List (Tag × ℕ)) → find tag_cmp q es ≡ lookup (eq_by_cmp tag_cmp q) es
find_again q [] = refl
find_again q (e ∷ es) = ap (cond (eq_by_cmp tag_cmp q e.0) (Some e.1)) (find_again q es)

-- two lists with the same entries have the same permissions for a tag
lookup-moved : (ps qs : List (Tag × ℕ)) (q : Tag) (v : ℕ) → IsPermutation ps qs → AreApart qs
    → lookup (eq_by_cmp tag_cmp q) ps ≡ Some v → lookup (eq_by_cmp tag_cmp q) qs ≡ Some v
lookup-moved ps qs q v h apart is = lookup-from_Contains (eq_by_cmp_equiv tags_total) q v qs apart
    (Contains-permutation ps qs (q, v) h (Contains-from_lookup same_tag q v ps is))

-- two options are equal if each value of one is the value of the other
same_options : {X : Type 0} (a b : Option X) → ((v : X) → a ≡ Some v → b ≡ Some v) → ((v : X) → b ≡ Some v → a ≡ Some v)
    → a ≡ b
same_options (Some x) b to back = sym (to x refl)
same_options None None to back = refl
same_options None (Some x) to back = back x refl

-- if any two tags of a list differ, any two tags of a list with the same entries differ
tags_moved : (ps qs : List (Tag × ℕ)) → IsPermutation ps qs → AreApart ps → AreApart qs
tags_moved ps qs h = IsDistinct-IsPermutation (eq_by_cmp tag_cmp) (eq_by_cmp_equiv tags_total).symm (tags ps) (tags qs)
    (IsPermutation-map (λ (e : Tag × ℕ). e.0) ps qs h)

-- if a list has the entries of one in canonical order, any two of its tags differ
sorted_apart : (ps qs : List (Tag × ℕ)) → IsPermutation ps qs → IsSorted qs → AreApart ps
sorted_apart ps qs h sorted =
    tags_moved qs ps (IsPermutation-sym ps qs h) (IsDistinct-from_sorted tag_cmp (tags qs) sorted)

-- a list with the entries of one in canonical order has its set
pub as_set-moved : (ps qs : List (Tag × ℕ)) → IsPermutation ps qs → IsSorted qs → as_set qs ≡ as_set ps
as_set-moved ps qs h sorted = same_map tags_total exact_tags _ _ (λ q.
    get-from_entries tags_total qs q ∙ find_again q qs ∙ same_options _ _
    (λ v. lookup-moved qs ps q v (IsPermutation-sym ps qs h) (sorted_apart ps qs h sorted))
    (λ v. lookup-moved ps qs q v h (IsDistinct-from_sorted tag_cmp (tags qs) sorted))
    ∙ sym (find_again q ps) ∙ sym (get-from_entries tags_total ps q))

-- in a list with the entries of one in canonical order no tag occurs twice
pub moved_distinct : (ps qs : List (Tag × ℕ)) → IsPermutation ps qs → IsSorted qs → IsDistinct ps
moved_distinct ps qs h sorted = apart_distinct ps (sorted_apart ps qs h sorted)

-- a number that is at most another, and does not compare as equal to it, compares as less
not_greater : (x y : ℕ) → x ≤ y → is_eq (nat_cmp x y) ≡ false → nat_cmp x y ≡ Less
not_greater x y le differ = grind arith

-- numbers that do not fall rise without the permissions, if no tag occurs twice
pub distinct_rise : (ps : List (Tag × ℕ)) (keys : List ℕ) → IsDistinct ps → IsPermutation ps (map unpacked keys)
    → All IsPacked keys → IsNonDecreasing keys → IsSorted (map unpacked keys)
distinct_rise ps keys distinct moves all up =
    sorted_from_all_adjacent tags_total (tags (map unpacked keys)) (unpacked 0).0 (λ k lt.
    let apart = apart_from_distinct (eq_by_cmp tag_cmp) (tags (map unpacked keys)) k (k + 1) (unpacked 0).0
    (tags_moved ps (map unpacked keys) moves (distinct_apart ps distinct)) (omega arith) lt in
    let within : k + 1 < length keys =
    omega (arith, lt, ap length tags_are, length-map keys (λ key. (unpacked key).0)) in
    let same = key_cmp _ _ (all k 0 (omega (arith, within))) (all (k + 1) 0 within) in
    let le = up k (k + 1) 0 (omega arith) within in
    read k (k + 1) ∙ sym same ∙ not_greater (get_or keys k 0 / 8) (get_or keys (k + 1) 0 / 8) (omega (arith, le))
    (ap is_eq same ∙ sym (ap is_eq (read k (k + 1))) ∙ apart))
  where
    tags_are : tags (map unpacked keys) ≡ map (λ key. (unpacked key).0) keys
    tags_are = map-map (λ p. p.0) unpacked keys

    read : (i j : ℕ) → tag_cmp (get_or (tags (map unpacked keys)) i (unpacked 0).0)
        (get_or (tags (map unpacked keys)) j (unpacked 0).0)
        ≡ tag_cmp (unpacked (get_or keys i 0)).0 (unpacked (get_or keys j 0)).0
    read i j = rw (
      tags_are,
      get_or-map (λ key. (unpacked key).0) keys i 0,
      get_or-map (λ key. (unpacked key).0) keys j 0,
    ) refl
