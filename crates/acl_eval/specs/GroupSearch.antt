-- The groups that a binary search finds among names in any order: this library's own. Names are compared byte by byte.
use Rattle.std.specs.Prelude.{◌≡◌, ◌+◌, ◌/◌, ◌++◌, ◌∷◌, ℕ, zero, suc, Bool, true, List, [], drop, filter, length, slice_index_or, take}
use Rattle.std.specs.Cmp.Lexicographic.{slice_cmp}
use Rattle.std.specs.List.{list_any}
use Rattle.std.specs.List.Sorted.{IsSorted}
use Rattle.std.specs.Ordering.{is_lt, nat_cmp}
use Rattle.std.specs.Str.{bytes_eq}
use Rattle.acl_eval.specs.declared.groups.Order.{Order}
use Rattle.acl_eval.specs.declared.groups.Order.TheVariants.{Copied, Known, Said, Unknown}

-- ---- names in order, and names of two lists

-- a name comes before another
abbrev pub is_before : List ℕ → List ℕ → Bool
is_before name other = is_lt (slice_cmp nat_cmp name other)

-- no name comes after the next
abbrev pub AreRisingNames : List (List ℕ) → Type 0
AreRisingNames names = IsSorted (slice_cmp nat_cmp) names

-- the same names are in both lists
abbrev pub AreSameGroups : List (List ℕ) → List (List ℕ) → Type 0
AreSameGroups groups others = (name : List ℕ) → list_any (bytes_eq name) groups ≡ list_any (bytes_eq name) others

-- each of these names is one of the others
abbrev pub AreAmong : List (List ℕ) → List (List ℕ) → Type 0
AreAmong groups others =
    (name : List ℕ) → list_any (bytes_eq name) groups ≡ true → list_any (bytes_eq name) others ≡ true

-- ---- the search, which compares a name with the middle one, and goes on in front of it or behind it

-- The names that are found on both sides of the middle one, and the middle one. A search goes to the front only for a
-- name that comes before the middle one, and to the rear only for a name that comes after it.
abbrev pub found_around : List (List ℕ) → List ℕ → List (List ℕ) → List (List ℕ)
found_around front middle rear =
    filter (λ name. is_before name middle) front ++ (middle ∷ filter (λ name. is_before middle name) rear)

-- the names that are found in this many steps
unfoldable pub found_in_steps : ℕ → List (List ℕ) → List (List ℕ)
found_in_steps zero names = []
found_in_steps (suc steps) [] = []
found_in_steps (suc steps) (first ∷ others) =
    let names = first ∷ others in
    let half = length names / 2 in
    found_around (found_in_steps steps (take half names)) (slice_index_or names half [])
    (found_in_steps steps (drop (half + 1) names))

-- the names that are found: each step takes out one name or more
abbrev pub found_groups : List (List ℕ) → List (List ℕ)
found_groups names = found_in_steps (length names) names

-- ---- the groups of a requester

-- the names that count, of the names that are given: those that are found if the caller said that they are in order
abbrev pub groups_that_count : Order → List (List ℕ) → List (List ℕ)
groups_that_count Unknown names = names
groups_that_count Known names = names
groups_that_count (Copied copy) names = names
groups_that_count Said names = found_groups names
