-- Rows of principals by number (this library's own): what is sorted for them.
use Rattle.std.specs.Prelude.{◌≡◌, ℕ, ◌+◌, ◌<◌, zero, suc, false, if◌then◌else◌, List, [], ◌∷◌, length, map}
use Rattle.std.specs.List.{Contains}
use Rattle.std.specs.List.Sorted.{IsPermutation, IsSortedByKey}
use Rattle.std.specs.Cmp.Lexicographic.{slice_cmp}
use Rattle.std.specs.Ordering.{is_lt, nat_cmp}
use Rattle.std.specs.declared.cmp.Ordering.TheVariants.{Less}
use Rattle.acl_perm.specs.Order.{principal_cmp}
use Rattle.acl_perm.specs.Principal.{Principal}
use Rattle.acl_nfs4.specs.Ace.{Ace}
use Rattle.acl_nfs4.specs.Who.{principal_of}
use Rattle.acl_normal.specs.internal.Places.{principal_here}
use Rattle.acl_normal.specs.internal.rows.Heads.{is_whole}
use Rattle.acl_normal.specs.declared.rows.numbers.HeadedPlace.{HeadedPlace}

-- no ACE names a principal below that of the one before it
abbrev pub DoNotFall : List Ace → Type 0
DoNotFall xs = (k : ℕ) → k + 1 < length xs
    → is_lt (principal_cmp (principal_here xs (k + 1)) (principal_here xs k)) ≡ false

-- whom the ACE at the place names, and the place
abbrev pub named_at : List Ace → HeadedPlace → Principal × ℕ
named_at xs n = (principal_here xs n.place, n.place)

-- whom each ACE names, with its place, from a place on
abbrev pub named_from : ℕ → List Ace → List (Principal × ℕ)
named_from i [] = []
named_from i (a ∷ xs) = (principal_of a, i) ∷ named_from (suc i) xs

-- whom each ACE names, with its place, in the order of the principals
pub record AreSortedNames (xs : List Ace) (names : List (Principal × ℕ)) : Type 0 where
  pub permutation : IsPermutation (named_from 0 xs) names
  pub sorted : IsSortedByKey (λ n. n.0) principal_cmp names

-- the who of the ACE at a place, and no bytes after the last
abbrev pub who_here : List Ace → ℕ → List ℕ
who_here [] i = []
who_here (a ∷ xs) zero = a.who
who_here (a ∷ xs) (suc i) = who_here xs i

-- the who of the ACE at a place, and no bytes if the head has the whole name
abbrev pub tail_here : List Ace → HeadedPlace → List ℕ
tail_here xs n = if is_whole n.head then [] else who_here xs n.place

-- of two places, that with the lesser head is of an ACE that names the lesser principal, and where the heads are the
-- same, the rest of the whos decides the order of the principals
pub record DoHeadsTell (xs : List Ace) (places : List HeadedPlace) : Type 0 where
  pub lesser : (m n : HeadedPlace) → Contains places m → Contains places n → m.head < n.head
      → principal_cmp (principal_here xs m.place) (principal_here xs n.place) ≡ Less
  pub same : (m n : HeadedPlace) → Contains places m → Contains places n → m.head ≡ n.head
      → principal_cmp (principal_here xs m.place) (principal_here xs n.place)
      ≡ slice_cmp nat_cmp (tail_here xs m) (tail_here xs n)

-- each place in turn, with a head
pub record AreHeaded (xs : List Ace) (places : List HeadedPlace) : Type 0 where
  pub names : map (named_at xs) places ≡ named_from 0 xs
  pub heads : DoHeadsTell xs places

-- the places in the order of the principals, each with its head
pub record AreSorted (xs : List Ace) (places : List HeadedPlace) : Type 0 where
  pub names : AreSortedNames xs (map (named_at xs) places)
  pub heads : DoHeadsTell xs places
