-- The order of groups, in which a group is looked up: this library's own.
use Rattle.std.specs.Prelude.{ℕ, List, map}
use Rattle.std.specs.Borrow.{Bor}
use Rattle.std.specs.Cmp.Lexicographic.{slice_cmp}
use Rattle.std.specs.List.Sorted.{IsSorted}
use Rattle.std.specs.Ordering.{nat_cmp, on}
use Rattle.acl_eval.specs.GroupSearch.{AreSameGroups}

-- no name comes after the next, byte by byte
abbrev pub AreInOrder : List (Bor (List ℕ)) → Type 0
AreInOrder groups = IsSorted (on (λ g. g.now) (slice_cmp nat_cmp)) groups

-- a copy has the same names in order
abbrev pub IsSortedCopy : List (Bor (List ℕ)) → List (Bor (List ℕ)) → Type 0
IsSortedCopy groups copy = AreInOrder copy × AreSameGroups (map (λ g. g.now) copy) (map (λ g. g.now) groups)
