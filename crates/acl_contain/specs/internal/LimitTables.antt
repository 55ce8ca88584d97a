-- Tables by the places of a bound (this library's own).
use Rattle.std.specs.Prelude.{ℕ, ◌<◌, List, length, slice_index_or}
use Rattle.acl_normal.specs.internal.comparison.FirstPlaces.{no_placing}
use Rattle.acl_normal.specs.declared.comparison.placing.Placing.{Placing}

-- two tables have a number for the place of each placing in the bound
pub record HaveTables (placings : List Placing) (users others : List ℕ) : Type 0 where
  pub in_users : (k : ℕ) → k < length placings → (slice_index_or placings k no_placing).there.place < length users
  pub in_others : (k : ℕ) → k < length placings → (slice_index_or placings k no_placing).there.place < length others
