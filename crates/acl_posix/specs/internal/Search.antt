-- The result of a search: the place of a tag in a list in canonical order, or the place where it would be inserted
-- (this library's own).
use Rattle.std.specs.Prelude.{ℕ, ◌≡◌, ◌<◌, ◌≤◌, List, length, get_or, Result, MatchResult}
use Rattle.std.specs.Ordering.{nat_cmp, ordering_then}
use Rattle.std.specs.declared.cmp.Ordering.{Ordering}
use Rattle.std.specs.declared.cmp.Ordering.TheVariants.{Less, Greater}
use Rattle.acl_posix.specs.Tag.{Tag, qualifier, rank, tag_cmp}

-- the tag is at a place
pub record IsTagAt (tags : List Tag) (tag : Tag) (place : ℕ) : Type 0 where
  pub in_range : place < length tags
  pub has : get_or tags place tag ≡ tag

-- the tag would be inserted at a place: the tags before the place are less, and those from there on are greater
pub record IsGap (tags : List Tag) (tag : Tag) (place : ℕ) : Type 0 where
  pub in_range : place ≤ length tags
  pub before : (at : ℕ) → at < place → tag_cmp (get_or tags at tag) tag ≡ Less
  pub after : (at : ℕ) → place ≤ at → at < length tags → tag_cmp (get_or tags at tag) tag ≡ Greater

-- the place of a tag, or else the place where it would go
abbrev pub IsPlaceOf : List Tag → Tag → Result ℕ ℕ → Type 0
IsPlaceOf tags tag answer = MatchResult answer (IsTagAt tags tag) (IsGap tags tag)

-- how a tag compares, in canonical order, with the tag of this rank and this qualifier
abbrev pub order_of : Tag → ℕ → ℕ → Ordering
order_of tag of_rank of_qualifier =
    ordering_then (nat_cmp (rank tag) of_rank) (nat_cmp (qualifier tag) of_qualifier)
