-- Where a list names the same as another (this library's own).
use Rattle.std.specs.Prelude.{◌≡◌, ℕ, ◌<◌, List, ◌++◌, length, map, slice_index_or}
use Rattle.acl_nfs4.specs.declared.ace.AceRef.{AceRef}
use Rattle.acl_normal.specs.declared.comparison.placing.Whom.{Whom}
use Rattle.acl_normal.specs.declared.comparison.placing.Whom.TheVariants.{Nobody}

-- two ACEs have the same flags and the same who, so that both name one principal and both take part or neither does
pub record HaveOneWho (a b : AceRef) : Type 0 where
  pub flags : a.flags ≡ b.flags
  pub who : a.who.now ≡ b.who.now

-- the ACE at a place of a list has the same who
pub record HasSameWho (refs : List AceRef) (b : AceRef) (place : ℕ) : Type 0 where
  pub within : place < length refs
  pub same : HaveOneWho (slice_index_or refs place b) b

-- each of the first n ACEs of another list has the same who as that at its place in a list
pub record ArePlacesOf (refs others : List AceRef) (n : ℕ) (places : List ℕ) : Type 0 where
  pub count : length places ≡ n
  pub within : (i : ℕ) → i < n → slice_index_or places i 0 < length refs
  pub each : (i : ℕ) (z : AceRef) → i < n → HasSameWho refs (slice_index_or others i z) (slice_index_or places i 0)

-- whom some ACEs name, and after it, by place, whom those at the places name
abbrev pub with_copies : List Whom → List ℕ → List Whom
with_copies whoms places = whoms ++ map (λ p. slice_index_or whoms p Nobody) places
