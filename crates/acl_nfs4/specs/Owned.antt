-- The owned list (RFC 8881, section 6.2.1): what its fields hold, and when two lists are equal; their order and what a
-- hasher is fed are this library's own.
use Rattle.std.specs.Prelude.{◌≡◌, ℕ, ◌≤◌, List, [], ◌∷◌, length, Bool, nat_eq}
use Rattle.std.specs.Ordering.{nat_cmp, on}
use Rattle.std.specs.declared.cmp.Ordering.{Ordering}
use Rattle.std.specs.Cmp.Lexicographic.{pointwise, slice_cmp}
use Rattle.std.specs.Hash.{HashWrites}
use Rattle.std.specs.List.{flat_map}
use Rattle.acl_nfs4.specs.Ace.{Ace}
use Rattle.acl_nfs4.specs.Limits.{most_aces}
use Rattle.acl_nfs4.specs.Spelling.{piece, spelling, weight, word}
use Rattle.acl_nfs4.specs.internal.Body.{aces_of, IsBody}
-- lists are compared by an equivalence
pub use Rattle.acl_nfs4.specs.internal.SameSpelling.{same_list_laws, same_list_equiv}

-- the fields of a list: the pieces of this many ACEs of that weight, within the limit
pub record IsOwned (count total : ℕ) (body : List ℕ) : Type 0 where
  pub spells : IsBody count body
  pub small : count ≤ most_aces
  pub heavy : weight (aces_of count body) ≡ total

-- the lists have the same spelling; two accepted lists have the same spelling if and only if they are the same
abbrev pub same_list : List Ace → List Ace → Bool
same_list = on spelling (pointwise nat_eq)

-- lists are ordered by their spellings, byte by byte: by their lengths, and at one length by the first word in which
-- their ACEs differ
abbrev pub list_cmp : List Ace → List Ace → Ordering
list_cmp = on spelling (slice_cmp nat_cmp)

-- what a hasher is fed for a list: the word of its length, and then the pieces of its ACEs
abbrev pub list_writes : List Ace → HashWrites
list_writes list = word (length list) ∷ flat_map piece list ∷ []
