-- The ACEs of a list without the word of their number, as a view or an iterator holds them: this library's own
-- definitions, for the fields of its types. They say what a view's bytes mean by where the fields are.
use Rattle.std.specs.Prelude.{◌≡◌, ℕ, zero, suc, ◌+◌, ◌≤◌, List, [], ◌∷◌, ◌++◌, length, take, drop}
use Rattle.std.specs.List.{flat_map, AllByRecursion}
use Rattle.acl_perm.specs.Profile.{full}
use Rattle.acl_nfs4.specs.Ace.{Ace}
use Rattle.acl_nfs4.specs.Limits.{most_aces, most_weight}
use Rattle.acl_nfs4.specs.Fields.{number_at}
use Rattle.acl_nfs4.specs.Spelling.{pad_len, piece, weight, IsAce}
use Rattle.acl_nfs4.specs.AccessPart.{kind_of_type}

-- the length of the who of the ACE at the front
abbrev pub front_who_len : List ℕ → ℕ
front_who_len bytes = number_at 12 bytes

-- the ACE at the front
abbrev pub front_ace : List ℕ → Ace
front_ace bytes = record {
  kind = kind_of_type (number_at 0 bytes);
  flags = number_at 4 bytes;
  mask = number_at 8 bytes;
  who = take (front_who_len bytes) (drop 16 bytes);
}

-- this many of the ACEs that the bytes spell, from the first on
unfoldable pub aces_of : ℕ → List ℕ → List Ace
aces_of zero bytes = []
aces_of (suc n) bytes =
    front_ace bytes ∷ aces_of n (drop (16 + front_who_len bytes + pad_len (front_who_len bytes)) bytes)

-- the bytes spell this list of ACEs and nothing more
pub record SpellsBody (list : List Ace) (bytes : List ℕ) : Type 0 where
  pub spelled : bytes ≡ flat_map piece list
  pub weight : weight list ≤ most_weight
  pub each : AllByRecursion (IsAce full) list

-- the bytes are the pieces of this many ACEs
pub record IsBody (count : ℕ) (bytes : List ℕ) : Type 0 where
  pub spells : SpellsBody (aces_of count bytes) bytes
  pub whole : length (aces_of count bytes) ≡ count

-- the bytes are the pieces of this many ACEs, and these are no more than a list may have
pub record IsList (count : ℕ) (bytes : List ℕ) : Type 0 where
  pub body : IsBody count bytes
  pub small : count ≤ most_aces

-- the bytes begin with the piece of an ACE
abbrev pub BeginsWithAce : List ℕ → Type 0
BeginsWithAce bytes = (a : Ace) × (more : List ℕ) × IsAce full a × (bytes ≡ piece a ++ more)
