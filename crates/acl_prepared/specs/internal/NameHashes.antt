-- The hashes of the groups of a requester: this library's own.
use Rattle.std.specs.Prelude.{◌≡◌, ◌/◌, ◌%◌, ℕ, Bool, true, List, slice_index_or}
use Rattle.std.specs.List.{list_any}
use Rattle.std.specs.Str.{bytes_eq}
use Rattle.acl_perm.specs.Bits.{has_bit}
use Rattle.acl_prepared.specs.Prepared.{name_hash}

-- the hash is marked: its bit is set, in words of 64 bits, of which the first has the hashes from 0 to 63
abbrev pub is_marked : List ℕ → ℕ → Bool
is_marked marks hash = has_bit (slice_index_or marks (hash / 64) 0) (hash % 64)

-- the hash of each of these names is marked
abbrev pub AreHashesOf : List ℕ → List (List ℕ) → Type 0
AreHashesOf marks names = (name : List ℕ) → list_any (bytes_eq name) names ≡ true
    → is_marked marks (name_hash name) ≡ true
