-- Lists whose keys rise (this library's own, over RFC 8881, section 6.2.1).
use Rattle.std.specs.Prelude.{◌≢◌, ◌<◌, ℕ, List, map}
use Rattle.std.specs.List.Sorted.{IsStrictlySortedBy}
use Rattle.acl_nfs4.specs.Ace.{Ace}
use Rattle.acl_nfs4.specs.Who.{principal_of}
use Rattle.acl_normal.specs.Keys.{ace_key, compare_keys}
use Rattle.acl_normal.specs.Normal.{flags_for}
use Rattle.acl_normal.specs.internal.Places.{key_here, mask_here}
use Rattle.acl_normal.specs.internal.rows.Rows.{key_number}

-- each key is less than those after it
abbrev pub IsRising : List Ace → Type 0
IsRising list = IsStrictlySortedBy (λ (a b : Ace). compare_keys (ace_key a) (ace_key b)) list

-- the ACE with the flags that its principal has in a normal form
abbrev pub cleared : Ace → Ace
cleared a = record a { flags = flags_for (principal_of a) }

-- the list with those flags
abbrev pub all_cleared : List Ace → List Ace
all_cleared = map cleared

-- of the first places of a list, those with a mask have rising keys, whose numbers are below a bound
pub record HasRisen (xs : List Ace) (place bound : ℕ) : Type 0 where
  pub rising : (i j : ℕ) → i < j → j < place → mask_here xs i ≢ 0 → mask_here xs j ≢ 0
      → key_number (key_here xs i) xs < key_number (key_here xs j) xs
  pub below : (i : ℕ) → i < place → mask_here xs i ≢ 0 → key_number (key_here xs i) xs < bound
