-- What a list may keep under a bound at every path of creations (this library's own, over what lists grant by RFC 8881,
-- section 6.2.1, and over its own table of inheritance).
use Rattle.std.specs.Prelude.{List}
use Rattle.acl_perm.specs.Bits.{all_rights}
use Rattle.acl_nfs4.specs.Ace.{Ace}
use Rattle.acl_eval.specs.Grant.{GrantsAtMost}
use Rattle.acl_normal.specs.Paths.{Path, at}
use Rattle.acl_contain.specs.Removal.{IsGreatestWithin}

-- at the path, the first list grants at most what the second grants
abbrev pub AtMostAt : List Ace → List Ace → Path → Type 0
AtMostAt list other path = GrantsAtMost all_rights (at list path) (at other path)

-- at every path, the first list grants at most what the second grants
abbrev pub AtMostEverywhere : List Ace → List Ace → Type 0
AtMostEverywhere list other = (path : Path) → AtMostAt list other path

-- a removal of the list that grants at most what the bound grants at every path, and of which every such removal is a
-- removal
abbrev pub IsGreatestEverywhere : List Ace → List Ace → List Ace → Type 0
IsGreatestEverywhere list bound = IsGreatestWithin (λ cut. AtMostEverywhere cut bound) list
