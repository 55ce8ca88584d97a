-- Lists that keep within a profile, and keys that come before another (this library's own).
use Rattle.std.specs.Prelude.{Bool, false, ◌||◌, List, [], ◌∷◌}
use Rattle.std.specs.List.{AllByRecursion}
use Rattle.acl_perm.specs.Profile.{Profile}
use Rattle.acl_nfs4.specs.Ace.{Ace}
use Rattle.acl_nfs4.specs.Spelling.{IsAce}
use Rattle.acl_eval.specs.Column.{Column}
use Rattle.acl_normal.specs.Keys.{ColumnKey, conflicts}

-- what is within a profile stays within it
abbrev pub KeepsProfiles : List Ace → List Ace → Type 0
KeepsProfiles list kept = (p : Profile) → AllByRecursion (IsAce p) list → AllByRecursion (IsAce p) kept

-- a key before the given one conflicts with it
abbrev pub conflicts_before : Column → ColumnKey → Bool
conflicts_before [] e = false
conflicts_before (first ∷ c) e = conflicts first e || conflicts_before c e
